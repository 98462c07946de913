use Rattle.std.proofs.Common.{◌≡◌, ◌⊎◌, inl, inr, ◌∷◌, [], ◌++◌, ◌∙◌, ℕ, pos, List, map, take, All, Contains, get_or, sym, subst, ap, arith}
use Rattle.std.specs.List.{range_with_len}
use Rattle.std.proofs.lemmas.List.{take_more}
use Rattle.std.proofs.lemmas.List.Elements.{Contains-get_or, Contains-push_cases}
use Rattle.std.proofs.lemmas.List.FromFn.{map-range_with_len_more}
use Rattle.grid_network.specs.declared.key.Key.{Key}
use Rattle.grid_network.specs.declared.numbered_names.NumberedName.{NumberedName}
use Rattle.grid_network.specs.inside.Steps.{front_of, numbered_name, IsShort}
use Rattle.grid_network.proofs.named.names.Goals as goal

short_push : (xs : List Key) (y : Key) → All IsShort xs → IsShort y → All IsShort (xs ++ y ∷ [])
short_push xs y all one k d within = by (Contains-push_cases xs y (get_or (xs ++ y ∷ []) k d) (Contains-get_or (xs ++ y ∷ []) k d within))
  where
    by : (Contains xs (get_or (xs ++ y ∷ []) k d) ⊎ (y ≡ get_or (xs ++ y ∷ []) k d)) → IsShort (get_or (xs ++ y ∷ []) k d)
    by (inl (j, below, e)) = subst IsShort e (all j (get_or (xs ++ y ∷ []) k d) below)
    by (inr e) = subst IsShort e one

pub loop-number-preserved : goal.loop-number-preserved
loop-number-preserved c =
    let i : ℕ = c.loop-number.number in
    let keys : List Key = c.args.keys.now in
    let d : Key = record { net = 0; layer = 0; x = pos 0; y = pos 0 } in
    let e = take_more keys i d c.loop-number-test.true in
    let named = c.deref.ensures.value ∙ c.in_ok-write_name.ensures.written in
    let again = c.deref-in-loop-number.ensures.value ∙ c.in_ok-write_name.ensures.written in
    let front = c.front_of.ensures ∙ ap (λ (s : List ℕ). front_of s 16) named in
    let name = c.in_ok-new.ensures ∙ again in
    let pushed : NumberedName = record { front = c.front_of.result; name = c.in_ok-new.field-0; number = i } in
    let is : pushed ≡ numbered_name c.args.layers keys i = λ t. record { front = front t; name = name t; number = i } in (
      c.in_ok-push.ensures.items ∙ ap (λ (l : List NumberedName). l ++ pushed ∷ []) c.loop-number.invariant.0
          ∙ ap (λ (n : NumberedName). map (numbered_name c.args.layers keys) (range_with_len 0 i) ++ n ∷ []) is
          ∙ sym (map-range_with_len_more (numbered_name c.args.layers keys) 0 i i (omega arith)),
      subst (All IsShort) (sym e) (short_push (take i keys) (get_or keys i d) c.loop-number.invariant.1 c.in_ok-write_name.ensures.short),
    )
