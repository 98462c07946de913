-- The potential of a net and its supply line.
use Rattle.std.proofs.Common.{◌≡◌, ◌↔◌, ◌⊎◌, inl, inr, Bool, true, false, not, ℕ, ◌+◌, ◌<◌, ◌≤◌, ℤ, List, [], ◌∷◌, ◌++◌, length, get_or, take, Option, Some, None, is_some, refl, sym, ◌∙◌, subst, ap, arith}
use Rattle.std.proofs.lemmas.Bool.{false≢true, cases_lt}
use Rattle.std.proofs.lemmas.List.{get_or_default, get_or_past, get_or_append_left, get_or_push, length_push, length-take, get_or-take}
use Rattle.bias_file.specs.declared.record.Bias.{Bias}
use Rattle.bias_file.specs.declared.record.Supply.{Supply}
use Rattle.grid_pieces.specs.declared.grid.Grid.{Grid}
use Rattle.grid_pieces.specs.Laws.Amongst.{none_is_no_value}
use Rattle.grid_taps.specs.Naming.{At}
use Rattle.grid_taps.specs.Refusals.{HasNoSupply}
use Rattle.grid_taps.specs.inside.Steps.{HasVolts, AreVolts}

pub true_of : (b : Bool) → not b ≡ false → b ≡ true
true_of true e = refl
true_of false e = absurd (false≢true (sym e))

-- a net without a potential has no supply line, and one with it has
pub bare_iff : (grid : Grid) (bias : Bias) (volts : List (Option ℤ)) (net : ℕ) → AreVolts bias.supplies grid.nets volts → (o : Option ℤ)
    → o ≡ get_or volts net None → (is_some o ≡ false) ↔ HasNoSupply grid bias net
bare_iff grid bias volts net are None is = (λ _. none, λ _. refl)
  where
    none : HasNoSupply grid bias net
    none s in_s at =
        let has : HasVolts bias.supplies s.net None = subst (λ o. HasVolts bias.supplies s.net o) (sym is) (are.each net s.net None at) in
        has s in_s refl
bare_iff grid bias volts net are (Some v) is = (λ h. absurd (false≢true (sym h)), λ none. absurd (some none (cases_lt net (length grid.nets))))
  where
    some : HasNoSupply grid bias net → (net < length grid.nets) ⊎ (length grid.nets ≤ net) → ⊥
    some none (inl within) =
        let name : List ℕ = get_or grid.nets net [] in
        let at : At grid.nets net name = (within, get_or_default grid.nets net name [] within) in
        let has : HasVolts bias.supplies name (Some v) = subst (λ o. HasVolts bias.supplies name o) (sym is) (are.each net name None at) in
        none has.0 has.1 (subst (λ n. At grid.nets net n) (sym has.2.0) at)
    some none (inr past) =
        none_is_no_value v (sym (get_or_past volts net None (omega (arith, are.as_many))) ∙ sym is)

-- one more net
pub volts_more : (supplies : List Supply) (nets : List (List ℕ)) (volts : List (Option ℤ)) (i : ℕ) (d name : List ℕ) (o : Option ℤ) → i < length nets
    → name ≡ get_or nets i d → HasVolts supplies name o → AreVolts supplies (take i nets) volts → AreVolts supplies (take (i + 1) nets) (volts ++ o ∷ [])
volts_more supplies nets volts i d name o within is has h = record {
  as_many = omega (arith, length_push volts o, many, length-take (i + 1) nets);
  each = λ k net e at. by_place k net e at (cases_lt k i);
}
  where
    many : length volts ≡ i
    many = omega (arith, h.as_many, length-take i nets)

    by_place : (k : ℕ) (net : List ℕ) (e : Option ℤ) → At (take (i + 1) nets) k net → (k < i) ⊎ (i ≤ k) → HasVolts supplies net (get_or (volts ++ o ∷ []) k e)
    by_place k net e at (inl before) =
        let there : get_or (take i nets) k net ≡ net = get_or-take i nets k net before ∙ sym (get_or-take (i + 1) nets k net (omega arith)) ∙ at.1 in
        let old : At (take i nets) k net = (omega (arith, before, length-take i nets), there) in
        subst (λ v. HasVolts supplies net v) (sym (get_or_append_left volts (o ∷ []) e k (omega (arith, h.as_many, old.0)))) (h.each k net e old)
    by_place k net e at (inr not_before) =
        let same : k ≡ i = omega (arith, at.0, length-take (i + 1) nets) in
        let one : get_or nets i d ≡ net =
        get_or_default nets i d net within ∙ ap (λ n. get_or nets n net) (sym same) ∙ sym (get_or-take (i + 1) nets k net (omega arith)) ∙ at.1 in
        let value : get_or (volts ++ o ∷ []) k e ≡ o = get_or_push volts o e k (omega (arith, same, many)) in
        subst (λ n. HasVolts supplies n (get_or (volts ++ o ∷ []) k e)) (is ∙ one) (subst (λ v. HasVolts supplies name v) (sym value) has)
