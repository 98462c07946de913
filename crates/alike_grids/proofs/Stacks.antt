-- What holds of the stacks of a grid holds of those that are alike.
use Rattle.std.proofs.Common.{◌≡◌, ℕ, ◌<◌, List, map, length, Some, get_or, slice_get, sym, ap, ◌∙◌, subst, arith}
use Rattle.std.specs.Prelude.{Any}
use Rattle.std.proofs.lemmas.List.{get_or-map, get_or_default, length-map}
use Rattle.std.proofs.lemmas.Option.{slice_get_within, get_or_from_slice_get, slice_get-get_or}

module _ {S J : Type 0} (f : S → J) where
  -- lists of which f makes one list are as long
  pub as_long : (xs ys : List S) → map f xs ≡ map f ys → length xs ≡ length ys
  as_long xs ys same = sym (length-map xs f) ∙ ap length same ∙ length-map ys f

  -- and f makes the same of what stands at one place
  pub same_at : (xs ys : List S) → map f xs ≡ map f ys → (k : ℕ) (d : S) → k < length xs → f (get_or xs k d) ≡ f (get_or ys k d)
  same_at xs ys same k d within =
      let long = as_long xs ys same in
      sym (get_or-map f xs k d (f d) within) ∙ ap (λ z. get_or z k (f d)) same ∙ get_or-map f ys k d (f d) (omega (arith, within, long))

  -- some element of one list has a property of what f makes, and so some element of the other
  pub some_in : (P Q : S → Type 0) → ((s t : S) → f s ≡ f t → P s → Q t) → (xs ys : List S) → map f xs ≡ map f ys → Any P xs → Any Q ys
  some_in P Q goes xs ys same (k, x, within, is, has) =
      let long = as_long xs ys same in
      let there : k < length ys = omega (arith, within, long) in
      (k, get_or ys k x, there, get_or_default ys k (get_or ys k x) x there, goes x (get_or ys k x) (ap f (sym is) ∙ same_at xs ys same k x within) has)

  -- what stands at a place of one list, and what stands there in the other
  pub get_in : (xs ys : List S) → map f xs ≡ map f ys → (k : ℕ) (s : S) → slice_get xs k ≡ Some s → (t : S) × (slice_get ys k ≡ Some t) × (f s ≡ f t)
  get_in xs ys same k s is =
      let within = slice_get_within xs k s is in
      let long = as_long xs ys same in
      let there : k < length ys = omega (arith, within, long) in
      (get_or ys k s, slice_get-get_or ys k s there, ap f (sym (get_or_from_slice_get xs k s s is)) ∙ same_at xs ys same k s within)
