-- The layers of a text, by name.
use Rattle.std.proofs.Common.{◌≡◌, ℕ, zero, suc, ◌<◌, Bool, true, false, if◌then◌else◌, List, [], ◌∷◌, ◌++◌, length, map, get_or, slice_get, Contains, Option, Some, None, Result, Ok, Err, IfOk, inl, inr, refl, sym, ◌∙◌, ap, subst, arith}
use Rattle.std.proofs.lemmas.List.{length-map, map_push}
use Rattle.std.proofs.lemmas.Option.{slice_get_cases, get_or_from_slice_get}
use Rattle.std.proofs.lemmas.Slice.Eq.{bytes_eq-Decides}
use Rattle.std.specs.Str.{bytes_eq}
use Rattle.std.specs.declared.alloc.AllocError.{AllocError}
use Rattle.lef_tech.specs.declared.known.Known.{Known}
use Rattle.lef_tech.specs.declared.layer.LayerRef.{LayerRef}
use Rattle.lef_tech.specs.Known.{name_of, reference_in}
use Rattle.name_table.specs.Laws.{member_head, member_tail}
use Rattle.name_table.specs.Numbering.{TakesName, AreDistinct}

reference_by : (b : Bool) (x y r : Option LayerRef) → (b ≡ true → x ≡ r) → (b ≡ false → y ≡ r) → (if b then x else y) ≡ r
reference_by true x y r h k = h refl
reference_by false x y r h k = k refl

-- Where no layer has the name, it is none.
pub none_named : (known : List Known) (name : List ℕ) → (Contains (map name_of known) name → ⊥) → reference_in known name ≡ None
none_named [] name fresh = refl
none_named (x ∷ known) name fresh =
    reference_by (bytes_eq x.name name) x.reference (reference_in known name) None
    (λ t. absurd (fresh (subst (λ z. Contains (x.name ∷ map name_of known) z) ((bytes_eq-Decides x.name name).0 t) (member_head x.name (map name_of known)))))
    (λ f. none_named known name (λ there. fresh (member_tail x.name (map name_of known) name there)))

pub within : (known : List Known) (k : ℕ) (name : List ℕ) → slice_get (map name_of known) k ≡ Some name → k < length known
within known k name e = elim (slice_get_cases (map name_of known) k).1 [
  | inl x ↦ let lt : k < length (map name_of known) = x.1 in omega (arith, lt, length-map known name_of)
  | inr y ↦ absurd (let t : None ≡ Some name = sym y.1 ∙ e in cc)
]

is_at : (known : List Known) (k : ℕ) (name : List ℕ) (d : Known) → AreDistinct (map name_of known) → k < length known →
    get_or (map name_of known) k name ≡ name → reference_in known name ≡ (get_or known k d).reference
is_at [] k name d distinct lt e = absurd (omega arith)
is_at (x ∷ known) zero name d distinct lt e =
    reference_by (bytes_eq x.name name) x.reference (reference_in known name) x.reference (λ t. refl)
    (λ f. absurd (let t : true ≡ false = sym ((bytes_eq-Decides x.name name).1 e) ∙ f in cc))
is_at (x ∷ known) (suc k) name d distinct lt e =
    let few = length-map known name_of in
    reference_by (bytes_eq x.name name) x.reference (reference_in known name) _
    (λ t. absurd (distinct 0 (suc k) name (omega arith) (omega arith) ((bytes_eq-Decides x.name name).0 t ∙ sym e)))
    (λ f. is_at known k name d (λ i j z less less_too. distinct (suc i) (suc j) z (omega arith) (omega arith)) (omega arith) e)

-- The layer at the number of the name.
pub found_at_number : (known : List Known) (k : ℕ) (name : List ℕ) (d : Known) → AreDistinct (map name_of known) →
    slice_get (map name_of known) k ≡ Some name → reference_in known name ≡ (get_or known k d).reference
found_at_number known k name d distinct e =
    is_at known k name d distinct (within known k name e) (get_or_from_slice_get (map name_of known) k name name e)

pub names_kept : (old new : List (List ℕ)) (name : List ℕ) → Contains old name → TakesName old new name → new ≡ old
names_kept old new name there (inl h) = h.1
names_kept old new name there (inr h) = absurd (h.0 there)

pub layers_added : (old new : List (List ℕ)) (known items : List Known) (k : Known) (name : List ℕ) → old ≡ map name_of known → items ≡ known ++ k ∷ [] →
    k.name ≡ name → (Contains old name → ⊥) → TakesName old new name → new ≡ map name_of items
layers_added old new known items k name is items_is name_is fresh (inl h) = absurd (fresh h.0)
layers_added old new known items k name is items_is name_is fresh (inr h) =
    h.1 ∙ ap (λ z. z ++ name ∷ []) is ∙ ap (λ z. map name_of known ++ z ∷ []) (sym name_is) ∙ sym (map_push name_of known k)
    ∙ ap (λ (z : List Known). map name_of z) (sym items_is)

pub if_ok : (r : Result (Option LayerRef) AllocError) (v want : Option LayerRef) → r ≡ Ok v → v ≡ want → IfOk r (λ z. z ≡ want)
if_ok r v want e h = subst (λ z. IfOk z (λ y. y ≡ want)) (sym e) h

pub if_err : (r : Result (Option LayerRef) AllocError) (x : AllocError) (want : Option LayerRef) → r ≡ Err x → IfOk r (λ z. z ≡ want)
if_err r x want e = subst (λ z. IfOk z (λ y. y ≡ want)) (sym e) tt
