-- Which vias stand somewhere, place after place.
use Rattle.std.proofs.Common.{◌≡◌, ℕ, zero, suc, ◌+◌, ◌<◌, Bool, true, false, ◌⊎◌, inl, inr, List, [], ◌∷◌, ◌++◌, Contains, length, map, take, set, get_or, refl, sym, ◌∙◌, ap, subst, arith}
use Rattle.std.proofs.lemmas.Bool.{false≢true, cases_eq}
use Rattle.std.proofs.lemmas.List.{map_more, get_or-set_same, get_or-set_other, length-set}
use Rattle.std.proofs.lemmas.List.Elements.{Contains-append_left, Contains-append_right, Contains-append_cases}
use Rattle.wire_names.specs.declared.record.Spot.{Spot}
use Rattle.wire_limits.specs.inside.Used.{AreUses}

-- At no place nothing stands.
pub none_used : (used : List Bool) → ((k : ℕ) → k < length used → get_or used k false ≡ false) → AreUses (length used) [] used
none_used used none = record {
  as_many = refl;
  each = λ k within. (
    λ marked. absurd (false≢true (sym (none k within) ∙ marked)),
    λ (j, inside, is). absurd (omega arith),
  );
}

only : (v k : ℕ) → Contains (v ∷ []) k → v ≡ k
only v k (j, within, is) = first j within is
  where
    first : (j : ℕ) → j < 1 → get_or (v ∷ []) j k ≡ k → v ≡ k
    first zero within is = is
    first (suc j) within is = absurd (omega arith)

-- One more place.
pub mark_more : (count : ℕ) (spots : List Spot) (used : List Bool) (i : ℕ) (spot : Spot) → i < length spots → spot ≡ get_or spots i spot
    → spot.via < count → AreUses count (take i spots) used → AreUses count (take (i + 1) spots) (set used spot.via true)
mark_more count spots used i spot within is inside uses =
    let via : Spot → ℕ = λ (s : Spot). s.via in
    let more : map via (take (i + 1) spots) ≡ map via (take i spots) ++ spot.via ∷ [] =
    map_more via spots i spot within ∙ ap (λ (s : Spot). map via (take i spots) ++ s.via ∷ []) (sym is) in
    record {
      as_many = length-set used spot.via true ∙ uses.as_many;
      each = λ k low. (
        λ marked. subst (λ xs. Contains xs k) (sym more) (forth k low (cases_eq k spot.via) marked),
        λ has. back k low (Contains-append_cases (map via (take i spots)) (spot.via ∷ []) k (subst (λ xs. Contains xs k) more has)),
      );
    }
  where
    forth : (k : ℕ) → k < count → (k ≡ spot.via) ⊎ (k ≡ spot.via → ⊥) → get_or (set used spot.via true) k false ≡ true
        → Contains (map (λ (s : Spot). s.via) (take i spots) ++ spot.via ∷ []) k
    forth k low (inl same) marked =
        Contains-append_right (map (λ (s : Spot). s.via) (take i spots)) (spot.via ∷ []) k (0, omega arith, sym same)
    forth k low (inr other) marked = Contains-append_left (map (λ (s : Spot). s.via) (take i spots)) (spot.via ∷ []) k
        ((uses.each k low).0 (sym (get_or-set_other used spot.via k true false other) ∙ marked))

    set_there : (k : ℕ) → k < count → (k ≡ spot.via) ⊎ (k ≡ spot.via → ⊥) → get_or used k false ≡ true → get_or (set used spot.via true) k false ≡ true
    set_there k low (inl same) was = ap (λ j. get_or (set used spot.via true) j false) same ∙ get_or-set_same used spot.via true false (omega (arith, uses.as_many))
    set_there k low (inr other) was = get_or-set_other used spot.via k true false other ∙ was

    back : (k : ℕ) → k < count → Contains (map (λ (s : Spot). s.via) (take i spots)) k ⊎ Contains (spot.via ∷ []) k
        → get_or (set used spot.via true) k false ≡ true
    back k low (inl had) = set_there k low (cases_eq k spot.via) ((uses.each k low).1 had)
    back k low (inr new) = ap (λ j. get_or (set used spot.via true) j false) (sym (only spot.via k new))
        ∙ get_or-set_same used spot.via true false (omega (arith, uses.as_many))

-- The same of the place that stands there.
pub mark_at : (count : ℕ) (spots : List Spot) (used : List Bool) (i : ℕ) (d : Spot) → i < length spots → (get_or spots i d).via < count
    → AreUses count (take i spots) used → AreUses count (take (i + 1) spots) (set used (get_or spots i d).via true)
mark_at count spots used i d within inside uses =
    mark_more count spots used i (get_or spots i d) within (get_or-any spots i d (get_or spots i d) within) inside uses
  where
    get_or-any : (xs : List Spot) (j : ℕ) (a b : Spot) → j < length xs → get_or xs j a ≡ get_or xs j b
    get_or-any [] j a b low = absurd (omega arith)
    get_or-any (x ∷ xs) zero a b low = refl
    get_or-any (x ∷ xs) (suc j) a b low = get_or-any xs j a b (omega arith)
