-- The greatest number of cuts by one division.
use Rattle.std.proofs.Common.{◌≡◌, ℕ, Bool, true, false, ◌+◌, ◌-◌, ◌*◌, ◌/◌, ◌<◌, ◌≤◌, ◌⊎◌, inl, inr, ◌↔◌, min, nat_lt, if◌then◌else◌, ap, sym, subst, refl, arith}
use Rattle.std.proofs.lemmas.Bool.{cases_lt, lt-ltb, ltb-true}
use Rattle.via_arrays.specs.Cuts.{IsMost, count_by_division}
use Rattle.via_arrays.proofs.Rows.{most_is, none_is, most_unique}

little : (extent cut pitch enclosure : ℕ) → extent < cut + 2 * enclosure → count_by_division extent cut pitch enclosure ≡ 0
little extent cut pitch enclosure less = ap (λ b. if b then 0 else (extent - (cut + 2 * enclosure)) / pitch + 1) (lt-ltb extent (cut + 2 * enclosure) less)

room : (extent cut pitch enclosure : ℕ) → cut + 2 * enclosure ≤ extent → count_by_division extent cut pitch enclosure ≡ (extent - (cut + 2 * enclosure)) / pitch + 1
room extent cut pitch enclosure upto = by_test (nat_lt extent (cut + 2 * enclosure)) refl
  where
    by_test : (b : Bool) → nat_lt extent (cut + 2 * enclosure) ≡ b → count_by_division extent cut pitch enclosure ≡ (extent - (cut + 2 * enclosure)) / pitch + 1
    by_test false is = ap (λ b. if b then 0 else (extent - (cut + 2 * enclosure)) / pitch + 1) is
    by_test true is = let less : extent < cut + 2 * enclosure = ltb-true extent (cut + 2 * enclosure) is in absurd (omega arith)

-- The division gives the greatest number.
is_most : (limit extent cut pitch enclosure : ℕ) → 0 < pitch → IsMost limit extent cut pitch enclosure (min (count_by_division extent cut pitch enclosure) limit)
is_most limit extent cut pitch enclosure some = by_room (cases_lt extent (cut + 2 * enclosure))
  where
    by_room : (extent < cut + 2 * enclosure) ⊎ (cut + 2 * enclosure ≤ extent) → IsMost limit extent cut pitch enclosure (min (count_by_division extent cut pitch enclosure) limit)
    by_room (inl less) =
        let none : 0 ≡ min (count_by_division extent cut pitch enclosure) limit = let z = little extent cut pitch enclosure less in omega arith in
        subst (IsMost limit extent cut pitch enclosure) none (none_is limit extent cut pitch enclosure less)
    by_room (inr upto) =
        most_is limit extent cut pitch enclosure (min (count_by_division extent cut pitch enclosure) limit) some upto
        (ap (λ n. min n limit) (room extent cut pitch enclosure upto))

pub by_division : (limit extent cut pitch enclosure n : ℕ) → 0 < pitch → IsMost limit extent cut pitch enclosure n ↔ (n ≡ min (count_by_division extent cut pitch enclosure) limit)
by_division limit extent cut pitch enclosure n some = (
  λ most. most_unique limit extent cut pitch enclosure n (min (count_by_division extent cut pitch enclosure) limit) most (is_most limit extent cut pitch enclosure some),
  λ is. subst (IsMost limit extent cut pitch enclosure) (sym is) (is_most limit extent cut pitch enclosure some),
)
