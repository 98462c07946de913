-- What a resistor takes from the nodes, added to a list of their sums.
use Rattle.std.proofs.Common.{◌≡◌, ℕ, ◌<◌, ℤ, pos, ◌+ℤ◌, arith, refl, sym, ap, ◌∙◌, subst, List, length, get_or, set, Bool, true, false, cond, eqb, eqb-true}
use Rattle.std.proofs.lemmas.Bool.{eqb-false}
use Rattle.std.proofs.lemmas.Int.{ints}
use Rattle.std.proofs.lemmas.List.{get_or-set_same, get_or-set_other, length-set}
use Rattle.grid_net.specs.declared.part.Resistor.{Resistor}
use Rattle.grid_net.specs.Network.{taken_by}

-- A number added at one place of a list.
pub set_adds : (xs : List ℤ) (a i : ℕ) (z : ℤ) → a < length xs → get_or (set xs a (get_or xs a (pos 0) +ℤ z)) i (pos 0) ≡ get_or xs i (pos 0) +ℤ cond (eqb a i) z (pos 0)
set_adds xs a i z l = by_test (eqb a i) refl
  where
    sum : ℤ
    sum = get_or xs a (pos 0) +ℤ z

    by_test : (b : Bool) → eqb a i ≡ b → get_or (set xs a sum) i (pos 0) ≡ get_or xs i (pos 0) +ℤ cond b z (pos 0)
    by_test true e = subst (λ (j : ℕ). get_or (set xs a sum) j (pos 0) ≡ get_or xs j (pos 0) +ℤ z) (eqb-true a i e) (get_or-set_same xs a sum (pos 0) l)
    by_test false e = let k = get_or-set_other xs a i sum (pos 0) (λ same. eqb-false a i e (sym same)) in omega (arith, ints, k)

-- What a resistor takes from a node is added where it is added at its two ends.
pub added_both : (xs ys zs : List ℤ) (r : Resistor) (i : ℕ) (u v : ℤ) → r.a < length xs → r.b < length xs → ys ≡ set xs r.a (get_or xs r.a (pos 0) +ℤ u) → zs ≡ set ys r.b (get_or ys r.b (pos 0) +ℤ v) → get_or zs i (pos 0) ≡ get_or xs i (pos 0) +ℤ taken_by r i u v
added_both xs ys zs r i u v la lb e f =
    let size : length ys ≡ length xs = ap length e ∙ length-set xs r.a (get_or xs r.a (pos 0) +ℤ u) in
    let one = set_adds xs r.a i u la in
    let two = set_adds ys r.b i v (omega (arith, lb, size)) in
    let here = ap (λ (l : List ℤ). get_or l i (pos 0)) e in
    let there = ap (λ (l : List ℤ). get_or l i (pos 0)) f in
    omega (arith, ints, one, two, here, there)
