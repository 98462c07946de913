-- The pads of a list, and the first pad of a node.
use Rattle.std.proofs.Common.{◌≡◌, ℕ, zero, suc, ◌<◌, ℤ, arith, refl, ap, List, [], ◌∷◌, length, get_or, All, Option, Some, None, Bool, true, false, cond, eqb, eqb-true, eq-eqb}
use Rattle.std.proofs.lemmas.Option.{none-some}
use Rattle.std.proofs.lemmas.List.Elements.{All-head, All-tail}
use Rattle.grid_net.specs.declared.part.Pad.{Pad}
use Rattle.grid_net.specs.Network.{first_pad}

-- A first pad is one of the list.
pub first_is_of_list : (P : Pad → Type 0) (ps : List Pad) (i : ℕ) (v : ℤ) → All P ps → first_pad ps i ≡ Some v
    → (p : Pad) × (p.node ≡ i) × (p.volts ≡ v) × P p
first_is_of_list P [] i v all e = absurd (let f : ◌≡◌ {A = Option ℤ} None (Some v) = e in cc)
first_is_of_list P (p ∷ ps) i v all e = by_test (eqb p.node i) refl e (first_is_of_list P ps i v (All-tail P p ps all))
  where
    by_test : (b : Bool) → eqb p.node i ≡ b → cond b (Some p.volts) (first_pad ps i) ≡ Some v
        → (first_pad ps i ≡ Some v → (q : Pad) × (q.node ≡ i) × (q.volts ≡ v) × P q)
        → (q : Pad) × (q.node ≡ i) × (q.volts ≡ v) × P q
    by_test true t e rest = (p, eqb-true p.node i t, cc, All-head P p ps all)
    by_test false t e rest = rest e

-- The node of each pad of a list has a first pad.
pub pad_is_first : (ps : List Pad) (k : ℕ) (d : Pad) → k < length ps
    → (v : ℤ) × (first_pad ps (get_or ps k d).node ≡ Some v)
pad_is_first [] k d l = absurd (omega arith)
pad_is_first (p ∷ ps) zero d l =
    (p.volts, ap (λ b. cond b (Some p.volts) (first_pad ps p.node)) (eq-eqb p.node p.node refl))
pad_is_first (p ∷ ps) (suc k) d l = by_test (eqb p.node (get_or ps k d).node) (pad_is_first ps k d (omega arith))
  where
    by_test : (b : Bool) → (v : ℤ) × (first_pad ps (get_or ps k d).node ≡ Some v)
        → (v : ℤ) × (cond b (Some p.volts) (first_pad ps (get_or ps k d).node) ≡ Some v)
    by_test true h = (p.volts, refl)
    by_test false h = h

-- The first pad of a node stands in the list.
pub pad_in_list : (ps : List Pad) (i : ℕ) (v : ℤ) (d : Pad) → first_pad ps i ≡ Some v
    → (k : ℕ) × (k < length ps) × ((get_or ps k d).node ≡ i)
pad_in_list [] i v d e = absurd (none-some v e)
pad_in_list (p ∷ ps) i v d e = by_test (eqb p.node i) refl e (λ h. pad_in_list ps i v d h)
  where
    by_test : (b : Bool) → eqb p.node i ≡ b → cond b (Some p.volts) (first_pad ps i) ≡ Some v
        → (first_pad ps i ≡ Some v → (k : ℕ) × (k < length ps) × ((get_or ps k d).node ≡ i))
        → (k : ℕ) × (k < length (p ∷ ps)) × ((get_or (p ∷ ps) k d).node ≡ i)
    by_test true f h rest = (0, omega arith, eqb-true p.node i f)
    by_test false f h rest = let t = rest h in (suc t.0, omega (arith, t.1), t.2)
