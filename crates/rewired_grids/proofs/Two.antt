-- The power net and the ground net of the wires of a grid over two nets.
use Rattle.std.proofs.Common.{◌≡◌, ℕ, ◌&&◌, not, Bool, true, false, cond, inl, inr, List, [], ◌∷◌, map, filter, refl, sym, ◌∙◌, ap, arith}
use Rattle.std.specs.Bool.{MatchBool}
use Rattle.name_table.specs.ByteOrder.{IsBefore}
use Rattle.def_wiring.specs.declared.record.WiredNet.{WiredNet}
use Rattle.wire_names.specs.Nets.{has_wiring, is_wired, net_number}
use Rattle.wired_grid.specs.Wired.{two_in_order}

-- ## one of two nets

same_first : (a b : List ℕ) → a ∷ [] ≡ b ∷ [] → a ≡ b
same_first a b e = cc

and_false : (a b : Bool) → b ≡ false → (a && b) ≡ false
and_false true b e = e
and_false false b e = refl

first_name : (t : WiredNet → Bool) (one other : WiredNet) (name : List ℕ) → t other ≡ false → map (λ (net : WiredNet). net.name) (filter t (one ∷ other ∷ [])) ≡ name ∷ [] → name ≡ one.name
first_name t one other name none is = by (t one) (sym (ap (λ b. map (λ (net : WiredNet). net.name) (cond (t one) (one ∷ cond b (other ∷ []) []) (cond b (other ∷ []) []))) none) ∙ is)
  where
    by : (b : Bool) → map (λ (net : WiredNet). net.name) (cond b (one ∷ []) []) ≡ name ∷ [] → name ≡ one.name
    by true e = sym (same_first one.name name e)
    by false e = cc

later_name : (t : WiredNet → Bool) (one other : WiredNet) (name : List ℕ) → t one ≡ false → map (λ (net : WiredNet). net.name) (filter t (one ∷ other ∷ [])) ≡ name ∷ [] → name ≡ other.name
later_name t one other name none is = by (t other) (sym (ap (λ b. map (λ (net : WiredNet). net.name) (cond b (one ∷ cond (t other) (other ∷ []) []) (cond (t other) (other ∷ []) []))) none) ∙ is)
  where
    by : (b : Bool) → map (λ (net : WiredNet). net.name) (cond b (other ∷ []) []) ≡ name ∷ [] → name ≡ other.name
    by true e = sym (same_first other.name name e)
    by false e = cc

-- A ground net is no wired power net, and a power net no wired ground net.
ground_is_none : (net : WiredNet) → net.power ≡ false → is_wired true net ≡ false
ground_is_none net e = and_false (has_wiring net) net.power e

power_is_none : (net : WiredNet) → net.power ≡ true → is_wired false net ≡ false
power_is_none net e = and_false (has_wiring net) (not net.power) (ap not e)

-- ## which comes first

one_way : (a b : List ℕ) → IsBefore a b → IsBefore b a → ⊥
one_way [] [] one other = one
one_way [] (y ∷ ys) one other = other
one_way (x ∷ xs) [] one other = one
one_way (x ∷ xs) (y ∷ ys) (inl p) (inl q) = omega (arith, p, q)
one_way (x ∷ xs) (y ∷ ys) (inl p) (inr q) = let e = q.0 in omega (arith, p, e)
one_way (x ∷ xs) (y ∷ ys) (inr p) (inl q) = let e = p.0 in omega (arith, q, e)
one_way (x ∷ xs) (y ∷ ys) (inr p) (inr q) = one_way xs ys p.1 q.1

pub one_order : (power ground : List ℕ) (a b : Bool) → MatchBool a (IsBefore power ground) (IsBefore ground power) → MatchBool b (IsBefore power ground) (IsBefore ground power) → a ≡ b
one_order power ground true true p q = refl
one_order power ground true false p q = absurd (one_way power ground p q)
one_order power ground false true p q = absurd (one_way ground power p q)
one_order power ground false false p q = refl

-- ## both

-- The two nets in their order.
pub record ArePair (power ground : List ℕ) (power_first : Bool) (one other : WiredNet) : Type 0 where
  pub one_name : one.name ≡ cond power_first power ground
  pub other_name : other.name ≡ cond power_first ground power
  pub one_power : one.power ≡ power_first
  pub other_power : other.power ≡ not power_first

pub power_is : (power ground name : List ℕ) (power_first : Bool) (one other : WiredNet) → ArePair power ground power_first one other
    → map (λ (net : WiredNet). net.name) (filter (is_wired true) (one ∷ other ∷ [])) ≡ name ∷ [] → name ≡ power
power_is power ground name true one other are is = first_name (is_wired true) one other name (ground_is_none other are.other_power) is ∙ are.one_name
power_is power ground name false one other are is = later_name (is_wired true) one other name (ground_is_none one are.one_power) is ∙ are.other_name

pub ground_is : (power ground name : List ℕ) (power_first : Bool) (one other : WiredNet) → ArePair power ground power_first one other
    → map (λ (net : WiredNet). net.name) (filter (is_wired false) (one ∷ other ∷ [])) ≡ name ∷ [] → name ≡ ground
ground_is power ground name true one other are is = later_name (is_wired false) one other name (power_is_none one are.one_power) is ∙ are.other_name
ground_is power ground name false one other are is = first_name (is_wired false) one other name (power_is_none other are.other_power) is ∙ are.one_name

pub one_number : (power_first : Bool) → net_number power_first power_first ≡ 0
one_number true = refl
one_number false = refl

pub other_number : (power_first : Bool) → net_number power_first (not power_first) ≡ 1
other_number true = refl
other_number false = refl

pub in_order : (power ground : List ℕ) (power_first : Bool) → two_in_order power ground power_first ≡ cond power_first power ground ∷ cond power_first ground power ∷ []
in_order power ground true = refl
in_order power ground false = refl
