use Rattle.std.proofs.Common.{◌≡◌, ℕ, inl, inr, List, [], ◌∷◌, map, get_or, subst, arith}
use Rattle.name_table.specs.ByteOrder.{IsBefore, IsInByteOrder}
use Rattle.grid_network.specs.Listing.{EachOnce}
use Rattle.grid_network.specs.Nodes.{name_of}
use Rattle.grid_network.proofs.laws.names_differ.Goals as goal

not_before_itself : (name : List ℕ) → IsBefore name name → ⊥
not_before_itself [] h = h
not_before_itself (x ∷ xs) (inl h) = omega (arith, h)
not_before_itself (x ∷ xs) (inr h) = not_before_itself xs h.1

order_once : (names : List (List ℕ)) → IsInByteOrder names → EachOnce names
order_once names up i j d below within e =
    not_before_itself (get_or names j d) (subst (λ (n : List ℕ). IsBefore n (get_or names j d)) e (up i j d below within))

pub returns : goal.returns
returns s d layers keys nodes = order_once (map (name_of layers) keys) nodes.in_order
