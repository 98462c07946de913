-- The nodes of a drawn grid, their names, and their numbers.
use Rattle.std.specs.Prelude.{◌≡◌, ◌⊎◌, ℕ, ◌+◌, ◌*◌, ◌≤◌, ℤ, List, ◌++◌, Any, Bool, ◌==◌, ◌&&◌, codes, decimal, map, position, unwrap_or}
use Rattle.std.specs.Ordering.{int_eq}
use Rattle.std.specs.Fmt.{signed_decimal}
use Rattle.name_table.specs.ByteOrder.{IsInByteOrder}
use Rattle.grid_pieces.specs.declared.piece.StackAt.{StackAt}
use Rattle.grid_network.specs.declared.key.Key.{Key}
use Rattle.grid_network.specs.Listing.{ListsAll, EachOnce}
use Rattle.grid_network.specs.Drawing.{Drawing, key_at, key_of_stack, IsJunction}

-- the point is one of a stack, on a layer from its lower end up to its upper one
abbrev pub IsOfStack : List StackAt → Key → Type 0
IsOfStack stacks key = Any (λ s. (layer : ℕ) × (s.stack.from ≤ layer) × (layer ≤ s.stack.to)
    × (key ≡ key_of_stack s layer)) stacks

-- the point is a junction of a piece
abbrev pub IsOfPiece : Drawing → Key → Type 0
IsOfPiece d key =
    (number : ℕ) × (along : ℤ) × IsJunction d number along × (key ≡ key_at d.grid.pieces number along)

-- the nodes are the junctions of the pieces, and the points of the stacks on each of their layers
abbrev pub IsNode : Drawing → Key → Type 0
IsNode d key = IsOfPiece d key ⊎ IsOfStack d.grid.stacks key

-- the number of a layer of a net, where there are so many routing layers: counted from 1, net by net
abbrev pub layer_number : ℕ → ℕ → ℕ → ℕ
layer_number layers net layer = net * layers + layer + 1

-- the name of a node, `n<number>_<x>_<y>` (Nassif, Power Grid Analysis Benchmarks, 2008)
abbrev pub name_of : ℕ → Key → List ℕ
name_of layers key = codes "n" ++ decimal (layer_number layers key.net key.layer)
    ++ codes "_" ++ signed_decimal key.x ++ codes "_" ++ signed_decimal key.y

-- all nodes, each once, in the byte order of their names
pub record AreNodes (d : Drawing) (layers : ℕ) (keys : List Key) : Type 0 where
  pub all : ListsAll (IsNode d) keys
  pub once : EachOnce keys
  pub in_order : IsInByteOrder (map (name_of layers) keys)

-- two points are one
abbrev pub same_key : Key → Key → Bool
same_key a b = (a.net == b.net) && (a.layer == b.layer) && int_eq a.x b.x && int_eq a.y b.y

-- the number of a node is its place in the list of the nodes
abbrev pub number_of : List Key → Key → ℕ
number_of keys key = unwrap_or (position (same_key key) keys) 0
