-- The special wiring of a net (LEF/DEF 5.8 Language Reference, SPECIALNETS, special wiring).
use Rattle.std.specs.Prelude.{ℕ, ◌==◌, Bool, true, false, ℤ, List, [], ◌∷◌, ◌++◌, map, codes, filter, flat_map, slice_index_or, if◌then◌else◌}
use Rattle.std.specs.List.{enumerate_from}
use Rattle.std.specs.Fmt.{signed_decimal}
use Rattle.geom_rect.specs.declared.direction.Axis.{Axis}
use Rattle.geom_rect.specs.declared.direction.Axis.TheVariants.{X, Y}
use Rattle.geom_rect.specs.declared.drawn.Shape.{Shape}
use Rattle.geom_rect.specs.declared.drawn.Shape.TheVariants.{Ring, Stripe, FollowPin}
use Rattle.grid_pieces.specs.declared.grid.Grid.{Grid}
use Rattle.grid_pieces.specs.declared.piece.Piece.{Piece}
use Rattle.grid_pieces.specs.declared.piece.StackAt.{StackAt}
use Rattle.lef_tech.specs.declared.tech.Tech.{Tech}
use Rattle.via_arrays.specs.declared.parts.CutArray.{CutArray}
use Rattle.def_writer.specs.Via.{via_of, via_name, layer_name}

-- The word after SHAPE.
abbrev pub shape_word : Shape → List ℕ
shape_word Ring = codes "RING"
shape_word Stripe = codes "STRIPE"
shape_word FollowPin = codes "FOLLOWPIN"

-- A point: `( x y )`.
abbrev pub point : ℤ × ℤ → List (List ℕ)
point at = codes "(" ∷ signed_decimal at.0 ∷ signed_decimal at.1 ∷ codes ")" ∷ []

-- The point of a line along an axis that lies so far along it and across it.
abbrev pub point_on : Axis → ℤ → ℤ → ℤ × ℤ
point_on X along across = (along, across)
point_on Y along across = (across, along)

-- The words of a piece: its layer, its width, its shape and the two ends of its centre line, from the lesser one.
abbrev pub piece_words : Tech → Piece → List (List ℕ)
piece_words tech piece =
    layer_name tech piece.layer ∷ signed_decimal piece.width ∷ codes "+" ∷ codes "SHAPE" ∷ shape_word piece.shape
    ∷ (point (point_on piece.axis piece.from piece.centre) ++ point (point_on piece.axis piece.to piece.centre))

-- The words of an array of a stack that stands at this point: its lower layer, the width 0, the shape STRIPE, the point
-- and its via.
abbrev pub array_words : Tech → ℤ × ℤ → ℕ × CutArray → List (List ℕ)
array_words tech at (layer, array) =
    layer_name tech layer ∷ codes "0" ∷ codes "+" ∷ codes "SHAPE" ∷ codes "STRIPE"
    ∷ (point at ++ via_name (via_of array) ∷ [])

-- The words of a stack: one list for each of its arrays, bottom up.
abbrev pub stack_words : Tech → StackAt → List (List (List ℕ))
stack_words tech at = map (array_words tech (at.x, at.y)) (enumerate_from at.stack.from at.stack.arrays)

-- A line of wiring: the first of its net begins with `+ ROUTED`, the others with `NEW`.
abbrev pub wiring_line : Bool → List (List ℕ) → List (List ℕ)
wiring_line true words = codes "+" ∷ codes "ROUTED" ∷ words
wiring_line false words = codes "NEW" ∷ words

-- The lines of wiring with these words, of which the first one is the first of its net or is not.
abbrev pub wiring_lines : Bool → List (List (List ℕ)) → List (List (List ℕ))
wiring_lines first [] = []
wiring_lines first (words ∷ more) = wiring_line first words ∷ wiring_lines false more

-- Pieces, and then stacks.
abbrev pub wiring_words : Tech → List Piece → List StackAt → List (List (List ℕ))
wiring_words tech pieces stacks = map (piece_words tech) pieces ++ flat_map (stack_words tech) stacks

-- The pieces and the stacks of a net of the grid, in the order of the grid.
abbrev pub pieces_of : List Piece → ℕ → List Piece
pieces_of pieces net = filter (λ (p : Piece). p.net == net) pieces

abbrev pub stacks_of : List StackAt → ℕ → List StackAt
stacks_of stacks net = filter (λ (s : StackAt). s.net == net) stacks

abbrev pub use_word : Bool → List ℕ
use_word power = if power then codes "POWER" else codes "GROUND"

-- The lines of a net: its name and its use, its wiring, and `;`.
abbrev pub net_lines : Tech → List ℕ → Bool → List Piece → List StackAt → List (List (List ℕ))
net_lines tech name power pieces stacks =
    (codes "-" ∷ name ∷ codes "+" ∷ codes "USE" ∷ use_word power ∷ [])
    ∷ (wiring_lines true (wiring_words tech pieces stacks) ++ (codes ";" ∷ []) ∷ [])

-- The lines of the net of this number and name of a grid.
abbrev pub net_of_grid : Tech → Grid → ℕ × List ℕ → List (List (List ℕ))
net_of_grid tech grid (net, name) =
    net_lines tech name (slice_index_or grid.power net false) (pieces_of grid.pieces net) (stacks_of grid.stacks net)
