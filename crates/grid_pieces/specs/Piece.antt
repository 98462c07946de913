-- The pieces into which blockages cut drawn shapes (this project; SPACING of a blockage as in the LEF/DEF 5.8 Language
-- Reference, BLOCKAGES).
use Rattle.std.specs.Prelude.{◌≡◌, ℕ, ℤ, ◌<◌, true, List, All, AllPairs, Contains}
use Rattle.std.specs.Ordering.{nat_cmp, int_cmp, ordering_then, is_lt}
use Rattle.std.specs.declared.cmp.Ordering.{Ordering}
use Rattle.geom_rect.specs.Rect.{ShareArea}
use Rattle.geom_rect.specs.Run.{HasCell, IsMaximal}
use Rattle.geom_rect.specs.declared.drawn.Drawn.{Drawn}
use Rattle.geom_rect.specs.declared.drawn.Shape.{Shape}
use Rattle.geom_rect.specs.declared.drawn.Shape.TheVariants.{Ring, Stripe, FollowPin}
use Rattle.lef_tech.specs.declared.layer.LayerRef.TheVariants.{Routing}
use Rattle.grid_pieces.specs.declared.line.Line.{Line}
use Rattle.grid_pieces.specs.declared.piece.Piece.{Piece}
use Rattle.grid_pieces.specs.declared.piece.Block.{Block}
use Rattle.geom_rect.specs.Drawn.{drawn_run}
use Rattle.grid_pieces.specs.Line.{drawn_line, piece_line, piece_run, cell_rect}

-- Some of the list has the property.
abbrev pub Among : {X : Type 0} → (X → Type 0) → List X → Type 0
Among {X} P xs = (x : X) × Contains xs x × P x

-- Some drawn shape of the line has cell t.
abbrev pub IsDrawn : List Drawn → Line → ℤ → Type 0
IsDrawn shapes line t = Among (λ (shape : Drawn). (drawn_line shape ≡ line) × HasCell (drawn_run shape) t) shapes

-- Some blockage of the line's layer, grown by its spacing, lies over cell t.
abbrev pub IsBlocked : List Block → Line → ℤ → Type 0
IsBlocked blocks line t = Among (λ (block : Block). (block.layer ≡ Routing line.layer)
    × ShareArea (cell_rect line t) block.grown) blocks

-- Cell t of the line is covered.
abbrev pub IsCovered : List Drawn → List Block → Line → ℤ → Type 0
IsCovered shapes blocks line t = IsDrawn shapes line t × (IsBlocked blocks line t → ⊥)

-- Some drawn shape of this kind, on the piece's line, has a cell of the piece.
abbrev pub HasKind : List Drawn → Piece → Shape → Type 0
HasKind shapes piece kind =
    Among (λ (shape : Drawn). (drawn_line shape ≡ piece_line piece) × (shape.shape ≡ kind)
    × ((t : ℤ) × HasCell (piece_run piece) t × HasCell (drawn_run shape) t)) shapes

-- Rings come before stripes, and stripes before rails.
abbrev pub place_of : Shape → ℕ
place_of Ring = 0
place_of Stripe = 1
place_of FollowPin = 2

-- A piece: a maximal run of covered cells of a line, with the first kind of the shapes that have a cell of it.
pub record IsPiece (shapes : List Drawn) (blocks : List Block) (piece : Piece) : Type 0 where
  pub cells : IsMaximal (IsCovered shapes blocks (piece_line piece)) (piece_run piece)
  pub kind : HasKind shapes piece piece.shape
  pub first : (kind : Shape) → place_of kind < place_of piece.shape → HasKind shapes piece kind → ⊥

-- Pieces are compared by net, layer, centre, start and width, in turn.
abbrev pub piece_order : Piece → Piece → Ordering
piece_order a b = ordering_then
    (ordering_then (ordering_then (ordering_then (nat_cmp a.net b.net) (nat_cmp a.layer b.layer))
    (int_cmp a.centre b.centre))
    (int_cmp a.from b.from)) (int_cmp a.width b.width)

-- The list has the pieces, all of them, each once and in order.
pub record ArePieces (shapes : List Drawn) (blocks : List Block) (pieces : List Piece) : Type 0 where
  pub each : All (IsPiece shapes blocks) pieces
  pub every : (piece : Piece) → IsPiece shapes blocks piece → Contains pieces piece
  pub in_order : AllPairs (λ a b. is_lt (piece_order a b) ≡ true) pieces
