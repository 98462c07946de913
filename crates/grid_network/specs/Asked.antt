-- What is asked of a drawn grid with its pads and taps.
use Rattle.std.specs.Prelude.{◌≡◌, ◌≢◌, ℕ, ◌-◌, ◌<◌, ◌^◌, ℤ, ◌≤ℤ◌, List, All, Option, None, length, map, slice_index_or}
use Rattle.lef_tech.specs.declared.tech.Tech.{Tech}
use Rattle.lef_tech.specs.declared.layer.RoutingLayer.{RoutingLayer}
use Rattle.grid_pieces.specs.declared.grid.Grid.{Grid}
use Rattle.grid_pieces.specs.declared.piece.Piece.{Piece}
use Rattle.grid_pieces.specs.declared.piece.StackAt.{StackAt}
use Rattle.grid_pieces.specs.Limits.{PieceKeeps}
use Rattle.grid_network.specs.Drawing.{Drawing, piece_at}

-- The resistance of a square of a routing layer (LEF/DEF 5.8 Language Reference, "Layer (Routing)", RESISTANCE RPERSQ).
abbrev pub sheet_of : List RoutingLayer → ℕ → Option ℕ
sheet_of layers layer = slice_index_or (map (λ (l : RoutingLayer). l.sheet) layers) layer None

-- The piece keeps its limits, is of one of the grid's nets, and lies on a routing layer with a resistance of a square.
pub record IsPieceOf (grid : Grid) (tech : Tech) (piece : Piece) : Type 0 where
  pub keeps : PieceKeeps piece
  pub net : piece.net < length grid.nets
  pub layer : piece.layer < length tech.routing
  pub sheet : sheet_of tech.routing piece.layer ≢ None

-- The stack is of one of the grid's nets, and has one array and one resistance for each routing layer from its lowest
-- up to below its highest.
pub record IsStackOf (grid : Grid) (tech : Tech) (s : StackAt) : Type 0 where
  pub net : s.net < length grid.nets
  pub rising : s.stack.from < s.stack.to
  pub highest : s.stack.to < length tech.routing
  pub arrays : length s.stack.arrays ≡ s.stack.to - s.stack.from
  pub ohms : length s.stack.ohms ≡ s.stack.to - s.stack.from

-- The place so far along the piece with the number lies on it, ends included.
pub record IsOnPiece (pieces : List Piece) (number : ℕ) (along : ℤ) : Type 0 where
  pub piece : number < length pieces
  pub not_before : (piece_at pieces number).from ≤ℤ along
  pub not_behind : along ≤ℤ (piece_at pieces number).to

-- Each piece and stack is one of the grid over the technology, each pad and each tap lies on its piece, and no tap's low
-- end is above its high end. Layers, pieces and stacks have numbers of 32 bits.
pub record IsDrawing (d : Drawing) (tech : Tech) : Type 0 where
  pub pieces : All (IsPieceOf d.grid tech) d.grid.pieces
  pub stacks : All (IsStackOf d.grid tech) d.grid.stacks
  pub pads : All (λ p. IsOnPiece d.grid.pieces p.piece p.along) d.pads
  pub taps : All (λ t. IsOnPiece d.grid.pieces t.piece t.along) d.taps
  pub ranges : All (λ t. t.low ≤ℤ t.high) d.taps
  pub few_layers : length tech.routing < 2 ^ 32
  pub few_pieces : length d.grid.pieces < 2 ^ 32
  pub few_stacks : length d.grid.stacks < 2 ^ 32
