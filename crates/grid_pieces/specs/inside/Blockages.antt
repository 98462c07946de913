-- Blockages that are found by what lies across a line.
use Rattle.std.specs.Prelude.{ℤ, ◌-ℤ◌, ◌+ℤ◌, ◌↔◌, List, map, Option, Some, None}
use Rattle.std.specs.List.{filter_map}
use Rattle.std.specs.List.Sorted.{IsPermutation}
use Rattle.geom_rect.specs.Drawn.{half}
use Rattle.geom_rect.specs.Rect.{IsCoordinate}
use Rattle.geom_rect.specs.declared.direction.Axis.{Axis}
use Rattle.geom_rect.specs.declared.direction.Axis.TheVariants.{X, Y}
use Rattle.geom_rect.specs.declared.rect.Rect.{Rect}
use Rattle.geom_rect.specs.declared.run.Run.{Run}
use Rattle.lef_tech.specs.declared.layer.LayerRef.{LayerRef}
use Rattle.lef_tech.specs.declared.layer.LayerRef.TheVariants.{Routing, Cut}
use Rattle.run_index.specs.declared.entry.Entry.{Entry}
use Rattle.grid_pieces.specs.declared.line.Line.{Line}
use Rattle.grid_pieces.specs.declared.piece.Block.{Block}
use Rattle.grid_pieces.specs.Line.{along, across}
use Rattle.grid_pieces.specs.Limits.{WidthKeeps}
use Rattle.grid_pieces.specs.Piece.{IsBlocked}

-- The edges of the line lie within their limit.
pub record LineKeeps (line : Line) : Type 0 where
  pub width : WidthKeeps line.width
  pub low : IsCoordinate (line.centre -ℤ half line.width)
  pub high : IsCoordinate (line.centre +ℤ half line.width)

-- The cells that the line has across.
abbrev pub window_of : Line → Run
window_of line = record { from = line.centre -ℤ half line.width; to = line.centre +ℤ half line.width }

-- What stands in the index for a grown blockage of this layer; nothing for one of a cut layer.
abbrev pub entry_on : Axis → Rect → LayerRef → Option Entry
entry_on axis grown (Routing layer) = Some
    (record { group = layer; across = across axis grown; along = along axis grown })
entry_on axis grown (Cut layer) = None

abbrev pub entry_of : Axis → Block → Option Entry
entry_of axis block = entry_on axis block.grown block.layer

-- The grown blockage that an entry for lines along x stands for.
abbrev pub block_of : Entry → Block
block_of entry =
    let rect : Rect = record
    { x1 = entry.along.from; y1 = entry.across.from; x2 = entry.along.to; y2 = entry.across.to } in
    record { layer = Routing entry.group; plain = rect; grown = rect }

abbrev pub blocks_of : List Entry → List Block
blocks_of entries = map block_of entries

-- Some blockages stand in both indexes.
abbrev pub AreIndexed : List Entry → List Entry → Type 0
AreIndexed along_x along_y = (blocks : List Block)
    × IsPermutation (filter_map (entry_of X) blocks) along_x × IsPermutation (filter_map (entry_of Y) blocks) along_y

-- The same cells are blocked.
abbrev pub BlockAlike : List Block → List Block → Type 0
BlockAlike one other = (line : Line) (t : ℤ) → IsBlocked one line t ↔ IsBlocked other line t
