-- Where stacks stand, by all pairs of pieces (this project; OpenROAD PDN manual, add_pdn_connect).
use Rattle.std.specs.Prelude.{◌≡◌, ℕ, ◌<◌, ◌⊎◌, List, Contains, length, slice_index_or, Option, Some, None}
use Rattle.std.specs.Int.{int_max, int_min}
use Rattle.geom_rect.specs.Rect.{ShareArea}
use Rattle.geom_rect.specs.declared.rect.Rect.{Rect}
use Rattle.geom_rect.specs.declared.direction.Axis.TheVariants.{X, Y}
use Rattle.lef_tech.specs.declared.layer.LayerRef.{LayerRef}
use Rattle.lef_tech.specs.declared.layer.LayerRef.TheVariants.{Routing}
use Rattle.lef_tech.specs.declared.tech.Tech.{Tech}
use Rattle.grid_stacks.specs.declared.connect.Connect.{Connect}
use Rattle.grid_stacks.specs.declared.connect.Site.{Site}
use Rattle.grid_pieces.specs.declared.piece.Piece.{Piece}
use Rattle.grid_pieces.specs.declared.piece.Block.{Block}
use Rattle.grid_pieces.specs.Line.{piece_rect}
use Rattle.grid_pieces.specs.Piece.{Among}
use Rattle.grid_pieces.specs.Line.{across}

-- x stands at place k of the list.
abbrev pub At : {X : Type 0} → List X → ℕ → X → Type 0
At xs k x = (k < length xs) × (slice_index_or xs k x ≡ x)

-- The rectangle in both.
abbrev pub common : Rect → Rect → Rect
common a b = record { x1 = int_max a.x1 b.x1; y1 = int_max a.y1 b.y1; x2 = int_min a.x2 b.x2; y2 = int_min a.y2 b.y2 }

abbrev pub crossing_of : Piece → Piece → Rect
crossing_of one other = common (piece_rect one) (piece_rect other)

-- A rectangle has the full width of the piece.
abbrev pub HasWidth : Rect → Piece → Type 0
HasWidth rect piece = across piece.axis rect ≡ across piece.axis (piece_rect piece)

-- The two pieces lie on the two layers of the connect.
abbrev pub Joins : Connect → Piece → Piece → Type 0
Joins connect one other = ((one.layer ≡ connect.from) × (other.layer ≡ connect.to))
    ⊎ ((one.layer ≡ connect.to) × (other.layer ≡ connect.from))

-- A crossing: a horizontal and a vertical piece of one net, on the two layers of a connect, whose common rectangle has
-- the full width of both.
pub record Cross (connect : Connect) (flat upright : Piece) : Type 0 where
  pub horizontal : flat.axis ≡ X
  pub vertical : upright.axis ≡ Y
  pub net : flat.net ≡ upright.net
  pub layers : Joins connect flat upright
  pub flat_width : HasWidth (crossing_of flat upright) flat
  pub upright_width : HasWidth (crossing_of flat upright) upright

-- The layer, which may be a cut layer, lies strictly between two routing layers.
pub record LiesBetween (tech : Tech) (from to : ℕ) (layer : LayerRef) : Type 0 where
  pub i : ℕ
  pub j : ℕ
  pub k : ℕ
  pub above : i < j
  pub below : j < k
  pub lowest : At tech.order i (Routing from)
  pub is : At tech.order j layer
  pub highest : At tech.order k (Routing to)

-- A blockage of a layer strictly between overlaps the rectangle; it is not grown.
abbrev pub IsObstructed : Tech → Connect → List Block → Rect → Type 0
IsObstructed tech connect blocks rect = Among (λ (block : Block). LiesBetween tech connect.from connect.to block.layer
    × ShareArea rect block.plain) blocks

-- No earlier connect has the same layers.
pub record IsUsed (connects : List Connect) (connect : Connect) : Type 0 where
  pub place : ℕ
  pub is : At connects place connect
  pub none : (k : ℕ) (other : Connect) → k < place → At connects k other → other.from ≡ connect.from
      → other.to ≡ connect.to → ⊥

-- A limit that is not stated is none that matters.
abbrev pub limit_of : Option ℕ → ℕ
limit_of None = 4294967295
limit_of (Some n) = n

-- The place of a crossing.
abbrev pub site_of : Connect → Piece → Piece → Site
site_of connect flat upright = record {
  net = flat.net;
  x = upright.centre;
  y = flat.centre;
  from = connect.from;
  to = connect.to;
  crossing = crossing_of flat upright;
  max_columns = limit_of connect.max_columns;
  max_rows = limit_of connect.max_rows;
}

-- A stack stands at a crossing of two of the pieces, by a connect that is used, where nothing obstructs it.
pub record Stands (tech : Tech) (pieces : List Piece) (connects : List Connect) (blocks : List Block) (site : Site)
    : Type 0 where
  pub connect : Connect
  pub flat : Piece
  pub upright : Piece
  pub used : IsUsed connects connect
  pub flat_is : Contains pieces flat
  pub upright_is : Contains pieces upright
  pub cross : Cross connect flat upright
  pub free : IsObstructed tech connect blocks (crossing_of flat upright) → ⊥
  pub is : site ≡ site_of connect flat upright
