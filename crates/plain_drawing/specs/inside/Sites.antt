-- The sites of a connect, of a piece and of a pair of pieces.
use Rattle.std.specs.Prelude.{◌≡◌, ℕ, ◌<◌, List}
use Rattle.geom_rect.specs.Rect.{ShareArea}
use Rattle.geom_rect.specs.declared.rect.Rect.{Rect}
use Rattle.lef_tech.specs.declared.layer.LayerRef.{LayerRef}
use Rattle.lef_tech.specs.declared.layer.LayerRef.TheVariants.{Routing}
use Rattle.lef_tech.specs.declared.tech.Tech.{Tech}
use Rattle.grid_pieces.specs.Piece.{Among}
use Rattle.grid_pieces.specs.declared.piece.Block.{Block}
use Rattle.grid_pieces.specs.declared.piece.Piece.{Piece}
use Rattle.grid_stacks.specs.Crossing.{At, Cross, IsObstructed, LiesBetween, crossing_of, site_of}
use Rattle.grid_stacks.specs.declared.connect.Connect.{Connect}
use Rattle.grid_stacks.specs.declared.connect.Site.{Site}

-- A layer stands below a place, and above it.
abbrev pub StandsBelow : List LayerRef → LayerRef → ℕ → Type 0
StandsBelow order layer place = (i : ℕ) × (i < place) × At order i layer

abbrev pub StandsAbove : List LayerRef → LayerRef → ℕ → Type 0
StandsAbove order layer place = (k : ℕ) × (place < k) × At order k layer

-- Two routing layers stand below and above a place.
abbrev pub AreAround : List LayerRef → ℕ → ℕ → ℕ → Type 0
AreAround order from to place = StandsBelow order (Routing from) place × StandsAbove order (Routing to) place

-- A blockage of a layer strictly between those of the connect overlaps the rectangle.
abbrev pub Obstructs : Tech → Connect → Rect → Block → Type 0
Obstructs tech connect rect block = LiesBetween tech connect.from connect.to block.layer × ShareArea rect block.plain

-- Two connects have the same layers.
abbrev pub SameLayers : Connect → Connect → Type 0
SameLayers a b = (a.from ≡ b.from) × (a.to ≡ b.to)

-- No connect before a place has the layers of that at the place.
abbrev pub NoneEarlier : List Connect → ℕ → Type 0
NoneEarlier connects place = (k : ℕ) (one other : Connect) → k < place → At connects k other → At connects place one
    → SameLayers other one → ⊥

-- A stack stands where two pieces cross.
abbrev pub StandsAt : Tech → List Block → Connect → Piece → Piece → Type 0
StandsAt tech blocks connect flat upright = Cross connect flat upright
    × (IsObstructed tech connect blocks (crossing_of flat upright) → ⊥)

-- The site of a pair of pieces where one stands.
abbrev pub IsSiteOf : Tech → List Block → Connect → Piece → Site → Piece → Type 0
IsSiteOf tech blocks connect flat site upright = StandsAt tech blocks connect flat upright
    × (site ≡ site_of connect flat upright)

-- One on a piece, by a connect.
abbrev pub StandsOn : Tech → List Piece → List Block → Connect → Piece → Site → Type 0
StandsOn tech pieces blocks connect flat site = Among (IsSiteOf tech blocks connect flat site) pieces

-- One by a connect.
abbrev pub StandsBy : Tech → List Piece → List Block → Connect → Site → Type 0
StandsBy tech pieces blocks connect site = Among (λ flat. StandsOn tech pieces blocks connect flat site) pieces

-- One by a used connect before a place.
abbrev pub StandsTo : Tech → List Piece → List Connect → List Block → ℕ → Site → Type 0
StandsTo tech pieces connects blocks place site = (k : ℕ) × (connect : Connect) × (k < place) × At connects k connect
    × NoneEarlier connects k × StandsBy tech pieces blocks connect site
