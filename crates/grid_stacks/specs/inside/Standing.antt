-- What the sweep over the bars of a connect keeps.
use Rattle.std.specs.Prelude.{◌≡◌, ◌≢◌, ◌⊎◌, ℕ, ◌<◌, ◌≤◌, ℤ, ◌<ℤ◌, ◌≤ℤ◌, true, false, List, [], ◌∷◌, ◌++◌, All, AllPairs, Contains, length}
use Rattle.std.specs.BTreeSet.{BTreeSet, contains}
use Rattle.std.specs.Ordering.{nat_cmp, int_cmp, is_gt}
use Rattle.std.specs.Int.{int_max, int_min}
use Rattle.geom_rect.specs.Run.{HasCell}
use Rattle.geom_rect.specs.declared.rect.Rect.{Rect}
use Rattle.geom_rect.specs.declared.run.Run.{Run}
use Rattle.lef_tech.specs.declared.layer.LayerRef.{LayerRef}
use Rattle.lef_tech.specs.declared.tech.Tech.{Tech}
use Rattle.grid_stacks.specs.declared.bar.Bar.{Bar}
use Rattle.grid_stacks.specs.declared.bar.Start.{Start}
use Rattle.grid_stacks.specs.declared.connect.Connect.{Connect}
use Rattle.grid_stacks.specs.declared.connect.Site.{Site}
use Rattle.grid_pieces.specs.declared.piece.Block.{Block}
use Rattle.grid_pieces.specs.Piece.{Among}
use Rattle.grid_stacks.specs.inside.Bar.{bar_run}
use Rattle.grid_pieces.specs.declared.piece.Piece.{Piece}
use Rattle.grid_stacks.specs.Crossing.{At, LiesBetween, Cross, IsObstructed, IsUsed, crossing_of, site_of, limit_of}
use Rattle.via_arrays.specs.Choice.{direction}
use Rattle.grid_stacks.specs.Stacking.{AreDifferent, AreMany}

-- The first place of a layer, or the number of all.
pub record IsFirstPlace (order : List LayerRef) (layer : LayerRef) (place : ℕ) : Type 0 where
  pub within : place ≤ length order
  pub none : (k : ℕ) → k < place → At order k layer → ⊥
  pub is : place < length order → At order place layer

-- The last place of a layer, or 0.
pub record IsLastPlace (order : List LayerRef) (layer : LayerRef) (place : ℕ) : Type 0 where
  pub within : place ≤ length order
  pub none : (k : ℕ) → place < k → At order k layer → ⊥
  pub is : 0 < place → At order place layer

-- A layer stands strictly between two places.
abbrev pub StandsWithin : List LayerRef → ℕ → ℕ → LayerRef → Type 0
StandsWithin order low high layer = (j : ℕ) × (low < j) × (j < high) × At order j layer

-- The rectangle of a blockage of a layer strictly between those of the connect.
abbrev pub IsInner : Tech → Connect → List Block → Rect → Type 0
IsInner tech connect blocks r = Among (λ (block : Block). LiesBetween tech connect.from connect.to block.layer
    × (block.plain ≡ r)) blocks

-- The bar at a place lies in the sweep.
abbrev pub Lies : BTreeSet ℕ → ℕ → Type 0
Lies lying p = contains nat_cmp lying p ≡ true

-- The least of them from a place on.
pub record IsNextFrom (lying : BTreeSet ℕ) (from next : ℕ) : Type 0 where
  pub is : Lies lying next
  pub behind : from ≤ next
  pub none : (p : ℕ) → Lies lying p → from ≤ p → next ≤ p

-- One of the rectangles lies over a cell of the flat bar.
abbrev pub IsOverCell : Bar → List Rect → ℤ → Type 0
IsOverCell flat inner t = Among (λ (r : Rect). (int_max flat.low r.y1 <ℤ int_min flat.high r.y2)
    × HasCell (record { from = r.x1; to = r.x2 }) t) inner

-- The flat bar has the cell, and none lies over it.
abbrev pub IsFreeCell : Bar → List Rect → ℤ → Type 0
IsFreeCell flat inner t = HasCell (bar_run flat) t × (IsOverCell flat inner t → ⊥)

-- Two bars of one net on two layers, and the upright one goes over the whole width of the flat one.
pub record Passes (flat upright : Bar) : Type 0 where
  pub net : flat.net ≡ upright.net
  pub layers : flat.layer ≢ upright.layer
  pub begins : upright.from ≤ℤ flat.low
  pub ends : flat.high ≤ℤ upright.to

-- Its whole width lies in a run along the flat one.
pub record Fits (flat : Bar) (run : Run) (upright : Bar) : Type 0 where
  pub passes : Passes flat upright
  pub left : run.from ≤ℤ upright.low
  pub right : upright.high ≤ℤ run.to

-- Its whole width lies over free cells of the flat one.
pub record Crosses (inner : List Rect) (flat upright : Bar) : Type 0 where
  pub passes : Passes flat upright
  pub free : (t : ℤ) → upright.low ≤ℤ t → t <ℤ upright.high → IsFreeCell flat inner t

-- The place of a crossing of two bars.
abbrev pub bar_site : Connect → Bar → Bar → Site
bar_site connect flat upright = record {
  net = flat.net;
  x = upright.centre;
  y = flat.centre;
  from = connect.from;
  to = connect.to;
  crossing = record { x1 = upright.low; y1 = flat.low; x2 = upright.high; y2 = flat.high };
  max_columns = limit_of connect.max_columns;
  max_rows = limit_of connect.max_rows;
}

-- The sites of this flat bar are added that fit into a run, those of the upright bars with the property.
pub record RunAdded (connect : Connect) (flat : Bar) (run : Run) (uprights : List Bar) (Is : ℕ
    → Type 0) (old new : List Site) : Type 0 where
  pub kept : (s : Site) → Contains old s → Contains new s
  pub longer : length old ≤ length new
  pub each : All (λ s. Contains old s
      ⊎ ((j : ℕ) × (upright : Bar) × Is j × At uprights j upright × Fits flat run upright
      × (s ≡ bar_site connect flat upright))) new
  pub differ : AreDifferent new

-- The same of those that cross it.
pub record FlatAdded (connect : Connect) (inner : List Rect) (flat : Bar) (uprights : List Bar) (old new : List Site)
    : Type 0 where
  pub kept : (s : Site) → Contains old s → Contains new s
  pub longer : length old ≤ length new
  pub each : All (λ s. Contains old s
      ⊎ ((upright : Bar) × Contains uprights upright × Crosses inner flat upright
      × (s ≡ bar_site connect flat upright))) new
  pub differ : AreDifferent new

-- The same of the first flat bars.
pub record AllAdded (connect : Connect) (inner : List Rect) (flats uprights : List Bar) (count : ℕ)
    (old new : List Site) : Type 0 where
  pub kept : (s : Site) → Contains old s → Contains new s
  pub longer : length old ≤ length new
  pub each : All (λ s. Contains old s
      ⊎ ((i : ℕ) × (flat : Bar) × (upright : Bar) × (i < count) × At flats i flat × Contains uprights upright
      × Crosses inner flat upright
      × (s ≡ bar_site connect flat upright))) new
  pub differ : AreDifferent new

-- No site of the list is that of a pair with the property.
abbrev pub NoneIs : Connect → Bar → (Bar → Type 0) → List Bar → List Site → Type 0
NoneIs connect flat P uprights sites = (upright : Bar) → Contains uprights upright → P upright
    → All (λ s. s ≢ bar_site connect flat upright) sites

-- Those upright bars that do not end below the flat one still lie.
abbrev pub StillLie : List Bar → Bar → BTreeSet ℕ → BTreeSet ℕ → Type 0
StillLie uprights flat old new = (p : ℕ) (upright : Bar) → At uprights p upright → flat.low ≤ℤ upright.to → Lies old p
    → Lies new p

-- Each upright bar that lies and has the property has its site.
abbrev pub EachHas : Connect → Bar → (Bar → Type 0) → List Bar → BTreeSet ℕ → List Site → Type 0
EachHas connect flat P uprights lying sites = (p : ℕ) (upright : Bar) → At uprights p upright → P upright → Lies lying p
    → Contains sites (bar_site connect flat upright)

-- All bars lie on one layer.
abbrev pub OnOneLayer : List Bar → Type 0
OnOneLayer bars = (a b : Bar) → Contains bars a → Contains bars b → a.layer ≡ b.layer

-- The bars of the first starts lie, unless they end below all flat bars from a place on.
abbrev pub AreOpened : List Bar → List Bar → List Start → ℕ → ℕ → BTreeSet ℕ → Type 0
AreOpened flats uprights starts next from lying = (k : ℕ) (s : Start) (upright : Bar) (m : ℕ) (flat : Bar) → k < next
    → At starts k s → At uprights s.place upright
    → from ≤ m → At flats m flat → flat.low ≤ℤ upright.to → Lies lying s.place

-- None begins before an earlier one.
abbrev pub AreByStart : List Start → Type 0
AreByStart starts = AllPairs (λ (a b : Start). is_gt (int_cmp a.from b.from) ≡ false) starts

-- The place of the next upright bar that lies.
pub record IsNextIn (uprights : List Bar) (lying : BTreeSet ℕ) (from place : ℕ) : Type 0 where
  pub within : place < length uprights
  pub behind : from ≤ place
  pub none : (p : ℕ) → Lies lying p → from ≤ p → place ≤ p

-- One more site, where the upright bar fits, and else the same.
abbrev pub IsMet : Connect → Bar → Run → Bar → List Site → List Site → Type 0
IsMet connect flat run upright old new = (Fits flat run upright × (new ≡ old ++ bar_site connect flat upright ∷ []))
    ⊎ ((Fits flat run upright → ⊥) × (new ≡ old))

-- What is known before the upright bar at `from`.
pub record IsRunTo (connect : Connect) (flat : Bar) (run : Run) (uprights : List Bar) (from : ℕ)
    (lay lying : BTreeSet ℕ) (old new : List Site) : Type 0 where
  pub added : RunAdded connect flat run uprights (λ j. j < from) old new
  pub still : StillLie uprights flat lay lying
  pub every : (p : ℕ) (upright : Bar) → p < from → At uprights p upright → Fits flat run upright → Lies lay p
      → Contains new (bar_site connect flat upright)

-- What is known before the free run at `count`.
pub record IsFlatTo (connect : Connect) (flat : Bar) (runs : List Run) (uprights : List Bar) (count : ℕ)
    (lay lying : BTreeSet ℕ) (old new : List Site) : Type 0 where
  pub kept : (s : Site) → Contains old s → Contains new s
  pub longer : length old ≤ length new
  pub each : All (λ s. Contains old s
      ⊎ ((k : ℕ) × (run : Run) × (upright : Bar) × (k < count) × At runs k run × Contains uprights upright
      × Fits flat run upright
      × (s ≡ bar_site connect flat upright))) new
  pub differ : AreDifferent new
  pub still : StillLie uprights flat lay lying
  pub every : AreMany new
      ⊎ ((k : ℕ) (run : Run) → k < count → At runs k run → EachHas connect flat (Fits flat run) uprights lay new)

-- A bar is of an earlier net, or of this one and begins left of x.
abbrev pub IsBefore : Bar → ℕ → ℤ → Type 0
IsBefore bar net x = (bar.net < net) ⊎ ((bar.net ≡ net) × (bar.low <ℤ x))

-- A bar is of a later net, or of this one and begins at x or right of it.
abbrev pub IsBehind : Bar → ℕ → ℤ → Type 0
IsBehind bar net x = (net < bar.net) ⊎ ((net ≡ bar.net) × (x ≤ℤ bar.low))

-- What is known before the flat bar at `count`.
pub record IsAllTo (connect : Connect) (inner : List Rect) (flats uprights : List Bar) (starts : List Start)
    (count next : ℕ) (lying : BTreeSet ℕ) (old new : List Site) : Type 0 where
  pub added : AllAdded connect inner flats uprights count old new
  pub within : next ≤ length starts
  pub opened : AreOpened flats uprights starts next count lying
  pub every : AreMany new
      ⊎ ((i : ℕ) (flat upright : Bar) → i < count → At flats i flat → Contains uprights upright
      → Crosses inner flat upright → Contains new (bar_site connect flat upright))

-- A stack stands by this connect.
pub record StandsBy (tech : Tech) (pieces : List Piece) (blocks : List Block) (connect : Connect) (site : Site)
    : Type 0 where
  pub flat : Piece
  pub upright : Piece
  pub flat_is : Contains pieces flat
  pub upright_is : Contains pieces upright
  pub cross : Cross connect flat upright
  pub free : IsObstructed tech connect blocks (crossing_of flat upright) → ⊥
  pub is : site ≡ site_of connect flat upright

-- Different sites with the property are added.
pub record SitesAdded (P : Site → Type 0) (old new : List Site) : Type 0 where
  pub kept : (s : Site) → Contains old s → Contains new s
  pub longer : length old ≤ length new
  pub each : All (λ s. Contains old s ⊎ P s) new
  pub differ : AreDifferent new

-- The connect has the layers of this one.
abbrev pub HasLayers : Connect → Connect → Type 0
HasLayers connect other = (other.from ≡ connect.from) × (other.to ≡ connect.to)

-- Of the first connects, those that are used.
pub record AreUsedTo (connects : List Connect) (count : ℕ) (used : List Connect) : Type 0 where
  pub each : All (IsUsed connects) used
  pub every : (k : ℕ) (connect : Connect) → k < count → At connects k connect → Among (HasLayers connect) used
  pub apart : AllPairs (λ (a b : Connect). HasLayers a b → ⊥) used

-- What is known before the used connect at `count`.
pub record IsStandingTo (tech : Tech) (pieces : List Piece) (blocks : List Block) (used : List Connect) (count : ℕ)
    (sites : List Site) : Type 0 where
  pub each : All (λ s. (k : ℕ) × (connect : Connect) × (k < count) × At used k connect
      × StandsBy tech pieces blocks connect s) sites
  pub differ : AreDifferent sites
  pub every : AreMany sites
      ⊎ ((k : ℕ) (connect : Connect) (s : Site) → k < count → At used k connect → StandsBy tech pieces blocks connect s
      → Contains sites s)

-- Pieces on the layers of a connect go along the layers' directions.
abbrev pub GoAlong : Tech → Connect → List Piece → Type 0
GoAlong tech connect pieces = (piece : Piece) → Contains pieces piece → (piece.layer ≡ connect.from)
    ⊎ (piece.layer ≡ connect.to) → piece.axis ≡ direction tech piece.layer
