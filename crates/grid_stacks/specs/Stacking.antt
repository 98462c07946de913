-- The answer of `stacks`.
use Rattle.std.specs.Prelude.{◌≡◌, ◌≢◌, ◌⊎◌, ℕ, ◌<◌, ◌≤◌, ℤ, ◌+ℤ◌, true, List, All, AllPairs, Contains, map, length, slice_index_or, Option, None}
use Rattle.std.specs.Ordering.{nat_cmp, int_cmp, ordering_then, is_lt}
use Rattle.std.specs.declared.cmp.Ordering.{Ordering}
use Rattle.lef_tech.specs.declared.layer.RoutingLayer.{RoutingLayer}
use Rattle.lef_tech.specs.declared.tech.Tech.{Tech}
use Rattle.via_arrays.specs.declared.error.StackError.{StackError}
use Rattle.via_arrays.specs.declared.error.StackError.TheVariants as errors
use Rattle.via_arrays.specs.Choice.{direction}
use Rattle.via_arrays.specs.Stacks.{IsStack, IsStackRefused}
use Rattle.geom_rect.specs.Rect.{IsInOrder, HasCoordinates}
use Rattle.geom_rect.specs.Run.{HasCell}
use Rattle.grid_stacks.specs.declared.connect.Connect.{Connect}
use Rattle.grid_stacks.specs.declared.connect.Site.{Site}
use Rattle.grid_pieces.specs.declared.error.Counted.TheVariants.{Lines, Pieces, Stacks}
use Rattle.grid_pieces.specs.declared.error.DrawError.{DrawError}
use Rattle.grid_pieces.specs.declared.error.DrawError.TheVariants.{TooMany, NoSheet, Stack, Want}
use Rattle.grid_pieces.specs.declared.piece.Piece.{Piece}
use Rattle.grid_pieces.specs.declared.piece.Block.{Block}
use Rattle.grid_pieces.specs.declared.piece.StackAt.{StackAt}
use Rattle.geom_rect.specs.Drawn.{half}
use Rattle.grid_pieces.specs.Line.{piece_line, piece_run}
use Rattle.grid_pieces.specs.Touch.{rect_order}
use Rattle.grid_stacks.specs.Crossing.{At, Stands}

-- The limits of a grid.
abbrev pub most_pieces : ℕ
most_pieces = 4000000

abbrev pub most_stacks : ℕ
most_stacks = 1000000

-- Places are compared by net, x, y, lowest and highest layer and crossing, in turn.
abbrev pub place_order : Site → Site → Ordering
place_order a b = ordering_then
    (ordering_then (ordering_then (ordering_then (nat_cmp a.net b.net) (int_cmp a.x b.x)) (int_cmp a.y b.y))
    (nat_cmp a.from b.from)) (nat_cmp a.to b.to)

abbrev pub site_order : Site → Site → Ordering
site_order a b = ordering_then (place_order a b) (rect_order a.crossing b.crossing)

-- More than n different ones have the property.
pub record MoreThan (n : ℕ) (P : Site → Type 0) : Type 0 where
  pub some : List Site
  pub each : All P some
  pub differ : AllPairs (λ a b. a ≢ b) some
  pub more : n < length some

-- No two sites are alike.
abbrev pub AreDifferent : List Site → Type 0
AreDifferent sites = AllPairs (λ a b. a ≢ b) sites

-- More sites than are asked for.
abbrev pub AreMany : List Site → Type 0
AreMany sites = most_stacks < length sites

-- All different sites with the property, or too many.
pub record AreStanding (P : Site → Type 0) (sites : List Site) : Type 0 where
  pub each : All P sites
  pub differ : AreDifferent sites
  pub every : AreMany sites ⊎ ((s : Site) → P s → Contains sites s)

-- The list has all that have the property, each once and in order.
pub record AreSites (P : Site → Type 0) (sites : List Site) : Type 0 where
  pub each : All P sites
  pub every : (site : Site) → P site → Contains sites site
  pub in_order : AllPairs (λ a b. is_lt (site_order a b) ≡ true) sites

-- The resistance of a square of a routing layer.
abbrev pub sheet_of : Tech → ℕ → Option ℕ
sheet_of tech layer = slice_index_or (map (λ (l : RoutingLayer). l.sheet) tech.routing) layer None

abbrev pub HasSheet : Tech → Piece → Type 0
HasSheet tech piece = sheet_of tech piece.layer ≢ None

-- The first piece of the list whose layer has none lies on this layer.
pub record IsFirstWithout (tech : Tech) (pieces : List Piece) (layer : ℕ) : Type 0 where
  pub place : ℕ
  pub piece : Piece
  pub is : At pieces place piece
  pub none : sheet_of tech piece.layer ≡ None
  pub on_layer : piece.layer ≡ layer
  pub first : (k : ℕ) (other : Piece) → k < place → At pieces k other → HasSheet tech other

-- The stack of a site.
pub record IsStackAt (tech : Tech) (units : ℕ) (site : Site) (at : StackAt) : Type 0 where
  pub net : at.net ≡ site.net
  pub x : at.x ≡ site.x
  pub y : at.y ≡ site.y
  pub crossing : at.crossing ≡ site.crossing
  pub stack : IsStack tech site.crossing units site.max_columns site.max_rows site.from site.to at.stack

-- A stack for each site, in turn.
pub record AreStacksAt (tech : Tech) (units : ℕ) (sites : List Site) (stacks : List StackAt) : Type 0 where
  pub as_many : length stacks ≡ length sites
  pub each : (k : ℕ) (site : Site) (at : StackAt) → k < length sites
      → IsStackAt tech units (slice_index_or sites k site) (slice_index_or stacks k at)

-- The site at a place has no stack for this reason, and each before it has one.
pub record IsFirstRefused (tech : Tech) (units : ℕ) (sites : List Site) (error : StackError) (x y : ℤ) : Type 0 where
  pub place : ℕ
  pub site : Site
  pub is : At sites place site
  pub stacks : (k : ℕ) (other : Site) → k < place → At sites k other → (at : StackAt) × IsStackAt tech units other at
  pub refused : IsStackRefused tech site.crossing units site.max_columns site.max_rows site.from site.to error
  pub known : error ≢ errors.Want
  pub at_x : site.x ≡ x
  pub at_y : site.y ≡ y

-- The sites where stacks stand are not too many, and these are all.
pub record AreAllowed (P : Site → Type 0) (pieces : List Piece) (sites : List Site) : Type 0 where
  pub few_pieces : length pieces ≤ most_pieces
  pub are : AreSites P sites
  pub few : length sites ≤ most_stacks

-- All stacks, in the order of net, place, layers and crossing.
abbrev pub AreStacks : (P : Site → Type 0) → Tech → ℕ → List Piece → List StackAt → Type 0
AreStacks P tech units pieces stacks = (sites : List Site) × AreAllowed P pieces sites × All (HasSheet tech) pieces
    × AreStacksAt tech units sites stacks

-- Why there are none: too many pieces, too many stacks, a piece without a sheet resistance, or a crossing that no stack
-- can join.
abbrev pub AreRefused : (P : Site → Type 0) → Tech → ℕ → List Piece → DrawError → Type 0
AreRefused P tech units pieces (TooMany Lines) = ⊥
AreRefused P tech units pieces (TooMany Pieces) = most_pieces < length pieces
AreRefused P tech units pieces (TooMany Stacks) = (length pieces ≤ most_pieces) × MoreThan most_stacks P
AreRefused P tech units pieces (NoSheet layer) = (sites : List Site) × AreAllowed P pieces sites
    × IsFirstWithout tech pieces layer
AreRefused P tech units pieces (Stack error x y) = (sites : List Site) × AreAllowed P pieces sites
    × All (HasSheet tech) pieces × IsFirstRefused tech units sites error x y
AreRefused P tech units pieces Want = Unit {0}
AreRefused P tech units pieces _ = ⊥

-- What is asked of the connects: they join two routing layers of different directions.
pub record ConnectKeeps (tech : Tech) (connect : Connect) : Type 0 where
  pub rising : connect.from < connect.to
  pub layers : connect.to < length tech.routing
  pub turned : direction tech connect.from ≢ direction tech connect.to

-- A piece on a layer of a connect goes along the layer's direction.
abbrev pub AreAlong : Tech → List Connect → List Piece → Type 0
AreAlong tech connects pieces = (connect : Connect) (piece : Piece) → Contains connects connect → Contains pieces piece
    → (piece.layer ≡ connect.from) ⊎ (piece.layer ≡ connect.to)
    → piece.axis ≡ direction tech piece.layer

-- Half of an even width on each side.
abbrev pub IsEven : Piece → Type 0
IsEven piece = piece.width ≡ half piece.width +ℤ half piece.width

-- Two pieces of one line have no cell in common.
abbrev pub LieApart : Piece → Piece → Type 0
LieApart a b = piece_line a ≡ piece_line b → (t : ℤ) → HasCell (piece_run a) t → HasCell (piece_run b) t → ⊥

-- Its layer is a routing layer of the technology.
abbrev pub HasLayer : Tech → Piece → Type 0
HasLayer tech piece = piece.layer < length tech.routing

-- What a site keeps, so that its stack may be asked for.
pub record SiteKeeps (tech : Tech) (site : Site) : Type 0 where
  pub rising : site.from < site.to
  pub layers : site.to < length tech.routing
  pub upright : IsInOrder site.crossing
  pub edges : HasCoordinates site.crossing

-- A site has no stack for this reason, or there was not enough memory.
abbrev pub IsOneRefused : Tech → ℕ → Site → DrawError → Type 0
IsOneRefused tech units site (Stack error x y) = IsStackRefused tech site.crossing units site.max_columns site.max_rows
    site.from site.to error × (error ≢ errors.Want) × (site.x ≡ x) × (site.y ≡ y)
IsOneRefused tech units site Want = Unit {0}
IsOneRefused tech units site _ = ⊥

-- The first site that has none.
abbrev pub IsSiteRefused : Tech → ℕ → List Site → DrawError → Type 0
IsSiteRefused tech units sites (Stack error x y) = IsFirstRefused tech units sites error x y
IsSiteRefused tech units sites Want = Unit {0}
IsSiteRefused tech units sites _ = ⊥

-- A stack for each of the first sites.
pub record AreStacksTo (tech : Tech) (units : ℕ) (sites : List Site) (count : ℕ) (stacks : List StackAt) : Type 0 where
  pub within : count ≤ length sites
  pub as_many : length stacks ≡ count
  pub each : (k : ℕ) (site : Site) (at : StackAt) → k < count
      → IsStackAt tech units (slice_index_or sites k site) (slice_index_or stacks k at)
