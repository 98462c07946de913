-- The pads and taps of a grid, and what refuses them, do not rest on its stacks; and nothing of the pads and rails on its
-- domains.
use Rattle.std.proofs.Common.{◌≡◌, ◌⊎◌, inl, inr, ℕ, ◌<◌, ℤ, List, [], ◌∷◌, ◌++◌, All}
use Rattle.lef_tech.specs.declared.tech.Tech.{Tech}
use Rattle.lef_cells.specs.declared.record.Cells.{Cells}
use Rattle.def_design.specs.declared.record.Component.{Component}
use Rattle.def_design.specs.declared.record.Design.{Design}
use Rattle.bias_file.specs.declared.record.Bias.{Bias}
use Rattle.bias_file.specs.declared.record.PadAt.{PadAt}
use Rattle.grid_pieces.specs.declared.grid.Grid.{Grid}
use Rattle.grid_pieces.specs.declared.grid.DomainAt.{DomainAt}
use Rattle.grid_pieces.specs.declared.piece.Piece.{Piece}
use Rattle.grid_pieces.specs.declared.piece.StackAt.{StackAt}
use Rattle.grid_network.specs.declared.pad.PadOn.{PadOn}
use Rattle.grid_network.specs.declared.pad.Tap.{Tap}
use Rattle.grid_taps.specs.declared.column.Column.{Column}
use Rattle.grid_taps.specs.Pads.{StandsOn, IsPadOn, AreOnPieces, ArePads, InOrder}
use Rattle.grid_taps.specs.Rails.{IsRail, Crosses, IsLowestRail}
use Rattle.grid_taps.specs.Taps.{IsPlaced, AreTapsOf, AreTapsFor, AreTaps, IsUnowned, LacksRail, HasNoTaps, IsLoadOff}
use Rattle.grid_extract.specs.Extraction.{AllStand}
use Rattle.alike_grids.proofs.Networks.{with}

-- what each source gives in one way it gives in another
pub gives_all : {S E : Type 0} (P Q : S → List E → Type 0) → ((s : S) (es : List E) → P s es → Q s es) → (ss : List S) (es : List E) → InOrder P ss es → InOrder Q ss es
gives_all P Q goes [] es h = h
gives_all P Q goes (s ∷ ss) es (first, rest, gives, more, is) = (first, rest, goes s first gives, gives_all P Q goes ss rest more, is)

module _ (grid : Grid) (tech : Tech) (cells : Cells) (bias : Bias) where
  pub stands_in : (ds es : List DomainAt) (xs ys : List StackAt) (pad : PadAt) (number : ℕ) (along : ℤ) → StandsOn (with grid ds xs) tech pad number along
      → StandsOn (with grid es ys) tech pad number along
  stands_in ds es xs ys pad number along h = record {
    piece = h.piece;
    is = h.is;
    net = h.net;
    layer = h.layer;
    x = h.x;
    y = h.y;
    in_x = h.in_x;
    in_y = h.in_y;
    has = h.has;
    so_far = h.so_far;
  }

  pad_in : (ds es : List DomainAt) (xs ys : List StackAt) (pad : PadAt) (on : PadOn) → IsPadOn (with grid ds xs) tech bias pad on → IsPadOn (with grid es ys) tech bias pad on
  pad_in ds es xs ys pad on h = record { stands = stands_in ds es xs ys pad on.piece on.along h.stands; volts = h.volts }

  on_pieces_in : (ds es : List DomainAt) (xs ys : List StackAt) (pad : PadAt) (on : List PadOn) → AreOnPieces (with grid ds xs) tech bias pad on
      → AreOnPieces (with grid es ys) tech bias pad on
  on_pieces_in ds es xs ys pad on h = record {
    each = λ k d within. pad_in ds es xs ys pad _ (h.each k d within);
    every = λ one is. h.every one (pad_in es ds ys xs pad one is);
    rising = h.rising;
  }

  pub pads_in : (ds es : List DomainAt) (xs ys : List StackAt) (pads : List PadOn) → ArePads (with grid ds xs) tech bias pads → ArePads (with grid es ys) tech bias pads
  pads_in ds es xs ys pads h = gives_all (AreOnPieces (with grid ds xs) tech bias) (AreOnPieces (with grid es ys) tech bias) (on_pieces_in ds es xs ys) bias.pads pads h

  pub rail_in : (ds es : List DomainAt) (xs ys : List StackAt) (net number : ℕ) (rail : Piece) → IsRail (with grid ds xs) net number rail → IsRail (with grid es ys) net number rail
  rail_in ds es xs ys net number rail h = record { is = h.is; of_net = h.of_net; shape = h.shape; axis = h.axis }

  pub lowest_in : (ds es : List DomainAt) (xs ys : List StackAt) (net : ℕ) (column : Column) (number : ℕ) → IsLowestRail (with grid ds xs) net column number
      → IsLowestRail (with grid es ys) net column number
  lowest_in ds es xs ys net column number h = record {
    rail = h.rail;
    is = rail_in ds es xs ys net number h.rail h.is;
    crosses = h.crosses;
    lowest = λ place other is. h.lowest place other (rail_in es ds ys xs net place other is);
  }

  placed_in : (xs ys : List StackAt) (component : Component) (column : Column) (domain : DomainAt) → IsPlaced (with grid grid.domains xs) cells component column domain
      → IsPlaced (with grid grid.domains ys) cells component column domain
  placed_in xs ys component column domain h = record {
    x = h.x;
    y = h.y;
    orient = h.orient;
    cell = h.cell;
    place = h.place;
    is = h.is;
    owner = h.owner;
    column_is = h.column_is;
  }

  taps_of_in : (xs ys : List StackAt) (component : Component) (low high : ℤ) (taps : List Tap) → AreTapsOf (with grid grid.domains xs) cells component low high taps
      → AreTapsOf (with grid grid.domains ys) cells component low high taps
  taps_of_in xs ys component low high taps h = record {
    column = h.column;
    domain = h.domain;
    placed = placed_in xs ys component h.column h.domain h.placed;
    power = h.power;
    ground = h.ground;
    power_rail = lowest_in grid.domains grid.domains xs ys h.domain.power h.column h.power h.power_rail;
    ground_rail = lowest_in grid.domains grid.domains xs ys h.domain.ground h.column h.ground h.ground_rail;
    are = h.are;
  }

  taps_for_in : (xs ys : List StackAt) (component : Component) (taps : List Tap) → AreTapsFor (with grid grid.domains xs) cells bias component taps
      → AreTapsFor (with grid grid.domains ys) cells bias component taps
  taps_for_in xs ys component taps (low, high, range, inl none) = (low, high, range, inl none)
  taps_for_in xs ys component taps (low, high, range, inr (some, are)) = (low, high, range, inr (some, taps_of_in xs ys component low high taps are))

  taps_in : (xs ys : List StackAt) (components : List Component) (taps : List Tap) → AreTaps (with grid grid.domains xs) cells bias components taps
      → AreTaps (with grid grid.domains ys) cells bias components taps
  taps_in xs ys components taps h =
      gives_all (AreTapsFor (with grid grid.domains xs) cells bias) (AreTapsFor (with grid grid.domains ys) cells bias) (taps_for_in xs ys) components taps h

  unowned_in : (xs ys : List StackAt) (component : Component) → IsUnowned (with grid grid.domains xs) component → IsUnowned (with grid grid.domains ys) component
  unowned_in xs ys component h = record { x = h.x; y = h.y; orient = h.orient; place = h.place; none = h.none }

  lacks_in : (xs ys : List StackAt) (component : Component) → LacksRail (with grid grid.domains xs) cells component → LacksRail (with grid grid.domains ys) cells component
  lacks_in xs ys component h = record {
    column = h.column;
    domain = h.domain;
    placed = placed_in xs ys component h.column h.domain h.placed;
    net = h.net;
    of_domain = h.of_domain;
    none = λ number rail is. h.none number rail (rail_in grid.domains grid.domains ys xs h.net number rail is);
  }

  no_taps_in : (xs ys : List StackAt) (component : Component) → HasNoTaps (with grid grid.domains xs) cells component → HasNoTaps (with grid grid.domains ys) cells component
  no_taps_in xs ys component (inl h) = inl h
  no_taps_in xs ys component (inr (inl h)) = inr (inl h)
  no_taps_in xs ys component (inr (inr (inl h))) = inr (inr (inl (unowned_in xs ys component h)))
  no_taps_in xs ys component (inr (inr (inr h))) = inr (inr (inr (lacks_in xs ys component h)))

  off_in : (xs ys : List StackAt) (components : List Component) (number : ℕ) → IsLoadOff (with grid grid.domains xs) cells bias components number
      → IsLoadOff (with grid grid.domains ys) cells bias components number
  off_in xs ys components number h = record {
    component = h.component;
    is = h.is;
    low = h.low;
    high = h.high;
    range = h.range;
    some = h.some;
    none = no_taps_in xs ys h.component h.none;
  }

  pub stand_in : (design : Design) (xs ys : List StackAt) (pads : List PadOn) (taps : List Tap) → AllStand (with grid grid.domains xs) tech cells design bias pads taps
      → AllStand (with grid grid.domains ys) tech cells design bias pads taps
  stand_in design xs ys pads taps h = record {
    known = h.known;
    supplied = h.supplied;
    on_metal = λ line off. h.on_metal line (let (pad, in_list, (of_line, none)) = off in (pad, in_list, (of_line, λ number along stands. none number along (stands_in grid.domains grid.domains xs ys pad number along stands))));
    loads_on = λ number off. h.loads_on number (off_in ys xs design.components number off);
    pads_are = pads_in grid.domains grid.domains xs ys pads h.pads_are;
    taps_are = taps_in xs ys design.components taps h.taps_are;
  }
