-- The pads and taps of a grid over one domain do not rest on the domain's region.
use Rattle.std.proofs.Common.{◌≡◌, ◌⊎◌, inl, inr, ℕ, zero, suc, ◌<◌, ℤ, Bool, true, false, List, [], ◌∷◌, None, length, refl, sym, ap, ◌∙◌, subst, arith}
use Rattle.std.specs.Prelude.{slice_index_or}
use Rattle.lef_tech.specs.declared.tech.Tech.{Tech}
use Rattle.lef_cells.specs.declared.record.Cells.{Cells}
use Rattle.def_design.specs.declared.record.Component.{Component}
use Rattle.def_design.specs.declared.record.Design.{Design}
use Rattle.bias_file.specs.declared.record.Bias.{Bias}
use Rattle.grid_pieces.specs.declared.grid.Grid.{Grid}
use Rattle.grid_pieces.specs.declared.grid.DomainAt.{DomainAt}
use Rattle.grid_pieces.specs.declared.piece.Piece.{Piece}
use Rattle.grid_cores.specs.Owner.{owns_place}
use Rattle.grid_network.specs.declared.pad.PadOn.{PadOn}
use Rattle.grid_network.specs.declared.pad.Tap.{Tap}
use Rattle.grid_taps.specs.declared.column.Column.{Column}
use Rattle.grid_taps.specs.Rails.{IsLowestRail}
use Rattle.grid_taps.specs.Taps.{IsOwner, IsPlaced, AreTapsOf, AreTapsFor, IsUnowned, LacksRail, HasNoTaps, IsLoadOff}
use Rattle.grid_extract.specs.Extraction.{AllStand}
use Rattle.alike_grids.proofs.Networks.{with}
use Rattle.alike_grids.proofs.Tapped.{gives_all, stands_in, pads_in, rail_in, lowest_in}

-- the one of a list of one
pub one_in : {X : Type 0} (xs : List X) → length xs ≡ 1 → (x : X) × (xs ≡ x ∷ [])
one_in [] long = absurd (omega (arith, long))
one_in (x ∷ []) long = (x, refl)
one_in (x ∷ y ∷ xs) long = absurd (omega (arith, long))

-- the domain over everything
abbrev pub all_over : DomainAt → DomainAt
all_over d = record d { region = None }

module _ (grid : Grid) (tech : Tech) (cells : Cells) (bias : Bias) (d : DomainAt) where
  abbrev near : Grid
  near = with grid (d ∷ []) grid.stacks

  abbrev wide : Grid
  wide = with grid (all_over d ∷ []) grid.stacks

  -- the one domain is the owner, if any is
  owner_is : (ds : DomainAt) (place : ℤ × ℤ) (domain : DomainAt) → IsOwner (with grid (ds ∷ []) grid.stacks) place domain → ds ≡ domain
  owner_is ds place domain (zero, first, at) = at.1
  owner_is ds place domain (suc k, first, at) = absurd (omega (arith, at.0))

  owner_wide : (x y : ℤ) → IsOwner wide (x, y) (all_over d)
  owner_wide x y = (0, record { within = omega arith; owns = refl; first = λ j before. absurd (omega (arith, before)) }, (omega arith, refl))

  lowest_wide : (net : ℕ) (column : Column) (number : ℕ) → IsLowestRail near net column number → IsLowestRail wide net column number
  lowest_wide net column number h = lowest_in grid tech cells bias (d ∷ []) (all_over d ∷ []) grid.stacks grid.stacks net column number h

  taps_of_wide : (component : Component) (low high : ℤ) (taps : List Tap) → AreTapsOf near cells component low high taps → AreTapsOf wide cells component low high taps
  taps_of_wide component low high taps h = record {
    column = h.column;
    domain = all_over d;
    placed = record {
      x = h.placed.x;
      y = h.placed.y;
      orient = h.placed.orient;
      cell = h.placed.cell;
      place = h.placed.place;
      is = h.placed.is;
      owner = owner_wide h.placed.x h.placed.y;
      column_is = h.placed.column_is;
    };
    power = h.power;
    ground = h.ground;
    power_rail = lowest_wide d.power h.column h.power (subst (λ (a : DomainAt). IsLowestRail near a.power h.column h.power) back h.power_rail);
    ground_rail = lowest_wide d.ground h.column h.ground (subst (λ (a : DomainAt). IsLowestRail near a.ground h.column h.ground) back h.ground_rail);
    are = h.are;
  }
    where
      back : h.domain ≡ d
      back = sym (owner_is d (h.placed.x, h.placed.y) h.domain h.placed.owner)

  taps_for_wide : (component : Component) (taps : List Tap) → AreTapsFor near cells bias component taps → AreTapsFor wide cells bias component taps
  taps_for_wide component taps (low, high, range, inl none) = (low, high, range, inl none)
  taps_for_wide component taps (low, high, range, inr (some, are)) = (low, high, range, inr (some, taps_of_wide component low high taps are))

  -- a net without a rail lacks it in the region too, or the component lies outside of the region
  lacks_near : (component : Component) → LacksRail wide cells component → (IsUnowned near component) ⊎ (LacksRail near cells component)
  lacks_near component h = by (owns_place (d.region ∷ []) d.region (h.placed.x, h.placed.y)) refl
    where
      back : h.domain ≡ all_over d
      back = sym (owner_is (all_over d) (h.placed.x, h.placed.y) h.domain h.placed.owner)

      by : (owns : Bool) → owns_place (d.region ∷ []) d.region (h.placed.x, h.placed.y) ≡ owns → (IsUnowned near component) ⊎ (LacksRail near cells component)
      by true is = inr (record {
        column = h.column;
        domain = d;
        placed = record {
          x = h.placed.x;
          y = h.placed.y;
          orient = h.placed.orient;
          cell = h.placed.cell;
          place = h.placed.place;
          is = h.placed.is;
          owner = (0, record { within = omega arith; owns = is; first = λ j before. absurd (omega (arith, before)) }, (omega arith, refl));
          column_is = h.placed.column_is;
        };
        net = h.net;
        of_domain = subst (λ (a : DomainAt). (h.net ≡ a.power) ⊎ (h.net ≡ a.ground)) back h.of_domain;
        none = λ number rail is_rail. h.none number rail (rail_in grid tech cells bias (d ∷ []) (all_over d ∷ []) grid.stacks grid.stacks h.net number rail is_rail);
      })
      by false is = inl (record {
        x = h.placed.x;
        y = h.placed.y;
        orient = h.placed.orient;
        place = h.placed.place;
        none = no_owner;
      })
        where
          no_owner : (k : ℕ) → k < 1 → owns_place (d.region ∷ []) (slice_index_or (d.region ∷ []) k None) (h.placed.x, h.placed.y) ≡ false
          no_owner zero within = is
          no_owner (suc k) within = absurd (omega (arith, within))

  no_taps_near : (component : Component) → HasNoTaps wide cells component → HasNoTaps near cells component
  no_taps_near component (inl h) = inl h
  no_taps_near component (inr (inl h)) = inr (inl h)
  no_taps_near component (inr (inr (inl h))) = let never : true ≡ false = h.none 0 (omega arith) in cc
  no_taps_near component (inr (inr (inr h))) = inr (inr (lacks_near component h))

  off_near : (components : List Component) (number : ℕ) → IsLoadOff wide cells bias components number → IsLoadOff near cells bias components number
  off_near components number h = record {
    component = h.component;
    is = h.is;
    low = h.low;
    high = h.high;
    range = h.range;
    some = h.some;
    none = no_taps_near h.component h.none;
  }

  pub stand_wide : (design : Design) (pads : List PadOn) (taps : List Tap) → AllStand near tech cells design bias pads taps → AllStand wide tech cells design bias pads taps
  stand_wide design pads taps h = record {
    known = h.known;
    supplied = h.supplied;
    on_metal = λ line off. h.on_metal line (let (pad, in_list, (of_line, none)) = off in
        (pad, in_list, (of_line, λ number along stands. none number along (stands_in grid tech cells bias (d ∷ []) (all_over d ∷ []) grid.stacks grid.stacks pad number along stands))));
    loads_on = λ number off. h.loads_on number (off_near design.components number off);
    pads_are = pads_in grid tech cells bias (d ∷ []) (all_over d ∷ []) grid.stacks grid.stacks pads h.pads_are;
    taps_are = gives_all (AreTapsFor near cells bias) (AreTapsFor wide cells bias) taps_for_wide design.components taps h.taps_are;
  }
