-- The plan of a drawing, and what refuses it.
use Rattle.std.specs.Prelude.{◌≡◌, ◌⊎◌, ℕ, false, not, List, [], ◌∷◌, ◌++◌, map, filter, filter_map, AllPairs, Option, Some, None}
use Rattle.std.specs.List.Sorted.{IsPermutation}
use Rattle.entry_list.specs.InTurn.{InTurn}
use Rattle.std.specs.Option.{option_or, option_map}
use Rattle.std.specs.Ordering.{is_gt}
use Rattle.geom_rect.specs.declared.rect.Rect.{Rect}
use Rattle.lef_tech.specs.declared.tech.Tech.{Tech}
use Rattle.lef_cells.specs.declared.record.Cells.{Cells}
use Rattle.def_design.specs.declared.record.Design.{Design}
use Rattle.def_design.specs.declared.record.Row.{Row}
use Rattle.pdn_script.specs.declared.record.Connect.{Connect as Said}
use Rattle.pdn_script.specs.declared.record.Domain.{Domain}
use Rattle.pdn_script.specs.declared.record.Ring.{Ring}
use Rattle.pdn_script.specs.declared.record.Script.{Script}
use Rattle.pdn_script.specs.declared.record.Stripe.{Stripe}
use Rattle.rail_layout.specs.declared.row.RowBox.{RowBox}
use Rattle.grid_pieces.specs.declared.error.DrawError.{DrawError}
use Rattle.grid_pieces.specs.declared.error.DrawError.TheVariants as errors
use Rattle.grid_stacks.specs.declared.connect.Connect.{Connect}
use Rattle.grid_plan.specs.declared.order.PlacedConnect.{PlacedConnect}
use Rattle.grid_plan.specs.declared.record.GridAt.{GridAt}
use Rattle.grid_plan.specs.declared.record.Plan.{Plan}
use Rattle.grid_plan.specs.Names.{Names, names_of, AreNets, powers_of}
use Rattle.grid_plan.specs.Order.{place_order}
use Rattle.grid_plan.specs.Unknown.{first_unknown}
use Rattle.grid_plan.specs.Resolved.{region_at, IsDomainAt, grid_at, straps_of, rails_of, ring_of, connect_of, ring_connect_of, block_of}
use Rattle.grid_plan.specs.Rows.{row_box}
use Rattle.grid_plan.specs.Turned.{first_straight, first_upended, first_parallel}
use Rattle.grid_plan.specs.Lengths.{first_off_grid, first_odd}
use Rattle.grid_plan.specs.Regions.{first_shaped, first_meeting, first_across, first_bare, first_block}

-- ## what refuses a plan

-- The first of two refusals.
abbrev pub or_else : Option DrawError → Option DrawError → Option DrawError
or_else first rest = option_or first rest

-- Layers have the wrong directions.
abbrev pub layer_refusal : Tech → Names → Script → Option DrawError
layer_refusal tech names script = or_else (option_map errors.RingLayers (first_straight tech names script.rings))
    (or_else (option_map errors.RailLayer (first_upended tech names script.stripes))
    (option_map errors.ParallelConnect (first_parallel tech names script.connects)))

-- A name is not known, or layers have the wrong directions.
abbrev pub name_refusal : Tech → Names → Design → Script → Option DrawError
name_refusal tech names design script = or_else (option_map errors.UnknownName (first_unknown names design script))
    (layer_refusal tech names script)

-- There is no row.
abbrev pub no_rows : List Row → Option DrawError
no_rows [] = Some errors.NoRows
no_rows (row ∷ rows) = None

-- There is none, or a length is no whole number of units or odd.
abbrev pub length_refusal : Cells → Names → Design → Script → Option DrawError
length_refusal cells names design script = or_else (no_rows design.rows)
    (or_else (option_map errors.OffGrid (first_off_grid cells names design script design.units))
    (option_map errors.OddWidth (first_odd script design.units)))

-- The regions, boxes and grids of a design and a script.
abbrev pub regions_in : Names → Design → Script → List (Option Rect)
regions_in names design script = map (λ (d : Domain). region_at names design d.region) script.domains

abbrev pub boxes_in : Cells → Names → Design → List RowBox
boxes_in cells names design = map (row_box cells names design.units) design.rows

abbrev pub grids_in : Names → Script → List GridAt
grids_in names script = map (grid_at names) script.grids

abbrev pub meeting : ℕ × ℕ → DrawError
meeting pair = errors.RegionsMeet pair.0 pair.1

-- Regions, rows and macros do not fit each other.
abbrev pub region_refusal : Cells → Names → Design → Script → Option DrawError
region_refusal cells names design script =
    or_else (option_map errors.RegionShape (first_shaped names design script.domains))
    (or_else (option_map meeting (first_meeting (regions_in names design script)))
    (or_else (option_map errors.RowAcross (first_across (regions_in names design script) (boxes_in cells names design)))
    (or_else
    (option_map errors.EmptyDomain
    (first_bare (regions_in names design script) (boxes_in cells names design) (grids_in names script)))
    (option_map errors.MacroGrid (first_block cells names design (grids_in names script))))))

-- Why there is no plan; of several causes the first.
abbrev pub plan_refusal : Tech → Cells → Names → Design → Script → Option DrawError
plan_refusal tech cells names design script = or_else (name_refusal tech names design script)
    (or_else (length_refusal cells names design script) (region_refusal cells names design script))

-- ## the plan

-- The connects that are stated, with the places of their commands.
abbrev pub stated_in : Names → List Said → List PlacedConnect
stated_in names connects = map (λ (c : Said). record { place = c.place; connect = connect_of names c }) connects

-- Those that rings add, with the places of the rings.
abbrev pub added_in : Names → List Ring → List PlacedConnect
added_in names rings = map (λ (r : Ring). record { place = r.place; connect = ring_connect_of names r })
    (filter (λ (r : Ring). r.add_connect) rings)

abbrev pub connects_in : Names → Script → List PlacedConnect
connects_in names script = stated_in names script.connects ++ added_in names script.rings

-- They stand in the order of their commands.
pub record AreConnects (names : Names) (script : Script) (connects : List Connect) : Type 0 where
  pub placed : List PlacedConnect
  pub same : IsPermutation (connects_in names script) placed
  pub in_order : AllPairs (λ (a b : PlacedConnect). is_gt (place_order a.place b.place) ≡ false) placed
  pub are : connects ≡ map (λ (c : PlacedConnect). c.connect) placed

-- What the plan has of each list, where these are the names.
pub record Plans (tech : Tech) (cells : Cells) (names : Names) (design : Design) (script : Script) (plan : Plan)
    : Type 0 where
  pub units : plan.units ≡ design.units
  pub die : plan.die ≡ design.die
  pub nets : AreNets script plan.nets
  pub power : plan.power ≡ powers_of script plan.nets
  pub domains : InTurn (IsDomainAt names plan.nets design) script.domains plan.domains
  pub grids : plan.grids ≡ grids_in names script
  pub rows : plan.rows ≡ boxes_in cells names design
  pub straps : plan.straps
      ≡ map (straps_of tech names plan.nets script design.units) (filter (λ (s : Stripe). not s.followpins) script.stripes)
  pub rails : plan.rails ≡ map (rails_of tech names design.units) (filter (λ (s : Stripe). s.followpins) script.stripes)
  pub rings : plan.rings ≡ map (ring_of tech names plan.nets script design.units) script.rings
  pub connects : AreConnects names script plan.connects
  pub blocks : plan.blocks ≡ filter_map (block_of tech names design.units) design.blockages

-- The plan of technology, cells, design and script: nothing refuses it.
pub record IsPlanOf (tech : Tech) (cells : Cells) (design : Design) (script : Script) (plan : Plan) : Type 0 where
  pub plans : Plans tech cells (names_of tech cells design script) design script plan
  pub allowed : plan_refusal tech cells (names_of tech cells design script) design script ≡ None

-- There is none for this reason, or there was not enough memory.
abbrev pub IsPlanRefused : Tech → Cells → Design → Script → DrawError → Type 0
IsPlanRefused tech cells design script error = (error ≡ errors.Want)
    ⊎ (plan_refusal tech cells (names_of tech cells design script) design script ≡ Some error)
