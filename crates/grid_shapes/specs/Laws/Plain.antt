-- What refuses a plan is neither a count nor metal that touches.
use Rattle.std.proofs.Common.{◌≡◌, inl, inr, List, [], ◌∷◌, subst, Option, Some, None}
use Rattle.std.specs.Option.{option_or, option_map, IfSome}
use Rattle.lef_tech.specs.declared.tech.Tech.{Tech}
use Rattle.lef_cells.specs.declared.record.Cells.{Cells}
use Rattle.def_design.specs.declared.record.Design.{Design}
use Rattle.def_design.specs.declared.record.Row.{Row}
use Rattle.pdn_script.specs.declared.record.Script.{Script}
use Rattle.grid_pieces.specs.declared.error.DrawError.{DrawError}
use Rattle.grid_pieces.specs.declared.error.DrawError.TheVariants as errors
use Rattle.grid_pieces.specs.declared.error.DrawError.TheVariants.{TooMany, Touch, Want}
use Rattle.grid_plan.specs.Names.{Names, names_of}
use Rattle.grid_plan.specs.Unknown.{first_unknown}
use Rattle.grid_plan.specs.Turned.{first_straight, first_upended, first_parallel}
use Rattle.grid_plan.specs.Lengths.{first_off_grid, first_odd}
use Rattle.grid_plan.specs.Regions.{first_shaped, first_meeting, first_across, first_bare, first_block}
use Rattle.grid_plan.specs.Planning.{IsPlanRefused, plan_refusal, name_refusal, layer_refusal, length_refusal, region_refusal, no_rows, meeting, regions_in, boxes_in, grids_in}

-- What never refuses a plan: a count, and metal that touches.
abbrev pub Plain : DrawError → Type 0
Plain (TooMany what) = ⊥
Plain (Touch touching) = ⊥
Plain _ = Unit {0}

or_plain : (a b : Option DrawError) → IfSome a Plain → IfSome b Plain → IfSome (option_or a b) Plain
or_plain None b plain_a plain_b = plain_b
or_plain (Some error) b plain_a plain_b = plain_a

map_plain : {X : Type 0} (c : X → DrawError) → ((x : X) → Plain (c x)) → (o : Option X) → IfSome (option_map c o) Plain
map_plain c plain None = tt
map_plain c plain (Some x) = plain x

rows_plain : (rows : List Row) → IfSome (no_rows rows) Plain
rows_plain [] = tt
rows_plain (row ∷ rows) = tt

layer_plain : (tech : Tech) (names : Names) (script : Script) → IfSome (layer_refusal tech names script) Plain
layer_plain tech names script =
    let ring = option_map errors.RingLayers (first_straight tech names script.rings) in
    let rail = option_map errors.RailLayer (first_upended tech names script.stripes) in
    let connect = option_map errors.ParallelConnect (first_parallel tech names script.connects) in
    or_plain ring (option_or rail connect) (map_plain errors.RingLayers (λ x. tt) (first_straight tech names script.rings))
    (or_plain rail connect (map_plain errors.RailLayer (λ x. tt) (first_upended tech names script.stripes))
    (map_plain errors.ParallelConnect (λ x. tt) (first_parallel tech names script.connects)))

name_plain : (tech : Tech) (names : Names) (design : Design) (script : Script) → IfSome (name_refusal tech names design script) Plain
name_plain tech names design script =
    or_plain (option_map errors.UnknownName (first_unknown names design script)) (layer_refusal tech names script)
    (map_plain errors.UnknownName (λ x. tt) (first_unknown names design script)) (layer_plain tech names script)

length_plain : (cells : Cells) (names : Names) (design : Design) (script : Script) → IfSome (length_refusal cells names design script) Plain
length_plain cells names design script =
    let off = option_map errors.OffGrid (first_off_grid cells names design script design.units) in
    let odd = option_map errors.OddWidth (first_odd script design.units) in
    or_plain (no_rows design.rows) (option_or off odd) (rows_plain design.rows)
    (or_plain off odd (map_plain errors.OffGrid (λ x. tt) (first_off_grid cells names design script design.units))
    (map_plain errors.OddWidth (λ x. tt) (first_odd script design.units)))

region_plain : (cells : Cells) (names : Names) (design : Design) (script : Script) → IfSome (region_refusal cells names design script) Plain
region_plain cells names design script =
    let regions = regions_in names design script in
    let boxes = boxes_in cells names design in
    let grids = grids_in names script in
    let shape = option_map errors.RegionShape (first_shaped names design script.domains) in
    let meet = option_map meeting (first_meeting regions) in
    let across = option_map errors.RowAcross (first_across regions boxes) in
    let bare = option_map errors.EmptyDomain (first_bare regions boxes grids) in
    let block = option_map errors.MacroGrid (first_block cells names design grids) in
    or_plain shape (option_or meet (option_or across (option_or bare block))) (map_plain errors.RegionShape (λ x. tt) (first_shaped names design script.domains))
    (or_plain meet (option_or across (option_or bare block)) (map_plain meeting (λ x. tt) (first_meeting regions))
    (or_plain across (option_or bare block) (map_plain errors.RowAcross (λ x. tt) (first_across regions boxes))
    (or_plain bare block (map_plain errors.EmptyDomain (λ x. tt) (first_bare regions boxes grids))
    (map_plain errors.MacroGrid (λ x. tt) (first_block cells names design grids)))))

plan_plain : (tech : Tech) (cells : Cells) (names : Names) (design : Design) (script : Script) → IfSome (plan_refusal tech cells names design script) Plain
plan_plain tech cells names design script =
    or_plain (name_refusal tech names design script) (option_or (length_refusal cells names design script) (region_refusal cells names design script))
    (name_plain tech names design script)
    (or_plain (length_refusal cells names design script) (region_refusal cells names design script) (length_plain cells names design script)
    (region_plain cells names design script))

pub plain_refused : (tech : Tech) (cells : Cells) (design : Design) (script : Script) (error : DrawError) → (error ≡ Want → Plain error)
    → IsPlanRefused tech cells design script error → Plain error
plain_refused tech cells design script error at_want (inl want) = at_want want
plain_refused tech cells design script error at_want (inr refused) =
    subst (λ (o : Option DrawError). IfSome o Plain) refused (plan_plain tech cells (names_of tech cells design script) design script)
