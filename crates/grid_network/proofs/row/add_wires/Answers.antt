use Rattle.std.proofs.Common.{◌≡◌, ℕ, ◌+◌, suc, ◌++◌, map, ap, ◌∙◌, Option, Some, None, refl, arith}
use Rattle.std.specs.Option.{option_map, option_to_list}
use Rattle.grid_network.specs.declared.segment.Segment.{Segment}
use Rattle.grid_network.specs.declared.row.Row.{Row}
use Rattle.grid_network.specs.inside.Steps.{row_of_segment, wire_to, wires_below}
use Rattle.grid_network.proofs.Growing.{rows_more}
use Rattle.grid_network.proofs.row.add_wires.Goals as goal

listed : (f : Segment → Row) (o : Option Segment) → option_to_list (option_map f o) ≡ map f (option_to_list o)
listed f None = refl
listed f (Some s) = refl

pub loop-i-preserved : goal.loop-i-preserved
loop-i-preserved c keys are =
    let i : ℕ = c.loop-i.i in
    let layers = c.args.layers.now in
    let pieces = c.args.pieces.now in
    let js = c.args.junctions.now in
    let count : suc i ≡ i + 1 = omega arith in
    rows_more (row_of_segment keys) c.args.rows.now.items c.loop-i.rows.items c.add_row.new.rows.items (option_to_list c.wire_row.result)
    (wires_below layers pieces js i) (option_to_list (wire_to layers pieces js i)) (c.loop-i.invariant keys are) c.in_ok-add_row.ensures
    (ap (λ o. option_to_list o) (c.wire_row.ensures keys are) ∙ listed (row_of_segment keys) (wire_to layers pieces js i))
    ∙ ap (λ n. c.args.rows.now.items ++ map (row_of_segment keys) (wires_below layers pieces js n)) count
