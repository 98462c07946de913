use Rattle.std.proofs.Common.{◌≡◌, List, ◌++◌, map, length, refl, sym, subst, ap, ◌∙◌}
use Rattle.lef_tech.specs.declared.layer.RoutingLayer.{RoutingLayer}
use Rattle.grid_pieces.specs.declared.piece.Piece.{Piece}
use Rattle.grid_pieces.specs.declared.piece.StackAt.{StackAt}
use Rattle.grid_network.specs.declared.junction.Junction.{Junction}
use Rattle.grid_network.specs.declared.segment.Segment.{Segment}
use Rattle.grid_network.specs.declared.row.Row.{Row}
use Rattle.grid_network.specs.Listing.{ListsAll}
use Rattle.grid_network.specs.Segments.{IsSegment}
use Rattle.grid_network.specs.inside.Steps.{row_of_segment, wires_below, cuts_below}
use Rattle.grid_network.proofs.Arrays.{segments_listed}
use Rattle.grid_network.proofs.Growing.{rows_more}
use Rattle.grid_network.proofs.Once.{segments_once}
use Rattle.grid_network.proofs.Wires.{AreAll}
use Rattle.grid_network.proofs.row.all_rows.Goals as goal

pub returns : goal.returns
returns c d tech keys grid layers lists told =
    let js : List Junction = c.args.junctions.now in
    let wires : List Segment = wires_below c.args.layers.now c.as_slice-pieces.result.now js (length js) in
    let cuts : List Segment = cuts_below c.as_slice.result.now (length c.as_slice.result.now) in
    let made = rows_more (row_of_segment keys) c.new-rows.result.items c.add_wires.new.rows.items c.add_stacks.new.rows.items (map (row_of_segment keys) cuts) wires cuts
    (c.in_ok-add_wires.ensures keys (c.deref.ensures.value ∙ c.in_ok-ends.ensures.numbers keys told)) (c.in_ok-add_stacks.ensures keys told) refl in
    let empty = ap (λ (l : List Row). l ++ map (row_of_segment keys) (wires ++ cuts)) c.new-rows.ensures.items in
    let all : AreAll d js = record { lists = lists; up = c.requires.junctions.in_order } in
    let pieces : d.grid.pieces ≡ c.as_slice-pieces.result.now = ap (λ g. g.pieces) grid ∙ sym c.as_slice-pieces.ensures in
    let stacks : d.grid.stacks ≡ c.as_slice.result.now = ap (λ g. g.stacks) grid ∙ sym c.as_slice.ensures in
    let one = subst (λ (l : List RoutingLayer). ListsAll (IsSegment d tech) (wires_below l d.grid.pieces js (length js) ++ cuts_below d.grid.stacks (length d.grid.stacks))) layers (segments_listed d tech js all) in
    let two = subst (λ (l : List Piece). ListsAll (IsSegment d tech) (wires_below c.args.layers.now l js (length js) ++ cuts_below d.grid.stacks (length d.grid.stacks))) pieces one in
    let three = subst (λ (l : List StackAt). ListsAll (IsSegment d tech) (wires ++ cuts_below l (length l))) stacks two in
    (wires ++ cuts, made ∙ empty, three, segments_once c.args.layers.now c.as_slice-pieces.result.now c.as_slice.result.now js c.requires.junctions.in_order)
