use Rattle.std.proofs.Common.{◌≡◌, ℕ, ◌<◌, Bool, List, [], ◌∷◌, ◌++◌, length, get_or, sym, ap, ◌∙◌, subst}
use Rattle.lef_tech.specs.declared.layer.RoutingLayer.{RoutingLayer}
use Rattle.placed_blocks.specs.Cuts.{grid_name, is_cut}
use Rattle.placed_blocks.proofs.Steps.{mapped_more}
use Rattle.placed_blocks.proofs.cutting.cuts_of.Goals as goal

pub loop-place-preserved : goal.loop-place-preserved
loop-place-preserved c =
    let f = λ (at : ℕ × RoutingLayer). is_cut c.args.script.now (grid_name c.args.script.now.grids c.args.grid) c.args.pins.now c.args.obstructions.now at.0 at.1.name in
    let layer = c.layer-item.result in
    let here = λ (layers : List RoutingLayer). (c.loop-place.place < length layers) × (layer ≡ get_or layers c.loop-place.place layer) in
    let at = subst here c.as_slice-layer-items.ensures (c.loop-place-test.true, c.layer-item.is) in
    c.in_ok-push.ensures.items ∙ ap (λ (cuts : List Bool). cuts ++ c.is_cut-is.result ∷ []) c.loop-place.invariant
    ∙ sym (mapped_more f c.args.tech.now.routing c.loop-place.place layer c.is_cut-is.result at.0 at.1 c.is_cut-is.ensures)
