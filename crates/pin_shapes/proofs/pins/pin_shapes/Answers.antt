use Rattle.std.proofs.Common.{◌≡◌, List, ◌++◌, ap, ◌∙◌}
use Rattle.geom_rect.specs.declared.drawn.Drawn.{Drawn}
use Rattle.grid_pieces.specs.declared.grid.DomainAt.{DomainAt}
use Rattle.pin_shapes.specs.Pins.{pin_shapes}
use Rattle.pin_shapes.proofs.Keeping.{shapes_keep, one_axis}
use Rattle.pin_shapes.proofs.pins.pin_shapes.Goals as goal

pub returns-clause-shapes : goal.returns-clause-shapes
returns-clause-shapes c =
    c.in_ok-add_blocks.ensures ∙ ap (λ (xs : List Drawn). xs ++ pin_shapes c.args.tech.now c.as_slice-domains.result.now c.args.blocks.now) c.new-shapes.ensures.items
    ∙ ap (λ (ds : List DomainAt). pin_shapes c.args.tech.now ds c.args.blocks.now) c.as_slice-domains.ensures

pub returns-clause-keep : goal.returns-clause-keep
returns-clause-keep c =
    let shapes = c.add_blocks.new.shapes.items in
    let are : shapes ≡ pin_shapes c.args.tech.now c.args.plan.now.domains c.args.blocks.now =
    c.in_ok-add_blocks.ensures ∙ ap (λ (xs : List Drawn). xs ++ pin_shapes c.args.tech.now c.as_slice-domains.result.now c.args.blocks.now) c.new-shapes.ensures.items
    ∙ ap (λ (ds : List DomainAt). pin_shapes c.args.tech.now ds c.args.blocks.now) c.as_slice-domains.ensures in
    shapes_keep c.args.tech.now c.args.plan.now c.args.blocks.now shapes c.requires.plan c.requires.blocks are

pub returns-clause-one_axis : goal.returns-clause-one_axis
returns-clause-one_axis c =
    let shapes = c.add_blocks.new.shapes.items in
    let are : shapes ≡ pin_shapes c.args.tech.now c.args.plan.now.domains c.args.blocks.now =
    c.in_ok-add_blocks.ensures ∙ ap (λ (xs : List Drawn). xs ++ pin_shapes c.args.tech.now c.as_slice-domains.result.now c.args.blocks.now) c.new-shapes.ensures.items
    ∙ ap (λ (ds : List DomainAt). pin_shapes c.args.tech.now ds c.args.blocks.now) c.as_slice-domains.ensures in
    one_axis c.args.tech.now c.args.plan.now shapes (shapes_keep c.args.tech.now c.args.plan.now c.args.blocks.now shapes c.requires.plan c.requires.blocks are)
