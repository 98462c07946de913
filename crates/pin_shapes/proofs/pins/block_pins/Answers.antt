use Rattle.std.proofs.Common.{◌≡◌, List, ◌++◌, ap, ◌∙◌}
use Rattle.geom_rect.specs.declared.drawn.Drawn.{Drawn}
use Rattle.pin_shapes.specs.Pins.{block_pins}
use Rattle.pin_shapes.proofs.Keeping.{block_keeps}
use Rattle.pin_shapes.proofs.pins.block_pins.Goals as goal

pub returns-clause-keep : goal.returns-clause-keep
returns-clause-keep c =
    let tech = c.args.tech.now in
    let domains = c.args.domains.now in
    let block = c.args.block.now in
    let shapes = c.add_block.new.shapes.items in
    let are : shapes ≡ block_pins tech domains block =
    c.in_ok-add_block.ensures ∙ ap (λ (xs : List Drawn). xs ++ block_pins tech domains block) c.new-shapes.ensures.items in
    block_keeps tech domains block shapes c.requires are
