use Rattle.std.proofs.Common.{pos, sym, ◌∙◌}
use Rattle.std.proofs.lemmas.Bool.{false≢true}
use Rattle.grid_pieces.specs.declared.metal.Metal.{Metal}
use Rattle.plain_drawing.proofs.Least.{no_touch, the_touch}
use Rattle.plain_drawing.proofs.touches.touch_at.Goals as goal

nothing : Metal
nothing = record { layer = 0; rect = record { x1 = pos 0; y1 = pos 0; x2 = pos 0; y2 = pos 0 }; net = 0 }

pub returns-then-i-j : goal.returns-then-i-j
unfolding nothing
returns-then-i-j c = no_touch c.args.all.now c.args.i c.args.j nothing c.requires.i c.requires.j (λ touch. c.if-i-j.true)

pub returns-then-not-touch_in_order : goal.returns-then-not-touch_in_order
unfolding nothing
returns-then-not-touch_in_order c =
    no_touch c.args.all.now c.args.i c.args.j nothing c.requires.i c.requires.j
    (λ touch. absurd (false≢true (sym c.if-not-touch_in_order.true ∙ c.touch_in_order.ensures.1 touch)))

pub returns : goal.returns
unfolding nothing
returns c =
    the_touch c.args.all.now c.args.i c.args.j nothing c.touch_of.result c.requires.i c.requires.j c.if-i-j.false (c.touch_in_order.ensures.0 c.if-not-touch_in_order.false) c.touch_of.ensures.layer
    c.touch_of.ensures.first c.touch_of.ensures.second c.touch_of.ensures.same
