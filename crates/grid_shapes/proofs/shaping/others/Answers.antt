use Rattle.std.proofs.Common.{◌+◌, ◌++◌, drop, List, ap, ◌∙◌, Option, None}
use Rattle.std.specs.Option.{option_to_list}
use Rattle.geom_rect.specs.declared.rect.Rect.{Rect}
use Rattle.grid_shapes.specs.Site.{others_from}
use Rattle.grid_shapes.proofs.Foreign.{others_more, others_all}
use Rattle.grid_shapes.proofs.shaping.others.Goals as goal

pub loop-place-preserved : goal.loop-place-preserved
loop-place-preserved c =
    let regions = c.args.regions.now in
    let i = c.loop-place.place in
    let before = c.loop-place.others.items in
    ap (λ (rs : List Rect). rs ++ others_from (i + 1) c.args.domain (drop (i + 1) regions))
    (c.in_ok-push_some.ensures ∙ ap (λ (o : Option Rect). before ++ option_to_list o) c.unless_same.ensures)
    ∙ others_more c.args.domain regions i None before (others_from 0 c.args.domain regions) c.loop-place-test.true c.loop-place.invariant

pub returns : goal.returns
returns c = others_all c.args.domain c.args.regions.now c.loop-place.place c.loop-place.others.items (others_from 0 c.args.domain c.args.regions.now)
    c.loop-place-test.false c.loop-place.invariant
