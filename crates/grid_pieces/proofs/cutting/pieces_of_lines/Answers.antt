use Rattle.std.proofs.Common.{◌≡◌, ◌-◌, ◌<◌, length, get_or, take, drop, pos, sym, ap, ◌∙◌, arith}
use Rattle.std.proofs.lemmas.List.{get_or_default}
use Rattle.geom_rect.specs.declared.drawn.Drawn.{Drawn}
use Rattle.geom_rect.specs.declared.drawn.Shape.TheVariants.{Ring}
use Rattle.geom_rect.specs.declared.direction.Axis.TheVariants.{X}
use Rattle.grid_pieces.specs.Line.{drawn_line}
use Rattle.grid_pieces.proofs.Lines.{IsLineOf, more_lines, slice_inside, slice_has, none_behind}
use Rattle.grid_pieces.proofs.cutting.pieces_of_lines.Goals as goal

nothing : Drawn
nothing = record { net = 0; layer = 0; axis = X; centre = pos 0; width = pos 0; from = pos 0; to = pos 0; shape = Ring }

pub loop-from-preserved : goal.loop-from-preserved
unfolding nothing
loop-from-preserved c =
    let shapes = c.args.shapes.now in
    let blocks = c.args.blocks.now in
    let from = c.loop-from.from in
    let to = c.line_end-to.result in
    let end = c.line_end-to.ensures in
    let before = c.loop-from.invariant in
    let in_list : from < length shapes = c.loop-from-test.true in
    let line = c.line_of.result in
    let first : (d : Drawn) → drawn_line (get_or shapes from d) ≡ line = λ d. ap drawn_line (get_or_default shapes from d nothing in_list) ∙ sym c.line_of.ensures in
    let behind = none_behind shapes from to c.requires.grouped end.some end.on_line end.behind before.2 in
    let of : IsLineOf shapes (take (to - from) (drop from shapes)) from to line = record {
      some = end.some;
      within = end.within;
      on_line = λ k d low high. end.on_line k d low high ∙ first d;
      before = before.2;
      behind = behind;
      inside = λ s has. slice_inside shapes from to s (omega (arith, end.some)) end.within has;
      all = λ k d low high. slice_has shapes from to k d end.within low high;
    } in (
      end.within,
      rw c.in_ok-append.ensures.items (more_lines shapes (take (to - from) (drop from shapes)) blocks from to line c.loop-from.pieces.items c.in_ok-more.more.items of before.1 c.in_ok-more.ensures),
      behind,
    )
