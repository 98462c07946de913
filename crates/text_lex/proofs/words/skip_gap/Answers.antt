use Rattle.std.proofs.Common.{◌<◌, ◌-◌, ◌∙◌, sym, subst, length, take, drop, arith}
use Rattle.outside.specs.declared.place.Place.{Place}
use Rattle.text_lex.proofs.Steps.{IsLeft, left_with_feed, left_in_line}
use Rattle.text_lex.proofs.words.skip_gap.Goals as goal
use Rattle.text_lex.proofs.words.skip_gap.Goals.{then-rest-len-eq10, else-rest-len-eq10}

pub loop-mode-preserved : goal.loop-mode-preserved
loop-mode-preserved c =
    let rest = c.loop-mode.rest.now in
    let len = c.gap_len-len.result in
    let some : 0 < len = omega arith in
    let P : Place → Type 0 = λ p. IsLeft c.args.mode c.args.command_could_begin c.args.place c.args.text.now p (take (length rest - len) (drop len rest)) in
    elim c.if-rest-len-eq10.branch [
      | then-rest-len-eq10 w ↦ subst P (sym (w.place-is ∙ w.next_line-place.ensures)) (left_with_feed _ _ _ _ c.loop-mode.place rest len c.loop-mode.invariant c.gap_len-len.ensures some w.if-rest-len-eq10.true)
      | else-rest-len-eq10 w ↦ subst P (sym w.place-is) (left_in_line _ _ _ _ c.loop-mode.place rest len c.loop-mode.invariant c.gap_len-len.ensures some w.if-rest-len-eq10.false)
    ]
