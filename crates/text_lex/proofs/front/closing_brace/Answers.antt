use Rattle.std.proofs.Common.{ℕ, ◌<◌, ◌+◌, subst, sym, arith, length}
use Rattle.text_lex.proofs.Counting.{HasOpen, opens_more, closes_more, keeps_open}
use Rattle.text_lex.proofs.front.closing_brace.Goals as goal
use Rattle.text_lex.proofs.front.closing_brace.Goals.{then-byte-eq123, else-byte-eq123+then-byte-eq125+else-open-eq0, else-byte-eq123+else-byte-eq125}

pub loop-i-preserved : goal.loop-i-preserved
loop-i-preserved c =
    let P : ℕ → Type 0 = HasOpen c.args.text.now (c.loop-i.i + 1) in
    let within : c.loop-i.i < length c.args.text.now = omega arith in
    elim c.if-byte-eq123.branch [
      | then-byte-eq123 w ↦ subst P (sym w.open-is) (opens_more c.args.text.now c.loop-i.i c.loop-i.open within c.loop-i.invariant w.if-byte-eq123.true)
      | else-byte-eq123+then-byte-eq125+else-open-eq0 w ↦ subst P (sym w.open-is) (closes_more c.args.text.now c.loop-i.i c.loop-i.open within c.loop-i.invariant w.if-byte-eq125.true (omega arith))
      | else-byte-eq123+else-byte-eq125 w ↦ subst P (sym w.open-is) (keeps_open c.args.text.now c.loop-i.i c.loop-i.open within c.loop-i.invariant w.if-byte-eq123.false w.if-byte-eq125.false)
    ]
