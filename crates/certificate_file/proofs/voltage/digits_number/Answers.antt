use Rattle.std.proofs.Common.{rules, arith, ◌+◌, ◌*◌, get_or, sym, subst}
use Rattle.std.specs.Char.{IsAsciiDigit}
use Rattle.certificate_file.proofs.Voltages.{SoFar, so_far_below, one_more, room_for_digit}
use Rattle.certificate_file.proofs.voltage.digits_number.Goals as goal

pub overflow_mul-number : goal.overflow_mul-number
overflow_mul-number c =
    let below = so_far_below c.args.digits.now c.loop-byte.byte-index c.loop-byte.number c.loop-byte.invariant c.loop-byte-test.true c.requires in
    omega arith

pub overflow_add-number : goal.overflow_add-number
overflow_add-number c =
    room_for_digit c.loop-byte.number (get_or c.args.digits.now c.loop-byte.byte-index 0) c.from.result
    (so_far_below c.args.digits.now c.loop-byte.byte-index c.loop-byte.number c.loop-byte.invariant c.loop-byte-test.true c.requires)
    (c.type_inv.digits c.loop-byte.byte-index) c.from.ensures

pub loop-byte-preserved : goal.loop-byte-preserved
loop-byte-preserved c =
    let digit : IsAsciiDigit (get_or c.args.digits.now c.loop-byte.byte-index 0) = search rules in
    subst (λ z. SoFar c.args.digits.now (c.loop-byte.byte-index + 1) (c.loop-byte.number * 10 + z)) (sym c.from.ensures)
    (one_more c.args.digits.now c.loop-byte.byte-index c.loop-byte.number c.loop-byte.invariant c.loop-byte-test.true digit)
