use Rattle.std.proofs.Common.{of_z, ap}
use Rattle.std.specs.Int.{w64}
use Rattle.macro_blocks.proofs.Numbers.{is_zero, origin_zero, origin_later, origin_other}
use Rattle.reading.specs.Word.{token}
use Rattle.macro_blocks.proofs.fault.origin_fault.Goals as goal

pub returns-then-value-eq0 : goal.returns-then-value-eq0
returns-then-value-eq0 c =
    let word = token c.args.word.now in
    let value = c.in-Ok.value in
    origin_zero c.texts_have_one_number.ensures c.args.has_origin word value c.in-Ok.ensures.value c.in-Ok.ensures.fine
    (is_zero c.values_fit_their_places.ensures.limit word value c.in-Ok.ensures.value c.if-value-eq0.true)

pub returns-then-has_origin : goal.returns-then-has_origin
returns-then-has_origin c = origin_later c.args.has_origin (token c.args.word.now) c.in-Ok.ensures.fine c.if-has_origin.true

pub returns-else-has_origin : goal.returns-else-has_origin
returns-else-has_origin c =
    origin_other c.args.has_origin (token c.args.word.now) c.in-Ok.value c.in-Ok.ensures.value (λ zero. c.if-value-eq0.false (ap (of_z w64) zero)) c.if-has_origin.false
