use Rattle.std.proofs.Common.{sym, subst}
use Rattle.macro_blocks.specs.Number.{IsCoordinate}
use Rattle.macro_blocks.proofs.Numbered.{kept_64, corner_fine, corner_unknown, corner_refused}
use Rattle.reading.specs.Word.{token}
use Rattle.macro_blocks.proofs.fault.number_value.Goals as goal

pub returns-in-Ok : goal.returns-in-Ok
returns-in-Ok c = λ may.
    let word = token c.args.word.now in
    let value = c.in-Ok.value in (
      corner_fine c.args.known word may c.in-Ok.ensures.fine,
      (may, subst (λ z. IsCoordinate word z) (sym (kept_64 word value c.in-Ok.ensures.value)) c.in-Ok.ensures.value),
    )

pub returns-then-known : goal.returns-then-known
returns-then-known c = λ may.
    corner_refused c.args.known (token c.args.word.now) c.in-Err.error c.if-known.true may c.in-Err.ensures.error

pub returns-else-known : goal.returns-else-known
returns-else-known c = λ may.
    (corner_unknown c.args.known (token c.args.word.now) c.if-known.false, (may, c.in-Err.ensures.error))
