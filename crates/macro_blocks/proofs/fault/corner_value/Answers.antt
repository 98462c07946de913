use Rattle.std.proofs.Common.{sym, ◌∙◌, ap}
use Rattle.macro_blocks.specs.Rule.{is_number}
use Rattle.macro_blocks.proofs.Numbered.{corner_unknown, corner_syntax}
use Rattle.reading.specs.Word.{token}
use Rattle.macro_blocks.proofs.fault.corner_value.Goals as goal

pub returns-then-is_number : goal.returns-then-is_number
returns-then-is_number c = λ same. c.number_value.ensures (ap is_number (sym same) ∙ sym c.is_number.ensures ∙ c.if-is_number.true)

pub returns-then-known : goal.returns-then-known
returns-then-known c = λ same.
    corner_syntax c.args.known (token c.args.word.now) c.if-known.true (ap is_number (sym same) ∙ sym c.is_number.ensures ∙ c.if-is_number.false)

pub returns-else-known : goal.returns-else-known
returns-else-known c = λ same.
    (corner_unknown c.args.known (token c.args.word.now) c.if-known.false, ap is_number (sym same) ∙ sym c.is_number.ensures ∙ c.if-is_number.false)
