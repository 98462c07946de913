use Rattle.std.proofs.Common.{ℕ, Option, subst}
use Rattle.grid_taps.specs.Naming.{IsFirst, NamesNoCell}
use Rattle.pin_taps.proofs.TapAnswer.{taps_answer}
use Rattle.pin_taps.proofs.tapping.macro_taps.Goals as goal

pub returns : goal.returns
returns c =
    taps_answer c.args.drawn.now c.args.cells.now c.args.design.now c.args.bias.now c.tap_all.result
    (subst (λ (o : Option ℕ). IsFirst (NamesNoCell c.args.cells.now c.args.design.now c.args.bias.now) o) c.in_default.is c.in_ok-line.ensures) c.tap_all.ensures
