use Rattle.macro_blocks.proofs.Taking.{after_bad}
use Rattle.macro_blocks.proofs.held.Sections.draws.Goals as goal

pub returns-in-Some : goal.returns-in-Some
returns-in-Some c = λ there. after_bad there c.args.unit.now c.args.self.now c.in-Some.field-0 c.in-Some.is
