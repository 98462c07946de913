use Rattle.std.proofs.Common.{None, refl}
use Rattle.macro_blocks.proofs.Taking.{opens_leads}
use Rattle.macro_blocks.proofs.held.Sections.opens.Goals as goal

pub returns : goal.returns
returns c = λ there unit.
    opens_leads there unit c.args.self.now (record c.args.self.now { rects = c.clear.new.self; bad = None })
    (record { macros = refl; pins = refl; obstructions = refl }) refl c.clear.ensures.items refl
