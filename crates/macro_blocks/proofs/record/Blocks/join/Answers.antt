use Rattle.macro_blocks.specs.Limits.{MacroKeeps}
use Rattle.macro_blocks.specs.Record.{name_of}
use Rattle.lef_cells.specs.Laws.Joining.{joined_all}
use Rattle.macro_blocks.proofs.record.Blocks.join.Goals as goal

pub returns-clause-keeps : goal.returns-clause-keeps
returns-clause-keeps c = λ one two.
    joined_all MacroKeeps name_of c.args.self.macros c.args.other.macros c.in_ok-joined.field-0 c.in_ok-joined.ensures one two
