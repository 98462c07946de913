use Rattle.std.proofs.Common.{All, sym, subst, List}
use Rattle.block_rects.specs.declared.part.Obstruction.{Obstruction}
use Rattle.block_rects.specs.Limits.{ObstructionKeeps}
use Rattle.block_rects.proofs.Keeping.{obstructions_keep}
use Rattle.block_rects.proofs.obstructing.obstructions_of.Goals as goal

pub returns-clause-keep : goal.returns-clause-keep
returns-clause-keep c = subst (λ (all : List Obstruction). All ObstructionKeeps all) (sym c.in_ok-all.ensures)
    (obstructions_keep c.args.tech.now c.args.units c.args.placed c.args.cell.now c.requires.units c.requires.placed c.requires.cell)
