use Rattle.std.proofs.Common.{All, sym, subst, List}
use Rattle.block_rects.specs.declared.part.PinPart.{PinPart}
use Rattle.block_rects.specs.Limits.{PartKeeps}
use Rattle.block_rects.proofs.Keeping.{parts_keep}
use Rattle.block_rects.proofs.pinning.parts_of.Goals as goal

pub returns-clause-keep : goal.returns-clause-keep
returns-clause-keep c = subst (λ (parts : List PinPart). All (PartKeeps c.args.tech.now) parts) (sym c.in_ok-parts.ensures)
    (parts_keep c.args.tech.now c.args.units c.args.placed c.args.cell.now c.requires.units c.requires.placed c.requires.cell)
