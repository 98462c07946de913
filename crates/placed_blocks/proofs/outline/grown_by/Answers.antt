use Rattle.std.proofs.Common.{sym, subst}
use Rattle.macro_turns.specs.Limits.{RectKeeps}
use Rattle.placed_blocks.proofs.Outlines.{grown_is, grown_keeps}
use Rattle.placed_blocks.proofs.outline.grown_by.Goals as goal

pub returns-clause-value : goal.returns-clause-value
returns-clause-value c = grown_is c.args.halo c.args.rect c.requires.halo c.requires.rect

pub returns-clause-keeps : goal.returns-clause-keeps
returns-clause-keeps c = subst RectKeeps (sym (grown_is c.args.halo c.args.rect c.requires.halo c.requires.rect))
    (grown_keeps c.args.halo c.args.rect c.requires.halo c.requires.rect)
