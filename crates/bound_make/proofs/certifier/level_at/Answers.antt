use Rattle.std.proofs.Common.{subst, sym, ℕ}
use Rattle.grid_net.specs.Level.{IsLevel}
use Rattle.bound_make.proofs.Levels.{level_told}
use Rattle.bound_make.proofs.certifier.level_at.Goals as goal

pub returns : goal.returns
returns c = subst (λ (m : ℕ). IsLevel c.args.net.now c.args.node m) (sym c.unwrap_or.ensures) (level_told c.args.net.now c.args.node c.level.result c.level.ensures c.requires.supplied)
