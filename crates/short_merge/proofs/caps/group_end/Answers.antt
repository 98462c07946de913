use Rattle.std.proofs.Common.{length, subst}
use Rattle.spice_grid.specs.Caps.{IsAmong}
use Rattle.short_merge.proofs.caps.group_end.Goals as goal

pub bounds-group-node : goal.bounds-group-node
bounds-group-node c = subst (λ z. IsAmong (length c.args.group.now) z) c.in-Node.is c.requires
