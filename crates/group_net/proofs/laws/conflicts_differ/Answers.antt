use Rattle.group_net.proofs.Conflicts.{pads_differ}
use Rattle.group_net.proofs.laws.conflicts_differ.Goals as goal

pub returns : goal.returns
returns k net shorts node first second built c = pads_differ net shorts node first second built c
