use Rattle.script_nets.proofs.Nets.{distinct}
use Rattle.script_nets.proofs.laws.read_scripts_have_two_nets.Goals as goal

pub returns : goal.returns
returns s text script domain reads keeps there same = distinct text script domain reads keeps there same
