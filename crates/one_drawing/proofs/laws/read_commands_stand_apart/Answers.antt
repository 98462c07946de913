use Rattle.one_drawing.proofs.Standing.{stand_apart}
use Rattle.one_drawing.proofs.laws.read_commands_stand_apart.Goals as goal

pub returns : goal.returns
returns s = record { apart = stand_apart }
