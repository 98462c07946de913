use Rattle.macro_turns.proofs.Places.{apart}
use Rattle.macro_turns.proofs.laws.places_are_apart.Goals as goal

pub returns : goal.returns
returns c = apart
