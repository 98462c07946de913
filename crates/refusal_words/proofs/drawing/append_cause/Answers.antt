-- A word too long for the tactics is told as it stands.
use Rattle.std.proofs.Common.{sym}
use Rattle.refusal_words.proofs.drawing.append_cause.Goals as goal

pub returns-in-NoResistance : goal.returns-in-NoResistance
returns-in-NoResistance c =
    rw c.in-NoResistance.is (rw (sym c.layer_name-in-NoResistance.ensures) c.append_named-in-NoResistance.ensures)
