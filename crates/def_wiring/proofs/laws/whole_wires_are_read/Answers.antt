use Rattle.def_wiring.proofs.laws.whole_wires_are_read.Goals as goal

pub returns : goal.returns
returns c = λ text split units rest wires is words taken ends first says.
    (split, is, _, c.whole_units_are_read.ensures.read_to_end _ units rest taken words ends first, says)
