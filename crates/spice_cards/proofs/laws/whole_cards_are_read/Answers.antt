use Rattle.spice_cards.proofs.laws.whole_cards_are_read.Goals as goal

pub returns : goal.returns
returns c = λ text units rest taken is ends none. c.whole_units_are_read.ensures.read_to_end text units rest taken is ends none
