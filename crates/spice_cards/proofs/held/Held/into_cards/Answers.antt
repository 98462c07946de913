use Rattle.spice_cards.proofs.Ranges.{loads_rise}
use Rattle.spice_cards.proofs.Numbers.{cards_numbered}
use Rattle.spice_cards.proofs.Capacitances.{caps_fit}
use Rattle.spice_cards.proofs.held.Held.into_cards.Goals as goal

pub returns-clause-ranges : goal.returns-clause-ranges
returns-clause-ranges c = λ units h. loads_rise units c.args.self.cards h.cards

pub returns-clause-numbers : goal.returns-clause-numbers
returns-clause-numbers c = λ units h. cards_numbered units c.args.self.cards h.cards

pub returns-clause-farads : goal.returns-clause-farads
returns-clause-farads c = λ units h. caps_fit c.values_fit_their_places.ensures.limit c.values_fit_their_places.ensures.sign units c.args.self.cards h.cards
