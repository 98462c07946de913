use Rattle.spice_cards.proofs.NameLemmas.{names_are}
use Rattle.spice_cards.proofs.laws.node_names_are_words.Goals as goal

pub returns : goal.returns
returns c = λ text units h. names_are text units (c.words_of_lines.ensures text) h
