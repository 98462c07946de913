use Rattle.netlist_words.proofs.WordLemmas.{words_fit}
use Rattle.netlist_words.proofs.laws.words_of_lines.Goals as goal

pub returns : goal.returns
returns c = words_fit
