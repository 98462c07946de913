use Rattle.std.proofs.Common.{sym, ◌∙◌}
use Rattle.netlist_words.specs.Line.{line_of, words_on}
use Rattle.netlist_words.proofs.Cards.{no_range}
use Rattle.netlist_words.proofs.class.names_range.Goals as goal

pub returns-then-not-begins_with : goal.returns-then-not-begins_with
returns-then-not-begins_with c = no_range (words_on (line_of c.args.line)) c.args.front.now (sym c.begins_with.ensures ∙ c.if-not-begins_with.true)
