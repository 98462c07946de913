use Rattle.std.proofs.Common.{◌≡◌, length}
use Rattle.netlist_words.specs.Line.{line_of, line_end}
use Rattle.netlist_words.specs.inside.Left.{words_in, words_end, CanCountWords}
use Rattle.netlist_words.proofs.netlist.end_place.Given as goal

abbrev pub invariant-loop : goal.invariant-loop
invariant-loop l = record { end : words_end l.words ≡ line_end (line_of l.line); counts : CanCountWords l.words }

abbrev pub decreases-loop : goal.decreases-loop
decreases-loop l = length (words_in l.words)
