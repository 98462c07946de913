use Rattle.std.proofs.Common.{List, length}
use Rattle.reading.specs.Word.{Token}
use Rattle.reading.proofs.Loop.{AtLoop}
use Rattle.reading.proofs.reader.read_by_hand.Given as goal

abbrev pub invariant-loop-word : goal.invariant-loop-word
invariant-loop-word g l = (part : List Token) × AtLoop g.R.Reader.format (g.R.Reader.stands l.reader) (g.I.Source.left l.initial.source) (g.I.Source.left l.source) part

abbrev pub decreases-loop-word : goal.decreases-loop-word
decreases-loop-word g l = length (g.I.Source.left l.source).words
