use Rattle.std.proofs.Common.{◌≡◌, false, [], length}
use Rattle.netlist_words.specs.inside.Left.{lines_in, left_of_line, left_in, CanCount}
use Rattle.netlist_words.proofs.netlist.Cards.turn.Given as goal

abbrev pub invariant-loop-line : goal.invariant-loop-line
invariant-loop-line l = record {
  going : l.self.ended ≡ false;
  spent : left_of_line l.self.given ≡ [];
  left : left_in l.self ≡ left_in l.fn.self;
  counts : CanCount l.self;
}

abbrev pub decreases-loop-line : goal.decreases-loop-line
decreases-loop-line l = length (lines_in l.self.lines)
