use Rattle.std.proofs.Common.{◌≡◌, ◌+◌, ◌≤◌, length}
use Rattle.script_options.specs.ListWords.{words_of}
use Rattle.script_options.proofs.value.count_of.Given as goal

abbrev pub invariant-loop-part : goal.invariant-loop-part
invariant-loop-part l = record { is : l.count + length (words_of l.rest) ≡ length (words_of l.text); within : l.count + length l.rest ≤ length l.text }

abbrev pub decreases-loop-part : goal.decreases-loop-part
decreases-loop-part l = length l.rest
