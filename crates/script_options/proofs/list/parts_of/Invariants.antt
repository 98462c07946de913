use Rattle.std.proofs.Common.{◌≡◌, ◌++◌, length}
use Rattle.script_options.specs.ListWords.{words_of}
use Rattle.script_options.proofs.list.parts_of.Given as goal

abbrev pub invariant-loop-part : goal.invariant-loop-part
invariant-loop-part l = l.names.items ++ words_of l.rest ≡ words_of l.text

abbrev pub decreases-loop-part : goal.decreases-loop-part
decreases-loop-part l = length l.rest
