use Rattle.std.proofs.Common.{◌≡◌, drop}
use Rattle.script_options.specs.ListWords.{words_of}
use Rattle.script_options.proofs.list.after_white.Given as goal

abbrev pub invariant-loop-at : goal.invariant-loop-at
invariant-loop-at l = words_of (drop l.at l.text) ≡ words_of l.text
