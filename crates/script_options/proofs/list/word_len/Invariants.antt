use Rattle.std.proofs.Common.{◌≡◌, take, drop}
use Rattle.script_options.specs.ListWords.{words_of, words_after}
use Rattle.script_options.proofs.list.word_len.Given as goal

abbrev pub invariant-loop-at : goal.invariant-loop-at
invariant-loop-at l = words_after (take l.at l.text) (drop l.at l.text) ≡ words_of l.text
