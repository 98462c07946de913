use Rattle.std.proofs.Common.{List, ◌++◌, ◌≡◌, ℕ, length}
use Rattle.std.specs.List.{AllByRecursion}
use Rattle.entry_list.specs.InTurn.{InTurn}
use Rattle.script_options.specs.ListWords.{words_of}
use Rattle.script_options.specs.Number.{IsNumberIn, HasNumber}
use Rattle.script_options.proofs.number.list_numbers.Given as goal

abbrev pub invariant-loop-part : goal.invariant-loop-part
invariant-loop-part l = (done : List (List ℕ)) × (done ++ words_of l.rest ≡ words_of l.text)
    × (AllByRecursion (HasNumber l.quantity) (words_of l.text) →
    InTurn (IsNumberIn l.quantity) done l.values.items × AllByRecursion (HasNumber l.quantity) (words_of l.rest))

abbrev pub decreases-loop-part : goal.decreases-loop-part
decreases-loop-part l = length l.rest
