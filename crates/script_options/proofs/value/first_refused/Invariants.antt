use Rattle.std.proofs.Common.{◌↔◌, length}
use Rattle.number_place.specs.declared.place.Refused.{Refused}
use Rattle.std.specs.List.{AllByRecursion}
use Rattle.script_options.specs.ListWords.{words_of}
use Rattle.script_options.specs.Number.{HasNumber}
use Rattle.script_options.specs.Value.{FirstRefused}
use Rattle.script_options.proofs.value.first_refused.Given as goal

abbrev pub invariant-loop-part : goal.invariant-loop-part
invariant-loop-part l = record {
  is : (refused : Refused) → FirstRefused l.quantity (words_of l.rest) refused ↔ FirstRefused l.quantity (words_of l.text) refused;
  fine : AllByRecursion (HasNumber l.quantity) (words_of l.rest) → AllByRecursion (HasNumber l.quantity) (words_of l.text);
}

abbrev pub decreases-loop-part : goal.decreases-loop-part
decreases-loop-part l = length l.rest
