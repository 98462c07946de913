use Rattle.std.proofs.Common.{◌↔◌, length}
use Rattle.std.specs.List.{AllByRecursion}
use Rattle.script_options.specs.ListWords.{words_of}
use Rattle.script_options.specs.Value.{AnyOtherWord}
use Rattle.text_lex.specs.Name.{IsName}
use Rattle.script_options.proofs.value.any_other_word.Given as goal

abbrev pub invariant-loop-part : goal.invariant-loop-part
invariant-loop-part l = record {
  is : AnyOtherWord (words_of l.rest) ↔ AnyOtherWord (words_of l.text);
  names : AllByRecursion IsName (words_of l.rest) → AllByRecursion IsName (words_of l.text);
}

abbrev pub decreases-loop-part : goal.decreases-loop-part
decreases-loop-part l = length l.rest
