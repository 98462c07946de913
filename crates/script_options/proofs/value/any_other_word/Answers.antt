use Rattle.std.proofs.Common.{sym, subst}
use Rattle.std.specs.List.{AllByRecursion}
use Rattle.script_options.specs.ListWords.{words_of}
use Rattle.script_options.proofs.Refusals.{other_more, other_none}
use Rattle.text_lex.specs.Name.{IsName}
use Rattle.script_options.proofs.value.any_other_word.Goals as goal

pub loop-part-preserved : goal.loop-part-preserved
loop-part-preserved c = record {
  is = other_more (words_of c.loop-part.rest.now) (words_of c.in-Some.part.rest.now) (words_of c.args.text.now) c.in-Some.part.word.now c.in-Some.ensures.some
      (c.is_name.ensures.0 c.if-not-is_name.false) c.loop-part.invariant.is;
  names = λ h. c.loop-part.invariant.names (subst (AllByRecursion IsName) (sym c.in-Some.ensures.some) (c.is_name.ensures.0 c.if-not-is_name.false, h));
}
