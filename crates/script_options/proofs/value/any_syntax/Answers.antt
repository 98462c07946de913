use Rattle.std.proofs.Common.{◌≡◌, true, false, sym, ◌∙◌}
use Rattle.script_options.specs.ListWords.{words_of}
use Rattle.script_options.proofs.Refusals.{syntax_more}
use Rattle.script_options.proofs.value.any_syntax.Goals as goal

pub loop-part-preserved : goal.loop-part-preserved
loop-part-preserved c = syntax_more c.args.quantity (words_of c.loop-part.rest.now) (words_of c.in-Some.part.rest.now) (words_of c.args.text.now) c.in-Some.part.word.now c.in-Some.ensures.some
    (λ k. let no : true ≡ false = sym (c.is_syntax.ensures.1 k) ∙ c.if-is_syntax.false in cc) c.loop-part.invariant
