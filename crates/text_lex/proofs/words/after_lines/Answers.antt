use Rattle.std.proofs.Common.{◌∙◌}
use Rattle.text_lex.proofs.Steps.{feeds_found, after_none, after_some}
use Rattle.text_lex.proofs.words.after_lines.Goals as goal

pub returns-then-lines-eq0 : goal.returns-then-lines-eq0
returns-then-lines-eq0 c =
    c.next_word.ensures ∙ after_none c.args.place c.count-lines.result _ (feeds_found c.args.text.now _ c.count-lines.result c.memchr_iter.ensures.value c.count-lines.ensures) c.if-lines-eq0.true

pub returns-else-lines-eq0 : goal.returns-else-lines-eq0
returns-else-lines-eq0 c =
    after_some c.args.place c.count-lines.result _ (feeds_found c.args.text.now _ c.count-lines.result c.memchr_iter.ensures.value c.count-lines.ensures) c.if-lines-eq0.false
