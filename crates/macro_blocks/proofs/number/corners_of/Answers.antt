use Rattle.std.proofs.Common.{Some, false, map, sym, ◌∙◌, ap, subst, arith, ◌≡◌}
use Rattle.std.proofs.lemmas.List.{length-map}
use Rattle.macro_blocks.specs.Standing.{is_rect}
use Rattle.macro_blocks.specs.inside.Held.{AreCorners}
use Rattle.macro_blocks.proofs.Words.{no_word, few_words, many_words}
use Rattle.reading.specs.Laws.{six-items}
use Rattle.reading.specs.Word.{heard_token}
use Rattle.macro_blocks.proofs.number.corners_of.Goals as goal

pub returns-in_default-clause-none : goal.returns-in_default-clause-none
returns-in_default-clause-none c =
    sym (few_words (map heard_token c.args.unit.now) (let count = length-map c.args.unit.now heard_token in let few = c.in_default.len_below in omega arith))

pub returns-in_default-2-clause-none : goal.returns-in_default-2-clause-none
returns-in_default-2-clause-none c =
    sym (many_words (map heard_token c.args.unit.now) (let count = length-map c.args.unit.now heard_token in let many = c.in_default.len_at_least in omega arith))

pub returns-then-not-is_stop-clause-none : goal.returns-then-not-is_stop-clause-none
returns-then-not-is_stop-clause-none c =
    let words = six-items no_word c.args.unit.now c.in-len6.len_at_least c.in-len6.len_below in
    subst (λ z. is_rect (map heard_token z) ≡ false) (sym words) (sym c.is_stop.ensures ∙ c.if-not-is_stop.true)

pub returns-clause-some : goal.returns-clause-some
returns-clause-some c =
    let words = six-items no_word c.args.unit.now c.in-len6.len_at_least c.in-len6.len_below in
    subst (λ z. AreCorners z (record { one = c.corner_of.result; other = c.corner_of-2.result })) (sym words)
    (sym c.is_stop.ensures ∙ c.if-not-is_stop.false, c.corner_of.ensures.x, c.corner_of.ensures.y, c.corner_of-2.ensures.x, c.corner_of-2.ensures.y)
