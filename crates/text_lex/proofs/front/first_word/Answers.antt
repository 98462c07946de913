use Rattle.std.proofs.Common.{◌∙◌, sym, subst, List, ℕ}
use Rattle.text_lex.specs.inside.Front.{IsInFront}
use Rattle.text_lex.proofs.Starts.{first_and_rest, not_empty}
use Rattle.text_lex.proofs.front.first_word.Goals as goal

pub returns-then-has_quotes : goal.returns-then-has_quotes
returns-then-has_quotes c = λ opens _.
    let P : List ℕ → Type 0 = λ t. IsInFront c.args.mode opens t c.quoted.result in
    subst P (sym (first_and_rest c.args.text.now 34 (not_empty c.args.text.now c.if-is_empty.ensures) c.if-first-eq34.true)) (c.quoted.ensures opens)

pub returns-then-is_script-2 : goal.returns-then-is_script-2
returns-then-is_script-2 c = λ opens _.
    let P : List ℕ → Type 0 = λ t. IsInFront c.args.mode opens t c.braced.result in
    subst P (sym (first_and_rest c.args.text.now 123 (not_empty c.args.text.now c.if-is_empty.ensures) c.if-first-eq123.true)) (c.braced.ensures c.args.mode opens (sym c.is_script-then-first-eq123.ensures ∙ c.if-is_script-2.true))
