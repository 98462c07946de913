use Rattle.std.proofs.Common.{◌≡◌, ◌∙◌, sym, ap, inl, ◌∷◌, take, true, false}
use Rattle.std.proofs.lemmas.Bool.{both_ways}
use Rattle.text_lex.specs.Bytes.{is_script, has_substitution}
use Rattle.text_lex.proofs.Searching.{first_at, first_nowhere}
use Rattle.text_lex.proofs.Starts.{open_quote, quotes_refused, quotes_found, rest_at}
use Rattle.text_lex.proofs.front.quoted.Goals as goal
use Rattle.text_lex.proofs.front.quoted.Goals.{else-is_script-via-then-is_script+else-has_substitution, else-is_script-via-else-is_script}

pub returns-in_default : goal.returns-in_default
returns-in_default c = λ _. inl (open_quote c.args.mode c.args.text.now c.requires (first_nowhere 34 c.args.text.now c.in_default.ensures))

pub returns-then-has_substitution : goal.returns-then-has_substitution
returns-then-has_substitution c = λ _.
    let first = first_at 34 c.args.text.now c.in-Some.len c.in-Some.ensures in
    inl (quotes_refused c.args.mode c.args.text.now c.in-Some.len (sym c.is_script.ensures ∙ c.if-is_script.true) first (sym c.has_substitution.ensures ∙ c.if-has_substitution.true))

pub returns : goal.returns
returns c = λ _.
    let first = first_at 34 c.args.text.now c.in-Some.len c.in-Some.ensures in
    let kept : is_script c.args.mode ≡ true → has_substitution (take c.in-Some.len c.args.text.now) ≡ false =
    elim c.else-is_script.branch [
      | else-is_script-via-then-is_script+else-has_substitution w ↦ λ _. sym w.has_substitution.ensures ∙ w.if-has_substitution.false
      | else-is_script-via-else-is_script w ↦ λ script. absurd (both_ways _ (sym c.is_script.ensures ∙ w.if-is_script.false) script)
    ] in
    (quotes_found c.args.mode c.args.text.now c.in-Some.len c.requires first kept, ap (λ x. 34 ∷ x) (rest_at c.args.text.now c.in-Some.len 34 first.within first.is))
