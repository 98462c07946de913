use Rattle.std.proofs.Common.{◌≡◌, ◌∙◌, sym, ap, subst, inr, List, ℕ, take, drop, false, ◌&&◌}
use Rattle.std.proofs.lemmas.Bool.{and_left, and_right}
use Rattle.std.proofs.lemmas.List.{take_rest}
use Rattle.text_lex.specs.Bytes.{begins_substitution, is_script}
use Rattle.text_lex.specs.Piece.{IsBare}
use Rattle.text_lex.proofs.Starts.{bare_refused, bare_found, cut_at}
use Rattle.text_lex.proofs.front.bare.Goals as goal
use Rattle.text_lex.proofs.front.bare.Goals.{else-is_script-via-then-is_script+else-begins_substitution, else-is_script-via-else-is_script}

pub returns-then-begins_substitution : goal.returns-then-begins_substitution
returns-then-begins_substitution c = λ opens word.
    let text = c.args.text.now in
    let len = c.plain_len-len.result in
    let found = ap begins_substitution (sym (take_rest text len)) ∙ (sym c.begins_substitution.ensures ∙ c.if-begins_substitution.true) in
    inr (bare_refused c.args.mode opens text len c.requires word c.plain_len-len.ensures (sym c.is_script.ensures ∙ c.if-is_script.true) found)

pub returns : goal.returns
returns c = λ opens word.
    let text = c.args.text.now in
    let len = c.plain_len-len.result in
    let none : (is_script c.args.mode && begins_substitution (drop len text)) ≡ false =
    elim c.else-is_script.branch [
      | else-is_script-via-then-is_script+else-begins_substitution w ↦ and_right _ _ (ap begins_substitution (sym (take_rest text len)) ∙ (sym w.begins_substitution.ensures ∙ w.if-begins_substitution.false))
      | else-is_script-via-else-is_script w ↦ and_left _ _ (sym c.is_script.ensures ∙ w.if-is_script.false)
    ] in
    let P : List ℕ → Type 0 = λ more. IsBare c.args.mode opens (take len text) more in
    (subst P (sym (take_rest text len)) (bare_found c.args.mode opens text len c.requires word c.plain_len-len.ensures none), cut_at text len)
