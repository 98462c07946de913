use Rattle.std.proofs.Common.{◌≡◌, ◌∙◌, sym, false, ◌&&◌, ◌==◌, get_or}
use Rattle.std.proofs.lemmas.Bool.{and_left, and_right, ne_eqb}
use Rattle.text_lex.specs.Bytes.{has_comment}
use Rattle.text_lex.proofs.Starts.{white_gap, comment_gap, joined_gap, not_empty}
use Rattle.text_lex.proofs.front.gap_len.Goals as goal
use Rattle.text_lex.proofs.front.gap_len.Goals.{else-text-eq35-via-then-text-eq35+else-makes_comment, else-text-eq35-via-else-text-eq35}

pub returns-then-is_white : goal.returns-then-is_white
returns-then-is_white c =
    white_gap c.args.mode c.args.command_could_begin c.args.text.now (not_empty c.args.text.now c.if-is_empty.ensures) (sym c.is_white.ensures ∙ c.if-is_white.true)

pub returns-then-makes_comment : goal.returns-then-makes_comment
returns-then-makes_comment c =
    comment_gap c.args.mode c.args.command_could_begin c.args.text.now c.line_len.result (not_empty c.args.text.now c.if-is_empty.ensures) c.if-text-eq35.true (sym c.makes_comment.ensures ∙ c.if-makes_comment.true) c.line_len.ensures

pub returns-then-is_script : goal.returns-then-is_script
returns-then-is_script c =
    let comment : (get_or c.args.text.now 0 0 == 35 && has_comment c.args.mode c.args.command_could_begin) ≡ false =
    elim c.else-text-eq35.branch [
      | else-text-eq35-via-then-text-eq35+else-makes_comment w ↦ and_right _ _ (sym w.makes_comment.ensures ∙ w.if-makes_comment.false)
      | else-text-eq35-via-else-text-eq35 w ↦ and_left _ _ (ne_eqb _ 35 w.if-text-eq35.false)
    ] in
    joined_gap c.args.mode c.args.command_could_begin c.args.text.now c.joined_len.result (sym c.is_script.ensures ∙ c.if-is_script.true) (sym c.is_white.ensures ∙ c.if-is_white.false) comment c.joined_len.ensures
