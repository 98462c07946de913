use Rattle.std.proofs.Common.{sym, ap, subst, map, ◌++◌, ◌∷◌, [], None, ◌∙◌}
use Rattle.pdn_script.specs.Format.{format}
use Rattle.pdn_script.specs.inside.Value.{says}
use Rattle.pdn_script.proofs.Hearing.{no_words_before, first_told, late_told, word_told}
use Rattle.reading.specs.Grammar.{Tells}
use Rattle.reading.specs.Word.{token, heard_token}
use Rattle.pdn_script.proofs.format.ScriptFormatGrammar.hear.Goals as goal

pub returns-in-None : goal.returns-in-None
returns-in-None c = λ units h heard same.
    subst (λ z. Tells format (says units) units (map heard_token c.args.before.now ++ token c.args.word.now ∷ []) z) (sym c.told_at.ensures)
    (first_told units c.args.said.now.known h.known c.args.before.now (no_words_before c.args.before.now c.in-None.ensures.cases) (token c.args.word.now) c.first_value.result c.first_value.ensures)

pub returns-in-Some-late_fault : goal.returns-in-Some-late_fault
returns-in-Some-late_fault c = λ units h heard same.
    late_told units c.args.before.now c.in-Some.first.now c.in-Some.words.now c.in-Some.ensures.cases.0 heard (token c.args.word.now) c.args.said.now.known c.command-command.result c.waiting-waits.result
    h.known c.command-command.ensures c.waiting-waits.ensures c.in-Some-late_fault.found (sym c.in-Some-late_fault.is ∙ c.late_fault.ensures)

pub returns-in-None-late_fault : goal.returns-in-None-late_fault
returns-in-None-late_fault c = λ units h heard same.
    subst (λ z. Tells format (says units) units (map heard_token c.args.before.now ++ token c.args.word.now ∷ []) z) (sym c.told_at-in-None-late_fault.ensures)
    (word_told units c.args.before.now c.in-Some.first.now c.in-Some.words.now c.in-Some.ensures.cases.0 heard (token c.args.word.now) c.args.said.now.known c.command-command.result c.waiting-waits.result
    h.known c.command-command.ensures c.waiting-waits.ensures (sym c.in-None-late_fault.is ∙ c.late_fault.ensures) c.word_value.result c.word_value.ensures)
