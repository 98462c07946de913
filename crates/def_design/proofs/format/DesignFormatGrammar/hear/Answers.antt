use Rattle.std.proofs.Common.{◌≡◌, ◌+◌, Ok, [], ◌∷◌, ◌++◌, length, map, sym, ◌∙◌, ap, subst, arith, length-append}
use Rattle.std.proofs.lemmas.List.{length-map}
use Rattle.def_design.specs.Question.{question_at, question_of}
use Rattle.def_design.specs.Fault.{LastFault}
use Rattle.def_design.specs.inside.Value.{asks_by, SaysAsked}
use Rattle.def_design.proofs.Finding.{fine_told, fault_told}
use Rattle.def_design.proofs.Heard.{first_heard, next_asked, last_added}
use Rattle.def_statements.specs.Standing.{section_in, section_of}
use Rattle.def_statements.specs.Unit.{text_or, sort_or}
use Rattle.reading.specs.Fault.{FindsValue}
use Rattle.reading.specs.Word.{token, heard_token}
use Rattle.def_design.proofs.format.DesignFormatGrammar.hear.Goals as goal

pub returns-in-Ok : goal.returns-in-Ok
returns-in-Ok c = λ units h heard same.
    let xs = c.args.before.now in
    let w = token c.args.word.now in
    let unit = map heard_token xs ++ w ∷ [] in
    let ends = last_added (map heard_token xs) w in
    let asked : c.question_of-question.result ≡ question_of (section_of units) unit =
    c.question_of-question.ensures ∙ ap (λ z. question_at (asks_by z c.first_sort.result) (length xs)) (c.section-section.ensures ∙ ap section_in h.standing)
    ∙ next_asked (section_of units) xs w c.first_sort.result (c.first_sort.ensures ∙ first_heard units xs w c.args.sort heard same) in
    fine_told c.args.self.now.wiring_refused units unit c.question_of-question.result c.args.sort c.in-Ok.number asked (same ∙ sym (ap sort_or ends))
    (subst (λ z. FindsValue (LastFault c.args.self.now.wiring_refused units unit c.question_of-question.result) (SaysAsked c.question_of-question.result z) (Ok c.in-Ok.number))
    (sym (ap text_or ends)) (c.in-Ok.ensures units h.said heard same asked))

pub returns-in-Err : goal.returns-in-Err
returns-in-Err c = λ units h heard same.
    let xs = c.args.before.now in
    let w = token c.args.word.now in
    let unit = map heard_token xs ++ w ∷ [] in
    let asked : c.question_of-question.result ≡ question_of (section_of units) unit =
    c.question_of-question.ensures ∙ ap (λ z. question_at (asks_by z c.first_sort.result) (length xs)) (c.section-section.ensures ∙ ap section_in h.standing)
    ∙ next_asked (section_of units) xs w c.first_sort.result (c.first_sort.ensures ∙ first_heard units xs w c.args.sort heard same) in
    let count = length-append (map heard_token xs) (w ∷ []) in
    let number = length-map xs heard_token in
    let last : length xs + 1 ≡ length unit = omega (arith, count, number) in
    fault_told c.args.self.now.wiring_refused units unit c.question_of-question.result (length xs) c.in-Err.kind last asked (c.in-Err.ensures units h.said heard same asked)
