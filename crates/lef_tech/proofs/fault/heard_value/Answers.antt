use Rattle.std.proofs.Common.{◌≡◌, ◌≤◌, ◌∷◌, ◌++◌, [], length, map, sym, ◌∙◌, ap, subst}
use Rattle.std.proofs.lemmas.List.{length-map}
use Rattle.lef_tech.specs.declared.question.Question.TheVariants.{Used}
use Rattle.lef_tech.specs.inside.Value.{TellsBy}
use Rattle.lef_tech.proofs.Hearing.{used_is, few_used, last_told}
use Rattle.reading.specs.Fault.{told_at}
use Rattle.reading.specs.Word.{token, heard_token}
use Rattle.lef_tech.proofs.fault.heard_value.Goals as goal

pub returns-in-Some : goal.returns-in-Some
returns-in-Some c = λ is long.
    let word = token c.args.word.now in
    let asked : c.args.question ≡ Used c.in-Some.quantity = used_is c.args.question c.in-Some.quantity (sym c.used_of.ensures ∙ c.in-Some.is) in
    subst (λ z. TellsBy c.args.state.now z (map heard_token c.args.before.now ++ word ∷ []) c.used_after.result) (sym asked)
    (c.used_after.ensures c.args.state.now word is (few_used (length c.args.before.now) c.in-Some.quantity c.args.question asked long))

pub returns-in-None : goal.returns-in-None
returns-in-None c = λ is long.
    let xs = c.args.before.now in
    let word = token c.args.word.now in
    let size : length (map heard_token xs) ≡ length xs = length-map xs heard_token in
    subst (λ z. TellsBy c.args.state.now c.args.question (map heard_token xs ++ word ∷ []) z)
    (sym (c.told_at.ensures ∙ ap (λ n. told_at n c.last_value.result) (sym size)))
    (last_told c.args.state.now c.args.question (map heard_token xs) word c.args.sort c.last_value.result (sym c.used_of.ensures ∙ c.in-None.is) is
    (λ k. long (subst (λ z. 6 ≤ z) size k)) c.last_value.ensures)
