use Rattle.std.proofs.Common.{◌≡◌, ◌-◌, length, map, sym, ◌∙◌, ap, subst, arith}
use Rattle.std.proofs.lemmas.List.{length-map}
use Rattle.lef_tech.specs.inside.Value.{TellsUsed}
use Rattle.lef_tech.proofs.Hearing.{used_told, used_alone}
use Rattle.reading.specs.Word.{heard_token}
use Rattle.lef_tech.proofs.fault.used_after.Goals as goal

pub returns-in-Some : goal.returns-in-Some
returns-in-Some c = λ state word is few.
    let xs = c.args.before.now in
    let last = heard_token c.in-Some.last.now in
    let size : length (map heard_token xs) ≡ length xs = length-map xs heard_token in
    used_told state c.args.quantity (map heard_token xs) last word c.args.sort c.used_value.result c.in-Some.ensures.some is (omega (arith, size, few))
    (subst (λ z. TellsUsed c.args.quantity last.text z c.args.sort c.used_value.result) (c.saturating_sub.ensures ∙ ap (λ z. z - 1) (sym size)) c.used_value.ensures)

pub returns-in-None : goal.returns-in-None
returns-in-None c = λ state word is few.
    used_alone state c.args.quantity (map heard_token c.args.before.now) word c.plain.result c.in-None.ensures.none (c.plain.ensures ∙ is)
