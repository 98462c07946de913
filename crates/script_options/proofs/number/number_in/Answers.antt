use Rattle.std.proofs.Common.{rules, ◌≡◌, ℕ, Some, Ok, Err, pos, sym, subst}
use Rattle.number_place.specs.Place.{IsNumberAt}
use Rattle.script_options.proofs.number.number_in.Goals as goal

pub returns-then-value-lt0-clause-all : goal.returns-then-value-lt0-clause-all
returns-then-value-lt0-clause-all c = λ value h.
    let same = c.in-Ok.ensures.only (Ok (pos value)) (subst (λ z. IsNumberAt z c.args.text.now (Ok (pos value))) (sym c.place_of.ensures) h) in search rules

pub returns-else-value-lt0-clause-all : goal.returns-else-value-lt0-clause-all
returns-else-value-lt0-clause-all c = λ value h.
    let same = c.in-Ok.ensures.only (Ok (pos value)) (subst (λ z. IsNumberAt z c.args.text.now (Ok (pos value))) (sym c.place_of.ensures) h) in search rules

pub returns-in-Err-clause-all : goal.returns-in-Err-clause-all
returns-in-Err-clause-all c = λ value h.
    let same = c.in-Err.ensures.only (Ok (pos value)) (subst (λ z. IsNumberAt z c.args.text.now (Ok (pos value))) (sym c.place_of.ensures) h) in absurd (cc)
