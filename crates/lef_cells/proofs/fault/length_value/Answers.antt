use Rattle.std.proofs.Common.{◌≡◌, ℕ, pos, Ok, sym, ◌∙◌, ap, subst}
use Rattle.std.specs.Prelude.{unsigned_abs}
use Rattle.lef_cells.specs.Number.{length}
use Rattle.lef_cells.proofs.Numbers.{IsOnly, none_refused, not_negative, kept_64}
use Rattle.number_place.specs.Place.{IsNumberAt}
use Rattle.lef_cells.proofs.fault.length_value.Goals as goal

pub returns-in-Ok : goal.returns-in-Ok
returns-in-Ok c =
    let text = c.args.text.now in
    let value = c.in-Ok.value in
    let is = subst (λ z. IsNumberAt length text z) c.in-Ok.is c.small_number_at.ensures.answer in
    let only = subst (λ z. IsOnly text z) c.in-Ok.is c.small_number_at.ensures.only in
    let sign = c.values_fit_their_places.ensures.sign length text value is in
    let within = c.values_fit_their_places.ensures.limit length text value is in
    let told : c.unsigned_abs.result ≡ unsigned_abs value = c.unsigned_abs.ensures.value ∙ ap (λ z. unsigned_abs z) (kept_64 value within) in
    let all : pos c.unsigned_abs.result ≡ value = ap (λ (z : ℕ). pos z) told ∙ not_negative value sign in
    (none_refused text value only, subst (λ z. IsNumberAt length text (Ok z)) (sym all) is)
