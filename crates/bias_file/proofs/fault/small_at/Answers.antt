use Rattle.std.proofs.Common.{◌≤◌, Ok, sym, subst, arith, to_z, of_z, ◌≡◌}
use Rattle.std.specs.Prelude.{unsigned_abs}
use Rattle.std.specs.Int.{w64}
use Rattle.std.proofs.lemmas.Int.{to_z-of_z, fits_signed_from_abs}
use Rattle.bias_file.proofs.Numbers.{IsOnly, none_refused}
use Rattle.number_place.specs.Place.{IsNumberAt}
use Rattle.bias_file.proofs.fault.small_at.Goals as goal

pub returns-in-Ok : goal.returns-in-Ok
returns-in-Ok c =
    let v = c.in-Ok.value in
    let is = subst (λ z. IsNumberAt c.args.place c.args.text.now z) c.in-Ok.is c.small_number_at.ensures.answer in
    let only = subst (λ z. IsOnly c.args.place c.args.text.now z) c.in-Ok.is c.small_number_at.ensures.only in
    let within : unsigned_abs v ≤ c.args.place.limit = is.1.2.within in
    let limit = c.requires.small in
    let kept : to_z w64 (of_z w64 v) ≡ v = to_z-of_z w64 v (fits_signed_from_abs w64 v (omega (arith, limit, within))) in (
      none_refused c.args.place c.args.text.now v only,
      subst (λ z. IsNumberAt c.args.place c.args.text.now (Ok z)) (sym kept) is,
    )
