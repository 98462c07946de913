use Rattle.std.proofs.Common.{Ok, sym, subst}
use Rattle.wave_file.specs.Number.{amperes}
use Rattle.wave_file.proofs.Numbers.{IsOnly, none_refused, kept_64}
use Rattle.number_place.specs.Place.{IsNumberAt}
use Rattle.wave_file.proofs.fault.low_value.Goals as goal

pub returns-in-Ok : goal.returns-in-Ok
returns-in-Ok c =
    let is = subst (λ z. IsNumberAt amperes c.args.text.now z) c.in-Ok.is c.small_number_at.ensures.answer in
    let only = subst (λ z. IsOnly amperes c.args.text.now z) c.in-Ok.is c.small_number_at.ensures.only in (
      none_refused c.args.text.now c.in-Ok.amps only,
      subst (λ z. IsNumberAt amperes c.args.text.now (Ok z)) (sym (kept_64 c.in-Ok.amps is.1.2.within)) is,
    )
