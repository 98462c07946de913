use Rattle.std.proofs.Common.{subst}
use Rattle.lef_tech.specs.Number.{place_of}
use Rattle.lef_tech.specs.inside.Value.{answer_of}
use Rattle.lef_tech.proofs.Numbers.{IsOnly, none_read}
use Rattle.number_place.specs.Place.{IsNumberAt}
use Rattle.lef_tech.proofs.fault.used_value.Goals as goal

pub returns-in-Ok : goal.returns-in-Ok
returns-in-Ok c = (
  none_read c.args.quantity c.args.before.now c.in-Ok.value.number (subst (λ z. IsOnly (place_of c.args.quantity) c.args.before.now (answer_of z)) c.in-Ok.is c.read_number.ensures.only),
  c.in-Ok.ensures.sort,
  subst (λ z. IsNumberAt (place_of c.args.quantity) c.args.before.now (answer_of z)) c.in-Ok.is c.read_number.ensures.answer,
)
