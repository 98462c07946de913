use Rattle.std.proofs.Common.{refl, subst}
use Rattle.def_design.specs.Number.{place_of}
use Rattle.def_design.proofs.Numbers.{IsOnly, none_refused, read_as}
use Rattle.number_place.specs.Place.{IsNumberAt}
use Rattle.def_design.proofs.fault.number_value.Goals as goal

pub returns-in-Ok : goal.returns-in-Ok
returns-in-Ok c =
    let text = c.args.text.now in
    let place = place_of c.args.quantity in (
      none_refused c.args.quantity text c.in-Ok.value (subst (λ z. IsOnly place text z) c.in-Ok.is c.read_number.ensures.only),
      read_as c.args.quantity text text c.in-Ok.value refl (subst (λ z. IsNumberAt place text z) c.in-Ok.is c.read_number.ensures.answer),
    )
