use Rattle.std.proofs.Common.{subst}
use Rattle.def_design.specs.declared.number.Quantity.TheVariants.{Positive}
use Rattle.def_design.specs.Number.{place_of}
use Rattle.def_design.proofs.Numbers.{IsOnly, none_more, one_is}
use Rattle.number_place.specs.Place.{IsNumberAt}
use Rattle.def_design.proofs.fault.one_value.Goals as goal

pub returns-then-value-eq1 : goal.returns-then-value-eq1
returns-then-value-eq1 c =
    let text = c.args.text.now in (
      none_more text c.in-Ok.value (one_is text c.in-Ok.value c.if-value-eq1.true (subst (λ z. IsNumberAt (place_of Positive) text z) c.in-Ok.is c.read_number.ensures.answer))
          (subst (λ z. IsOnly (place_of Positive) text z) c.in-Ok.is c.read_number.ensures.only),
      tt,
    )
