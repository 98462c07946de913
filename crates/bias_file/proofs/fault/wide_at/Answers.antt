use Rattle.std.proofs.Common.{Ok, sym, subst}
use Rattle.bias_file.proofs.Numbers.{IsOnly, none_refused}
use Rattle.bias_file.proofs.Taking.{number_kept}
use Rattle.number_place.specs.Place.{IsNumberAt}
use Rattle.bias_file.proofs.fault.wide_at.Goals as goal

pub returns-in-Ok : goal.returns-in-Ok
returns-in-Ok c =
    let is = subst (λ z. IsNumberAt c.args.place c.args.text.now z) c.in-Ok.is c.number_at.ensures.answer in
    let only = subst (λ z. IsOnly c.args.place c.args.text.now z) c.in-Ok.is c.number_at.ensures.only in (
      none_refused c.args.place c.args.text.now c.in-Ok.value only,
      subst (λ z. IsNumberAt c.args.place c.args.text.now (Ok z)) (sym (number_kept c.args.place c.args.text.now c.in-Ok.value c.requires.limit is)) is,
    )
