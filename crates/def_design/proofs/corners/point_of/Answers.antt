use Rattle.std.proofs.Common.{◌+◌, map, refl, sym, subst}
use Rattle.def_design.specs.declared.number.Quantity.TheVariants.{Any}
use Rattle.def_design.specs.Number.{IsNumber}
use Rattle.def_design.proofs.Numbers.{read_as}
use Rattle.def_statements.specs.Unit.{text_at}
use Rattle.reading.specs.Word.{heard_token}
use Rattle.def_design.proofs.corners.point_of.Goals as goal

pub returns : goal.returns
returns c = λ x y.
    let unit = map heard_token c.args.unit.now in
    let first = text_at c.args.n unit in
    let second = text_at (c.args.n + 1) unit in (
      read_as Any first first c.number_at.result refl (subst (λ z. IsNumber Any first z) (sym c.number_at.ensures) x),
      read_as Any second second c.number_at-2.result refl (subst (λ z. IsNumber Any second z) (sym c.number_at-2.ensures) y),
    )
