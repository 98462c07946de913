use Rattle.std.proofs.Common.{sym, ◌∙◌, ap, refl, inl, inr, to_z, of_z}
use Rattle.std.specs.Int.{w64}
use Rattle.std.proofs.lemmas.Bool.{false≢true}
use Rattle.def_design.specs.declared.number.Quantity.TheVariants.{Any}
use Rattle.def_design.proofs.Numbers.{kept, none_apart, are_same, read_as}
use Rattle.def_design.proofs.fault.apart_value.Goals as goal

pub returns-then-is_same : goal.returns-then-is_same
returns-then-is_same c = λ edge is.
    let text = c.args.text.now in
    let v = c.in-Ok.value in
    let said = c.in-Ok.ensures.1 in
    let same = sym (kept Any v said.1.2.within) ∙ c.is_same.ensures.0 c.if-is_same.true ∙ kept Any c.args.other is.1.2.within in
    inr (refl, are_same edge text c.args.other v is said (sym same))

pub returns-else-is_same : goal.returns-else-is_same
returns-else-is_same c = λ edge is.
    let text = c.args.text.now in
    let v = c.in-Ok.value in
    let said = c.in-Ok.ensures.1 in (
      none_apart c.texts_have_one_number.ensures edge text c.args.other v is said c.in-Ok.ensures.0
          (λ e. false≢true (sym c.if-is_same.false ∙ c.is_same.ensures.1 (ap (λ z. to_z w64 (of_z w64 z)) e))),
      read_as Any text text v refl said,
    )

pub returns-in-Err : goal.returns-in-Err
returns-in-Err c = λ edge is. inl c.in-Err.ensures
