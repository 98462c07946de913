use Rattle.std.proofs.Common.{◌≡◌, true, false, inl, inr, refl, sym, ◌∙◌, ap}
use Rattle.name_places.specs.Places.{place_of}
use Rattle.wave_file.proofs.Lines.{placed, not_placed}
use Rattle.wave_file.proofs.fault.node_value.Goals as goal

pub returns-in_default : goal.returns-in_default
returns-in_default c = λ names units text h is.
    let none = ap (λ z. place_of z c.args.name.now) (sym h.groups) ∙ sym c.place.ensures ∙ c.in_default.is in
    inl (refl, not_placed names c.args.name.now none)

pub returns-then-is_twice : goal.returns-then-is_twice
returns-then-is_twice c = λ names units text h is.
    let place = ap (λ z. place_of z c.args.name.now) (sym h.groups) ∙ sym c.place.ensures ∙ c.in-Some.is in
    inr (refl, placed names c.args.name.now c.in-Some.node place, (c.is_twice.ensures names units text c.args.name.now h is place).0 c.if-is_twice.true)

pub returns : goal.returns
returns c = λ names units text h is.
    let place = ap (λ z. place_of z c.args.name.now) (sym h.groups) ∙ sym c.place.ensures ∙ c.in-Some.is in (
      (λ kind f. elim f [
        | inl unknown ↦ unknown.1 (placed names c.args.name.now c.in-Some.node place)
        | inr twice ↦
            let no : true ≡ false = sym ((c.is_twice.ensures names units text c.args.name.now h is place).1 twice.2) ∙ c.if-is_twice.false in cc
      ]),
      place,
    )
