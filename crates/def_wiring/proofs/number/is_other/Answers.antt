use Rattle.std.proofs.Common.{◌≡◌, ◌↔◌, IsTrue, SFits, w64, to_z, of_z, rules, subst}
use Rattle.std.proofs.lemmas.Int.{to_z-of_z}
use Rattle.def_wiring.specs.declared.number.Quantity.TheVariants.{Any}
use Rattle.def_wiring.specs.Number.{place_of}
use Rattle.def_wiring.proofs.Numbers.{IsOnly, none_other, other_none, other_tells}
use Rattle.number_place.specs.Place.{IsNumberAt}
use Rattle.def_wiring.proofs.number.is_other.Goals as goal

pub returns-in-Ok-Ok : goal.returns-in-Ok-Ok
returns-in-Ok-Ok c =
    let one = c.args.one.now in
    let other = c.args.other.now in
    let a = c.in-Ok-Ok.a in
    let b = c.in-Ok-Ok.b in
    let first : SFits w64 c.in-Ok-Ok.a = search rules in
    let second : SFits w64 c.in-Ok-Ok.b = search rules in
    other_tells one other a b c.is_equal.result
    (subst (λ z. IsTrue c.is_equal.result ↔ (z ≡ b)) (to_z-of_z w64 a first)
    (subst (λ z. IsTrue c.is_equal.result ↔ (to_z w64 (of_z w64 a) ≡ z)) (to_z-of_z w64 b second) c.is_equal.ensures))
    (subst (λ z. IsNumberAt (place_of Any) one z) c.in-Ok-Ok.is-0 c.read_number.ensures.answer)
    (subst (λ z. IsNumberAt (place_of Any) other z) c.in-Ok-Ok.is-1 c.read_number-2.ensures.answer)
    (subst (λ z. IsOnly (place_of Any) one z) c.in-Ok-Ok.is-0 c.read_number.ensures.only)
    (subst (λ z. IsOnly (place_of Any) other z) c.in-Ok-Ok.is-1 c.read_number-2.ensures.only)

pub returns-in_default : goal.returns-in_default
returns-in_default c = (
  λ h. absurd (cc),
  λ f. absurd (other_none c.args.one.now c.args.other.now _ (subst (λ z. IsOnly (place_of Any) c.args.other.now z) c.in_default.is-1 c.read_number-2.ensures.only) f),
)

pub returns-in_default-2 : goal.returns-in_default-2
returns-in_default-2 c = (
  λ h. absurd (cc),
  λ f. absurd (none_other c.args.one.now c.args.other.now _ (subst (λ z. IsOnly (place_of Any) c.args.one.now z) c.in_default.is-0 c.read_number.ensures.only) f),
)
