use Rattle.std.proofs.Common.{rules, arith, ◌≡◌, ◌+◌, ℤ, subst, sym, ap, ◌∙◌, inl, inr, FitsSigned}
use Rattle.std.specs.Int.{w128}
use Rattle.std.proofs.lemmas.Int.{to_z-of_z}
use Rattle.fixed_decimal.specs.Spice.{scaled}
use Rattle.fixed_decimal.specs.Value.{signed, IsWithin}
use Rattle.fixed_decimal.proofs.Answering.{beyond_is, vanishes_is, above_is, read_is}
use Rattle.fixed_decimal.proofs.round.rounded.Goals as goal

pub returns-in_default : goal.returns-in_default
returns-in_default c = λ n negative d.
    let a = c.from.ensures in let b = c.from-2.ensures in let e = c.from-3.ensures in
    beyond_is n c.args.number.digits c.args.number.up c.args.number.down c.args.scale c.args.places c.args.limit d (c.args.number.up + c.from.result + c.from-2.result) (c.args.number.down + c.from-3.result) (omega arith) (omega arith) c.requires.limit c.in_default.ensures.none

pub returns-then-number-ne0 : goal.returns-then-number-ne0
returns-then-number-ne0 c = λ n negative d.
    let a = c.from.ensures in let b = c.from-2.ensures in let e = c.from-3.ensures in
    vanishes_is n c.args.number.digits c.args.number.up c.args.number.down c.args.scale c.args.places c.args.limit d (c.args.number.up + c.from.result + c.from-2.result) (c.args.number.down + c.from-3.result) (omega arith) (omega arith) c.in-Some.magnitude c.if-magnitude-eq0.true (omega arith) c.in-Some.ensures.some

pub returns-then-magnitude-limit : goal.returns-then-magnitude-limit
returns-then-magnitude-limit c = λ n negative d.
    let a = c.from.ensures in let b = c.from-2.ensures in let e = c.from-3.ensures in
    above_is n c.args.number.digits c.args.number.up c.args.number.down c.args.scale c.args.places c.args.limit d (c.args.number.up + c.from.result + c.from-2.result) (c.args.number.down + c.from-3.result) (omega arith) (omega arith) c.in-Some.magnitude c.if-magnitude-limit.true c.in-Some.ensures.some

pub returns : goal.returns
returns c = λ n negative d.
    let a = c.from.ensures in let b = c.from-2.ensures in let e = c.from-3.ensures in
    let other : c.in-Some.magnitude ≡ 0 → c.args.number.digits.kept ≡ 0 = λ h. elim c.else-magnitude-eq0.either [ inl both ↦ both.1 | inr some ↦ absurd (some h) ] in
    let read = read_is n c.args.number.digits c.args.number.up c.args.number.down c.args.scale c.args.places c.args.limit d (c.args.number.up + c.from.result + c.from-2.result) (c.args.number.down + c.from-3.result) (omega arith) (omega arith) c.in-Some.magnitude (omega arith) other c.in-Some.ensures.some in
    let fits : FitsSigned w128 c.with_sign.result = search rules in
    let whole = to_z-of_z w128 c.with_sign.result fits in
    let P : ℤ → Type 0 = λ x. IsWithin (scaled n c.args.scale) c.args.places c.args.limit x in
    subst P (ap (λ b. signed b c.in-Some.magnitude) negative ∙ (sym c.with_sign.ensures ∙ sym whole)) read
