use Rattle.std.proofs.Common.{rules, arith, ◌≡◌, ◌-◌, ◌^◌, ◌≤◌, ◌++◌, ℤ, pos, ◌∙◌, subst, FitsSigned, to_z, of_z, OnOk}
use Rattle.std.specs.Int.{w128}
use Rattle.std.proofs.lemmas.Int.{ints, to_z-of_z}
use Rattle.fixed_decimal.specs.Printed.{printed}
use Rattle.fixed_decimal.specs.inside.Rounded.{IsRounded}
use Rattle.fixed_decimal.proofs.Printing.{ok_with}
use Rattle.fixed_decimal.proofs.Powers.{ten_le, ten_pos}
use Rattle.fixed_decimal.proofs.printer.print_rounded.Goals as goal

pub pow-requires : goal.pow-requires
pow-requires c =
    let small : 10 ^ (c.args.places - c.args.shown) ≤ 10 ^ 30 = ten_le (c.args.places - c.args.shown) 30 (omega arith) in
    record { sfits = omega arith }

pub rounded-requires : goal.rounded-requires
rounded-requires c =
    let some = ten_pos (c.args.places - c.args.shown) in
    let fits : FitsSigned w128 c.pow.result = search rules in
    omega (arith, ints, c.pow.ensures)

pub returns-clause-ok : goal.returns-clause-ok
returns-clause-ok c =
    let value : FitsSigned w128 c.args.value = c.ranges.value in
    let pow : FitsSigned w128 c.pow.result = search rules in
    let fits : FitsSigned w128 c.rounded.result = search rules in
    let unit : to_z w128 (of_z w128 c.pow.result) ≡ pos (10 ^ (c.args.places - c.args.shown)) = to_z-of_z w128 c.pow.result pow ∙ c.pow.ensures in
    let given = c.rounded.ensures (10 ^ (c.args.places - c.args.shown)) unit in
    let P : ℤ → Type 0 = λ x. IsRounded c.args.direction x (10 ^ (c.args.places - c.args.shown)) c.rounded.result in
    let is : IsRounded c.args.direction c.args.value (10 ^ (c.args.places - c.args.shown)) c.rounded.result = subst P (to_z-of_z w128 c.args.value value) given in
    let Q : ℤ → Type 0 = λ x. OnOk c.print.result (c.print.new.out.items ≡ c.args.out.now.items ++ printed x c.args.shown) in
    ok_with (λ q. IsRounded c.args.direction c.args.value (10 ^ (c.args.places - c.args.shown)) q) (λ q. c.print.new.out.items ≡ c.args.out.now.items ++ printed q c.args.shown) c.print.result c.rounded.result is (subst Q (to_z-of_z w128 c.rounded.result fits) c.print.ensures.ok)
