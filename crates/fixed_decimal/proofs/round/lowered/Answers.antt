use Rattle.std.proofs.Common.{ℕ, ◌+◌, ◌^◌, ◌≤◌, arith, ◌/◌, sym, subst}
use Rattle.fixed_decimal.specs.Value.{IsNearest}
use Rattle.fixed_decimal.proofs.Powers.{ten_le, ten_pos, ten_even}
use Rattle.fixed_decimal.proofs.Rounding.{nearest_nothing, nearest_by_halves}
use Rattle.fixed_decimal.proofs.round.lowered.Goals as goal

pub returns-then-power-gt38 : goal.returns-then-power-gt38
returns-then-power-gt38 c =
    let large : 10 ^ 39 ≤ 10 ^ c.args.power = ten_le 39 c.args.power (omega arith) in
    nearest_nothing c.args.kept (10 ^ c.args.power) (omega arith)

pub pow-unit-requires : goal.pow-unit-requires
pow-unit-requires c =
    let small : 10 ^ c.args.power ≤ 10 ^ 38 = ten_le c.args.power 38 (omega arith) in omega arith

pub nonzero_div-result-2 : goal.nonzero_div-result-2
nonzero_div-result-2 c = let some = ten_pos c.args.power in omega (arith, c.pow-unit.ensures)

pub returns : goal.returns
returns c =
    let P : ℕ → Type 0 = λ q. IsNearest c.args.kept (10 ^ c.args.power) ((c.args.kept + q / 2) / q) in
    subst P (sym c.pow-unit.ensures) (nearest_by_halves c.args.kept (10 ^ c.args.power) (ten_pos c.args.power) (ten_even c.args.power c.requires.power))
