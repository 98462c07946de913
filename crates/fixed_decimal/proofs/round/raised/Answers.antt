use Rattle.std.proofs.Common.{◌^◌, ◌≤◌, arith}
use Rattle.fixed_decimal.proofs.Powers.{ten_le}
use Rattle.fixed_decimal.proofs.round.raised.Goals as goal

pub pow-requires : goal.pow-requires
pow-requires c =
    let small : 10 ^ c.args.power ≤ 10 ^ 37 = ten_le c.args.power 37 (omega arith) in omega arith
