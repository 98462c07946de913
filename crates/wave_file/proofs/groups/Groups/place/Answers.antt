use Rattle.std.proofs.Common.{◌≤◌, ◌^◌, length, sym, ◌∙◌, arith}
use Rattle.wave_file.proofs.Lines.{place_below}
use Rattle.wave_file.proofs.groups.Groups.place.Goals as goal

pub overflow_cast-result : goal.overflow_cast-result
overflow_cast-result c =
    let below = place_below c.args.self.now.names c.args.name.now c.in-Some.place (sym c.place.ensures ∙ c.in-Some.is) in
    let few : length c.args.self.now.names ≤ 2 ^ 32 = c.args.self.now.few in
    omega (arith, below, few)
