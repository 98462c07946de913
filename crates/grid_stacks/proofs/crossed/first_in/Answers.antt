use Rattle.std.proofs.Common.{◌+◌, ◌-◌, ◌/◌, pos, SFits, w64, arith, rules}
use Rattle.std.proofs.lemmas.Int.{to_z-of_z}
use Rattle.grid_stacks.specs.declared.bar.Bar.{Bar}
use Rattle.grid_stacks.proofs.AllSteps.{before_all}
use Rattle.grid_stacks.proofs.crossed.first_in.Goals as goal

nothing : Bar
nothing = record { net = 0; layer = 0; centre = pos 0; low = pos 0; high = pos 0; from = pos 0; to = pos 0 }

pub loop-low-preserved-then-is_before : goal.loop-low-preserved-then-is_before
unfolding nothing
loop-low-preserved-then-is_before c =
    let middle = c.loop-low.low + (c.loop-low.high - c.loop-low.low) / 2 in
    let fits : SFits w64 c.args.x = c.ranges.x in
    let before = simp to_z-of_z at (c.is_before.ensures c.if-is_before.true) in
    record {
      upto = omega arith;
      within = omega arith;
      passed = simp to_z-of_z (before_all c.args.uprights.now middle nothing c.args.net c.args.x c.requires (omega (arith, c.loop-low.invariant.within)) before);
    }
