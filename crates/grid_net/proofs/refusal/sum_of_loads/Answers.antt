use Rattle.std.proofs.Common.{pos, arith}
use Rattle.std.proofs.lemmas.Int.{ints}
use Rattle.grid_net.proofs.Refusals.{given_more}
use Rattle.grid_net.proofs.refusal.sum_of_loads.Goals as goal

pub loop-load-preserved : goal.loop-load-preserved
loop-load-preserved c =
    let step = given_more c.args.loads.now c.loop-load.load-index (record { node = 0; low = pos 0; high = pos 0 }) c.loop-load-test.true in
    record {
      so_far = omega (arith, ints, step, c.loop-load.invariant.so_far, c.load_size-size.ensures.size);
      at_most = omega (arith, ints);
    }
