use Rattle.std.proofs.Common.{ℕ, ◌+◌, ◌*◌}
use Rattle.grid_gen.specs.Bias.{pads_at}
use Rattle.grid_gen.proofs.Ranges.{grown_by_line}
use Rattle.grid_gen.proofs.bias.append_pads.Goals as goal

pub loop-k-preserved : goal.loop-k-preserved
loop-k-preserved c =
    grown_by_line (λ (k : ℕ). pads_at c.args.net.now (14 * c.args.side) (c.args.first + 400 * k)) c.args.out.now.items _ _ c.loop-k.k
    c.loop-k.invariant c.in_ok-append_pads_at.ensures
