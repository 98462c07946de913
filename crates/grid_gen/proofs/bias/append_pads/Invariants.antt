use Rattle.std.proofs.Common.{◌≡◌, ℕ, ◌+◌, ◌*◌, ◌++◌}
use Rattle.std.specs.List.{flat_map, range_with_len}
use Rattle.grid_gen.specs.Bias.{pads_at}
use Rattle.grid_gen.proofs.bias.append_pads.Given as goal

abbrev pub invariant-loop-k : goal.invariant-loop-k
invariant-loop-k l =
    l.out.items ≡ l.initial.out.items ++ flat_map (λ (k : ℕ). pads_at l.net (14 * l.side) (l.first + 400 * k)) (range_with_len 0 l.k)
