use Rattle.std.proofs.Common.{◌≡◌, ◌++◌}
use Rattle.std.specs.List.{flat_map, range_with_len}
use Rattle.grid_gen.specs.Design.{component_line, state_after}
use Rattle.grid_gen.proofs.design.append_components.Given as goal

abbrev pub invariant-loop-k : goal.invariant-loop-k
invariant-loop-k l = record {
  written : l.out.items ≡ l.initial.out.items ++ flat_map (component_line l.number l.side) (range_with_len 0 l.k);
  stepped : l.state ≡ state_after l.number l.k;
}
