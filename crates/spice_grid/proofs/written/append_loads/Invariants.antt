use Rattle.std.proofs.Common.{◌≡◌, ◌≤◌, ◌++◌, take, length, filter}
use Rattle.std.specs.List.{flat_map, enumerate_from}
use Rattle.spice_grid.specs.Written.{load_lines, draws}
use Rattle.spice_grid.proofs.written.append_loads.Given as goal

-- The loads of the nodes before this one are written, and counted.
abbrev pub invariant-loop-node : goal.invariant-loop-node
invariant-loop-node l =
    (l.out.items ≡ l.initial.out.items ++ flat_map (load_lines l.names) (enumerate_from 1 (filter (λ k. draws k.1) (enumerate_from 0 (take l.node l.net.loads)))))
    × (l.number ≡ length (filter (λ k. draws k.1) (enumerate_from 0 (take l.node l.net.loads))))
    × (l.number ≤ l.node)
