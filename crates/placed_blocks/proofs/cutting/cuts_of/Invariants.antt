use Rattle.std.proofs.Common.{◌≡◌, ℕ, map, take}
use Rattle.std.specs.List.{enumerate_from}
use Rattle.lef_tech.specs.declared.layer.RoutingLayer.{RoutingLayer}
use Rattle.placed_blocks.specs.Cuts.{grid_name, is_cut}
use Rattle.placed_blocks.proofs.cutting.cuts_of.Given as goal

abbrev pub invariant-loop-place : goal.invariant-loop-place
invariant-loop-place l = l.cuts.items ≡ map
    (λ (at : ℕ × RoutingLayer). is_cut l.script (grid_name l.script.grids l.grid) l.pins l.obstructions at.0 at.1.name)
    (enumerate_from 0 (take l.place l.tech.routing))
