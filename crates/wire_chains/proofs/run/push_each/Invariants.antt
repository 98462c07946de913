use Rattle.std.proofs.Common.{◌≡◌, ◌∷◌, [], ◌++◌, List, map, take, drop}
use Rattle.wire_chains.specs.declared.via.ViaAt.{ViaAt}
use Rattle.wire_chains.proofs.run.push_each.Given as goal

abbrev pub invariant-loop-chain : goal.invariant-loop-chain
invariant-loop-chain l = l.paths ≡ map (λ (chain : List ViaAt). chain ++ l.via ∷ []) (take l.chain-index l.initial.paths) ++ drop l.chain-index l.initial.paths
