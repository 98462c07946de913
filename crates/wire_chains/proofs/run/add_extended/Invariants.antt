use Rattle.std.proofs.Common.{◌≡◌, ◌∷◌, [], ◌++◌, map, take}
use Rattle.wire_chains.specs.declared.via.ViaAt.{ViaAt}
use Rattle.wire_chains.proofs.run.add_extended.Given as goal

abbrev pub invariant-loop-via : goal.invariant-loop-via
invariant-loop-via l = l.more.items ≡ l.initial.more.items ++ map (λ (via : ViaAt). l.chain ++ via ∷ []) (take l.via-index l.level)
