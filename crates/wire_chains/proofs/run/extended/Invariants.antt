use Rattle.std.proofs.Common.{◌≡◌, take}
use Rattle.wire_chains.specs.inside.Run.{gone_on}
use Rattle.wire_chains.proofs.run.extended.Given as goal

abbrev pub invariant-loop-chain : goal.invariant-loop-chain
invariant-loop-chain l = l.more.items ≡ gone_on l.level (take l.chain-index l.paths)
