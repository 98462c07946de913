use Rattle.std.proofs.Common.{◌≡◌, map, take}
use Rattle.pin_taps.specs.inside.Tables.{stack_entry}
use Rattle.pin_taps.proofs.ends.ends_of.Given as goal

abbrev pub invariant-loop-stack : goal.invariant-loop-stack
invariant-loop-stack l = l.entries.items ≡ map stack_entry (take l.stack-index l.stacks)
