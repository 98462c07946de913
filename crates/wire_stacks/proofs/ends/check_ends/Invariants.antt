use Rattle.std.proofs.Common.{◌≡◌, ◌<◌, ℕ, slice_get, Some}
use Rattle.wire_stacks.specs.declared.made.Made.{Made}
use Rattle.wire_stacks.specs.Stacks.{HasEnds}
use Rattle.wire_stacks.proofs.ends.check_ends.Given as goal

abbrev pub invariant-loop-one : goal.invariant-loop-one
invariant-loop-one l = (k : ℕ) (other : Made) → k < l.one-index → slice_get l.made k ≡ Some other → HasEnds l.lines other.at
