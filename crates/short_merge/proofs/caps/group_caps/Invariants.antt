use Rattle.std.proofs.Common.{◌≡◌, ◌++◌, map, take, drop}
use Rattle.short_merge.specs.Merged.{merged_cap}
use Rattle.short_merge.proofs.caps.group_caps.Given as goal

-- Those before the index are given by groups, and the others are as they were.
abbrev pub invariant-loop-cap : goal.invariant-loop-cap
invariant-loop-cap l = l.caps ≡ map (merged_cap l.group) (take l.cap-index l.initial.caps) ++ drop l.cap-index l.initial.caps
