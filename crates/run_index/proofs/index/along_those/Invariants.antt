-- The runs of the entries before the next one are there.
use Rattle.std.proofs.Common.{◌≡◌, take, map, filter}
use Rattle.run_index.specs.Entry.{lies_across, along_of}
use Rattle.run_index.proofs.index.along_those.Given as goal

abbrev pub invariant-loop-entry : goal.invariant-loop-entry
invariant-loop-entry l = l.runs.items ≡ map along_of (filter (lies_across l.group l.window) (take l.entry-index l.near))
