-- Each half of a list with more than one entry is shorter.
use Rattle.std.proofs.Common.{length}
use Rattle.rect_index.proofs.tree.+build.Given as goal

abbrev pub decreases-build : goal.decreases-build
decreases-build g l = length l.entries.now
