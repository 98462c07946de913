use Rattle.std.proofs.Common.{length, ◌≡◌, ◌-◌, ◌≤◌}
use Rattle.outside.proofs.Writing.{Written}
use Rattle.outside.proofs.whole.write_whole.Given as goal

abbrev pub invariant-loop-added : goal.invariant-loop-added
invariant-loop-added g l = record {
  within : l.added ≤ length l.bytes;
  written : Written l.name l.bytes l.added (g.F.Files.known l.fn.files) (g.F.Files.known l.files);
  calm : g.F.Files.counts l.files ≡ g.F.Files.counts l.fn.files;
}

abbrev pub decreases-loop-added : goal.decreases-loop-added
decreases-loop-added g l = length l.bytes - l.added
