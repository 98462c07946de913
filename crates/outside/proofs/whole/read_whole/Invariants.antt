use Rattle.std.proofs.Common.{◌+◌, ◌-◌, ◌≡◌, ◌≤◌, vec_len}
use Rattle.outside.proofs.Reading.{HasRead}
use Rattle.outside.proofs.whole.read_whole.Given as goal

abbrev pub invariant-loop-filled : goal.invariant-loop-filled
invariant-loop-filled g l = record {
  filled : l.filled ≤ vec_len l.bytes;
  within : vec_len l.bytes ≤ l.limit + 1;
  read : HasRead (g.F.Files.known l.initial.files) l.name l.filled l.bytes.items;
  kept : g.F.Files.known l.files ≡ g.F.Files.known l.initial.files;
  calm : g.F.Files.counts l.files ≡ g.F.Files.counts l.initial.files;
}

abbrev pub decreases-loop-filled : goal.decreases-loop-filled
decreases-loop-filled g l = l.limit + 1 - l.filled
