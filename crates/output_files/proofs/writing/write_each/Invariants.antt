use Rattle.std.proofs.Common.{◌≡◌, take}
use Rattle.outside.specs.Known.{WhereKnown}
use Rattle.output_files.specs.Outputs.{texts, HoldEach}
use Rattle.output_files.proofs.writing.write_each.Given as goal

-- The outputs before this place are written, and no call failed.
abbrev pub invariant-loop-place : goal.invariant-loop-place
invariant-loop-place g l = record {
  written : WhereKnown (HoldEach (take l.place (texts l.outputs))) (g.F.Files.known l.initial.files) (g.F.Files.known l.files);
  calm : g.F.Files.counts l.files ≡ g.F.Files.counts l.initial.files;
}
