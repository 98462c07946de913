use Rattle.std.proofs.Common.{◌≡◌, ◌≤◌, All, Some, length, take, map}
use Rattle.outside.specs.Files.{Holdings, bytes_in}
use Rattle.input_files.specs.Inputs.{names_of, EachFits}
use Rattle.input_files.proofs.reading.read_each.Given as goal

-- The inputs before this place were read, and no call failed.
abbrev pub invariant-loop-place : goal.invariant-loop-place
invariant-loop-place g l = record {
  count : length l.texts.items ≡ l.place;
  fit : All (λ text. length text ≤ l.limit) l.texts.items;
  texts : (held : Holdings) → g.F.Files.known l.initial.files ≡ Some held → l.texts.items ≡ map (bytes_in held) (take l.place (names_of l.names));
  earlier : (held : Holdings) → g.F.Files.known l.initial.files ≡ Some held → EachFits held l.limit (take l.place (names_of l.names));
  kept : g.F.Files.known l.files ≡ g.F.Files.known l.initial.files;
  calm : g.F.Files.counts l.files ≡ g.F.Files.counts l.initial.files;
}
