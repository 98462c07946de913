-- Outputs that are written one after the other. Names and texts are lists of bytes.
use Rattle.std.specs.Prelude.{◌≡◌, ◌⊎◌, ℕ, List, [], ◌∷◌, ◌++◌, map, take, All, Contains, Option, Some, OnSome, slice_index_or}
use Rattle.outside.specs.Counts.{FaultCounts, ChangesWrites, Rose}
use Rattle.outside.specs.Files.{Holdings}
use Rattle.outside.specs.declared.whole.WriteError.TheVariants.{WriteFault}
use Rattle.output_files.specs.declared.output.Output.{Output}
use Rattle.output_files.specs.declared.output.Unwritten.{Unwritten}

-- Names of files, each with a text.
abbrev pub Texts : Type 0
Texts = List (List ℕ × List ℕ)

abbrev pub texts : List Output → Texts
texts outputs = map (λ (o : Output). (o.file.now, o.text.now)) outputs

abbrev pub names : Texts → List (List ℕ)
names all = map (λ (t : List ℕ × List ℕ). t.0) all

-- The text at a place.
abbrev pub text_at : Texts → ℕ → List ℕ × List ℕ
text_at all place = slice_index_or all place ([], [])

-- Each of these files holds its text, and all other files stay.
pub record HoldEach (all : Texts) (old new : Holdings) : Type 0 where
  pub each : All (λ (t : List ℕ × List ℕ). new t.0 ≡ Some t.1) all
  pub others : (name : List ℕ) → ¬ Contains (names all) name → new name ≡ old name

-- The writing stopped at a place: the files before it hold their texts; the one at it was not made, or holds the first of
-- its text, perhaps none or all; and all other files stay.
abbrev pub StopAt : Texts → ℕ → Holdings → Holdings → Type 0
StopAt all place old new =
    HoldEach (take place all) old new
    ⊎ ((n : ℕ) × HoldEach (take place all ++ ((text_at all place).0, take n (text_at all place).1) ∷ []) old new)

-- A write of the file failed between two moments: the count of faults rose and, where it is known what the files hold,
-- that of the failed writes of this file too; no other count by name changed.
pub record WriteFails (known : Option Holdings) (file : List ℕ) (before after : FaultCounts) : Type 0 where
  pub fault : Rose before.faults after.faults
  pub failed_write : OnSome known (Rose (before.writes file) (after.writes file))
  pub only : ChangesWrites file before after

-- An output was not written for a fault of writing, where it was for one.
abbrev pub FailsAt : Texts → Unwritten → Option Holdings → FaultCounts → FaultCounts → Type 0
FailsAt all e known before after = e.error ≡ WriteFault → WriteFails known (text_at all e.place).0 before after
