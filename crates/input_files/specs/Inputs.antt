-- Inputs that are read one after the other. Names and texts are lists of bytes.
use Rattle.std.specs.Prelude.{◌≡◌, ◌≤◌, ◌<◌, ℕ, List, [], map, All, Option, IfSome, OnSome, length, slice_index_or}
use Rattle.std.specs.Borrow.{Bor}
use Rattle.outside.specs.Counts.{FaultCounts, ChangesReads, Rose}
use Rattle.outside.specs.Files.{Holdings, bytes_in}

abbrev pub names_of : List (Bor (List ℕ)) → List (List ℕ)
names_of names = map (λ name. name.now) names

-- The name at a place.
abbrev pub name_at : List (List ℕ) → ℕ → List ℕ
name_at names place = slice_index_or names place []

-- The texts are those of the files with these names, in their order.
abbrev pub AreTextsOf : Holdings → List (List ℕ) → List (List ℕ) → Type 0
AreTextsOf held names texts = texts ≡ map (bytes_in held) names

-- Each of these files has at most so many bytes.
abbrev pub EachFits : Holdings → ℕ → List (List ℕ) → Type 0
EachFits held limit names = All (λ name. length (bytes_in held name) ≤ limit) names

-- The file has more bytes, where that is known.
abbrev pub IsTooLong : Option Holdings → ℕ → List ℕ → Type 0
IsTooLong known limit file = IfSome known (λ held. limit < length (bytes_in held file))

-- A read of the file failed between two moments: the count of faults rose and, where it is known what the files hold,
-- that of the failed reads of this file too; no other count by name changed.
pub record ReadFails (known : Option Holdings) (file : List ℕ) (before after : FaultCounts) : Type 0 where
  pub fault : Rose before.faults after.faults
  pub failed_read : OnSome known (Rose (before.reads file) (after.reads file))
  pub only : ChangesReads file before after
