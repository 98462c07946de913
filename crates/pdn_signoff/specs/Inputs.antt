-- Several inputs that are read one after the other, and the first of them that was not read.
use Rattle.std.specs.Prelude.{◌≡◌, ◌<◌, ℕ, List, Option, IfSome, length, take}
use Rattle.outside.specs.Counts.{ChangesReads}
use Rattle.outside.specs.Files.{Holdings}
use Rattle.outside.specs.Whole.{longest_text}
use Rattle.input_files.specs.Inputs.{name_at, EachFits}
use Rattle.pdn_signoff.specs.Check.{FilesThen, ReadFailed}

-- The file of a place is the first of these files that was not read: each before it has at most as many bytes as an input may
-- have.
pub record IsFirstUnread (known : Option Holdings) (files : List (List ℕ)) (file : List ℕ) (place : ℕ) : Type 0 where
  pub below : place < length files
  pub is : file ≡ name_at files place
  pub earlier : IfSome known (λ held. EachFits held longest_text (take place files))

-- A read of the file failed between two moments, and of no file of another name.
pub record FailsToRead (before after : FilesThen) (file : List ℕ) : Type 0 where
  pub failed : ReadFailed before after file
  pub only : ChangesReads file before.counts after.counts
