-- What `check` answers, and what has to be so where it gives each answer.
use Rattle.std.specs.Prelude.{◌≡◌, ◌≢◌, ◌≤◌, ◌<◌, ◌⊎◌, ℕ, List, Option, IfSome, length}
use Rattle.outside.specs.Counts.{FaultCounts, Rose}
use Rattle.outside.specs.Files.{Holdings, bytes_in}
use Rattle.outside.specs.Whole.{longest_text}
use Rattle.answers.specs.declared.answer.Answer.{Answer}
use Rattle.answers.specs.declared.answer.Answer.TheVariants.{Usage, Want, ReadFault, WriteFault, TooLong, Refused, NoGrid, Range, TooManySteps, PadConflict, FloatingCapacitor, Unsupplied, Built, SignedOff, Generated, Solved, Stepped, Certified, NotCertified}
use Rattle.judging.specs.Judging.{Judges}

-- What is known of files at a moment: what they hold, if that is known, and the counts of the calls that failed.
pub record FilesThen : Type 0 where
  pub known : Option Holdings
  pub counts : FaultCounts

-- No call on the files failed between two moments: every count is as it was.
abbrev pub NoneFailed : FilesThen → FilesThen → Type 0
NoneFailed before after = after.counts ≡ before.counts

-- A read of the file failed between two moments: the count of faults rose and, where it is known what the files hold,
-- that of the failed reads of this file too.
pub record ReadFailed (before after : FilesThen) (file : List ℕ) : Type 0 where
  pub fault : Rose before.counts.faults after.counts.faults
  pub failed_read : IfSome before.known (λ held. Rose (before.counts.reads file) (after.counts.reads file))

-- The text is that of the file, where it is known what the files hold.
abbrev pub IsTextOf : Option Holdings → List ℕ → List ℕ → Type 0
IsTextOf known file text = IfSome known (λ held. text ≡ bytes_in held file)

-- The file has at most as many bytes as an input may have, where that is known.
abbrev pub Fits : Option Holdings → List ℕ → Type 0
Fits known file = IfSome known (λ held. length (bytes_in held file) ≤ longest_text)

-- The file has more bytes than an input may have, where that is known.
abbrev pub IsTooLong : Option Holdings → List ℕ → Type 0
IsTooLong known file = IfSome known (λ held. longest_text < length (bytes_in held file))

-- The file was read, before a later one was: it is not too long, and no read of it failed, unless the later one is the
-- same file.
pub record WasRead (before after : FilesThen) (file later : List ℕ) : Type 0 where
  pub fits : Fits before.known file
  pub no_fault : file ≢ later → after.counts.reads file ≡ before.counts.reads file

-- The texts of the two files, each of at most as many bytes as an input may have.
pub record AreTexts (known : Option Holdings) (netlist certificate netlist_text certificate_text : List ℕ)
    : Type 0 where
  pub netlist_is : IsTextOf known netlist netlist_text
  pub netlist_fits : length netlist_text ≤ longest_text
  pub certificate_is : IsTextOf known certificate certificate_text
  pub certificate_fits : length certificate_text ≤ longest_text

-- The two files were read without a fault, and their texts are judged so.
abbrev pub JudgesFiles : FilesThen → FilesThen → (netlist certificate : List ℕ) → Answer → Type 0
JudgesFiles before after netlist certificate answer =
    NoneFailed before after
    × ((netlist_text : List ℕ) × (certificate_text : List ℕ)
    × AreTexts before.known netlist certificate netlist_text certificate_text
    × Judges netlist certificate netlist_text certificate_text answer)

-- Why `check` over two files gives an answer: each answer with what has to be so. The netlist is read, then the
-- certificate, and then the texts are judged; what comes later is answered only where nothing earlier is refused.
abbrev pub Answers : FilesThen → FilesThen → (netlist certificate : List ℕ) → Answer → Type 0
Answers before after netlist certificate (ReadFault file) =
    ((file ≡ netlist) × ReadFailed before after netlist)
    ⊎ ((file ≡ certificate) × WasRead before after netlist certificate × ReadFailed before after certificate)
Answers before after netlist certificate (TooLong file) =
    NoneFailed before after
    × (((file ≡ netlist) × IsTooLong before.known netlist)
    ⊎ ((file ≡ certificate) × Fits before.known netlist × IsTooLong before.known certificate))
Answers before after netlist certificate (Refused file place kind) =
    JudgesFiles before after netlist certificate (Refused file place kind)
Answers before after netlist certificate (NoGrid refusal) = ⊥
Answers before after netlist certificate (Range quantity at number) =
    JudgesFiles before after netlist certificate (Range quantity at number)
Answers before after netlist certificate (PadConflict node first second) =
    JudgesFiles before after netlist certificate (PadConflict node first second)
Answers before after netlist certificate (Certified nodes) =
    JudgesFiles before after netlist certificate (Certified nodes)
Answers before after netlist certificate (NotCertified node side found) =
    JudgesFiles before after netlist certificate (NotCertified node side found)
Answers before after netlist certificate Want = Unit {0}
Answers before after netlist certificate Usage = ⊥
Answers before after netlist certificate (WriteFault file) = ⊥
Answers before after netlist certificate (Unsupplied node) = ⊥
Answers before after netlist certificate (Built built) = ⊥
Answers before after netlist certificate Generated = ⊥
Answers before after netlist certificate (FloatingCapacitor node) = ⊥
Answers before after netlist certificate (TooManySteps number) = ⊥
Answers before after netlist certificate (Stepped nodes steps) = ⊥
Answers before after netlist certificate (SignedOff numbers) = ⊥
Answers before after netlist certificate (Solved nodes resistors sweeps) = ⊥
