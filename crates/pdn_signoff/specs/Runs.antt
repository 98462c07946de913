-- A command that reads several files, makes outputs of their texts, and then writes these one after the other: why it gives an
-- answer. What comes later is answered only where nothing earlier is refused.
use Rattle.std.specs.Prelude.{◌≡◌, ◌⊎◌, ℕ, List}
use Rattle.outside.specs.Counts.{Rose}
use Rattle.answers.specs.declared.answer.Answer.{Answer}
use Rattle.answers.specs.declared.answer.Answer.TheVariants.{Want, ReadFault, TooLong}
use Rattle.output_files.specs.Outputs.{Texts}
use Rattle.pdn_signoff.specs.Check.{FilesThen, NoneFailed, IsTooLong}
use Rattle.pdn_signoff.specs.Solve.{SolverThen, IsKept}
use Rattle.pdn_signoff.specs.Inputs.{IsFirstUnread, FailsToRead}
use Rattle.pdn_signoff.specs.Outputs.{AreWritten, Stops}

-- A read of the first of these files that was not read failed, and the answer tells which it is.
abbrev pub IsUnread : FilesThen → FilesThen → List (List ℕ) → Answer → Type 0
IsUnread before after files answer =
    (file : List ℕ) × (place : ℕ) × (answer ≡ ReadFault file) × IsFirstUnread before.known files file place
    × FailsToRead before after file

-- The first of these files that was not read is too long, and the answer tells which it is.
abbrev pub IsLongFile : FilesThen → FilesThen → List (List ℕ) → Answer → Type 0
IsLongFile before after files answer =
    (file : List ℕ) × (place : ℕ) × (answer ≡ TooLong file) × NoneFailed before after
    × IsFirstUnread before.known files file place × IsTooLong before.known file

-- How the writing of outputs ends, where this is the answer to all that are written: they are written; or memory ran out after
-- that; or the writing stopped before.
abbrev pub WritingEnds : FilesThen → FilesThen → Texts → (done answer : Answer) → Type 0
WritingEnds before after outputs done answer =
    ((answer ≡ done) × NoneFailed before after × AreWritten before after outputs)
    ⊎ (((answer ≡ Want) × AreWritten before after outputs)
    ⊎ Stops before after outputs answer)

-- Outputs are made of the texts of the files, for which the solver was asked, and their writing ends with this answer.
pub record MakesOutputs (Makes : Texts → Answer → Type 0) (solver solver' : SolverThen) (before after : FilesThen)
    (answer : Answer) : Type 0 where
  pub outputs : Texts
  pub done : Answer
  pub made : Makes outputs done
  pub asked : Rose solver.proposals solver'.proposals
  pub ends : WritingEnds before after outputs done answer

-- Why such a command over these files gives an answer: one of the files was not read; their texts are refused with it, and no file
-- was written; outputs are made of their texts, and were written or not; or memory ran out before.
abbrev pub RunsOver : List (List ℕ) → (Refuses : Answer → Type 0) → (Makes : Texts → Answer → Type 0) → SolverThen → SolverThen
    → FilesThen → FilesThen → Answer → Type 0
RunsOver files Refuses Makes solver solver' before after answer =
    (IsKept before after
    × (IsUnread before after files answer
    ⊎ (IsLongFile before after files answer
    ⊎ ((NoneFailed before after × Refuses answer)
    ⊎ (answer ≡ Want)))))
    ⊎ MakesOutputs Makes solver solver' before after answer
