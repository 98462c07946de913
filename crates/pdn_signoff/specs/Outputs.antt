-- Several outputs that are written one after the other, and the answer where one of them was not.
use Rattle.std.specs.Prelude.{◌≡◌, ◌<◌, ◌⊎◌, ℕ, length}
use Rattle.outside.specs.Known.{WhereKnown}
use Rattle.answers.specs.declared.answer.Answer.{Answer}
use Rattle.answers.specs.declared.answer.Answer.TheVariants.{Want, WriteFault}
use Rattle.output_files.specs.Outputs.{Texts, text_at, HoldEach, StopAt}
use Rattle.pdn_signoff.specs.Check.{FilesThen}
use Rattle.pdn_signoff.specs.Solve.{WriteFailed}

-- Each output holds its text, and all other files stay, where it is known what the files hold.
abbrev pub AreWritten : FilesThen → FilesThen → Texts → Type 0
AreWritten before after all = WhereKnown (HoldEach all) before.known after.known

-- The writing stopped at the output of a place: those before it hold their texts, it was not made or holds the first of
-- its text, and all other files stay, where it is known what the files hold.
abbrev pub StopsAt : FilesThen → FilesThen → Texts → ℕ → Type 0
StopsAt before after all place = (place < length all) × WhereKnown (StopAt all place) before.known after.known

-- The writing stopped at an output, for want of memory or since a write of it failed, and the answer tells which.
abbrev pub Stops : FilesThen → FilesThen → Texts → Answer → Type 0
Stops before after all answer =
    (place : ℕ) × StopsAt before after all place
    × ((answer ≡ Want)
    ⊎ ((answer ≡ WriteFault (text_at all place).0) × WriteFailed before after (text_at all place).0))
