-- How two outputs are written, and the answer to one that was not.
use Rattle.std.specs.Prelude.{◌≡◌, ◌⊎◌, ℕ, List}
use Rattle.outside.specs.Known.{WhereKnown}
use Rattle.outside.specs.declared.whole.WriteError.{WriteError}
use Rattle.outside.specs.declared.whole.WriteError.TheVariants as writing
use Rattle.answers.specs.declared.answer.Answer.{Answer}
use Rattle.answers.specs.declared.answer.Answer.TheVariants.{Want, WriteFault, Solved}
use Rattle.solving.specs.declared.signed.Signed.{Signed}
use Rattle.pdn_signoff.specs.Check.{FilesThen, NoneFailed}
use Rattle.pdn_signoff.specs.Solve.{WriteFailed, HoldsBoth, StandsAtCertificate, StandsAtReport}

-- The answer to this error at this file.
abbrev pub unwritten_answer : WriteError → List ℕ → Answer
unwritten_answer writing.WriteFault file = WriteFault file
unwritten_answer writing.Want file = Want

-- The writing of the two texts comes to this answer: one of them could not be written, memory ran out, or both are whole.
abbrev pub Writes : FilesThen → FilesThen → (certificate report : List ℕ) → Signed → Answer → Type 0
Writes before after certificate report signed answer =
    ((answer ≡ WriteFault certificate) × WriteFailed before after certificate
    × StandsAtCertificate before after certificate signed)
    ⊎ (((answer ≡ WriteFault report) × WriteFailed before after report
    × StandsAtReport before after certificate report signed)
    ⊎ (((answer ≡ Want)
    × (StandsAtCertificate before after certificate signed ⊎ StandsAtReport before after certificate report signed))
    ⊎ ((answer ≡ Solved signed.nodes signed.resistors signed.sweeps) × NoneFailed before after
    × WhereKnown (HoldsBoth certificate report signed.certificate signed.report) before.known after.known)))
