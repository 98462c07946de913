-- How the text of a certificate is judged for a network of groups that stands, and the answer to a merge.
use Rattle.std.specs.Prelude.{◌≡◌, ◌⊎◌, ℕ, List, Ok, Err}
use Rattle.certificate_file.specs.declared.lists.Lists.{Lists}
use Rattle.certificate_file.specs.declared.error.CertKind.{CertKind}
use Rattle.certificate_file.specs.Format.{ReadsCertificate}
use Rattle.reading.specs.declared.error.ReadError.{ReadError}
use Rattle.short_merge.specs.declared.merged.Merged.{Merged}
use Rattle.short_merge.specs.declared.merged.MergeError.{MergeError}
use Rattle.short_merge.specs.declared.merged.MergeError.TheVariants as merging
use Rattle.answers.specs.declared.answer.Answer.{Answer}
use Rattle.answers.specs.declared.answer.Answer.TheVariants.{Want, PadConflict}
use Rattle.judging.specs.Texts.{IsVerdict}
use Rattle.judging.specs.Judging.{certificate_answer}

-- The certificate is refused, or it was tested; or memory ran out.
abbrev pub JudgesLists : List ℕ → Merged → List ℕ → Answer → Type 0
JudgesLists file merged text answer =
    (answer ≡ Want)
    ⊎ (((error : ReadError CertKind) × ReadsCertificate merged.names text (Err error)
    × (answer ≡ certificate_answer file error.place error.kind))
    ⊎ ((lists : Lists) × ReadsCertificate merged.names text (Ok lists) × IsVerdict merged lists answer))

-- The answer to a merge that is refused.
abbrev pub merge_answer : MergeError → Answer
merge_answer (merging.PadConflict node first second) = PadConflict node first second
merge_answer merging.Want = Want
