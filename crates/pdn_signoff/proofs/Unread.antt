-- A certificate that was not read, after the netlist was.
use Rattle.std.proofs.Common.{◌≡◌, ◌<◌, ◌≤◌, inr, ℕ, List, Option, Some, None, IfSome, OnSome, length, refl, ◌∙◌, ap, subst}
use Rattle.outside.specs.Counts.{FaultCounts, ChangesReads, Rose}
use Rattle.outside.specs.Files.{Holdings, bytes_in}
use Rattle.outside.specs.Whole.{longest_text}
use Rattle.outside.specs.declared.whole.ReadError.{ReadError}
use Rattle.outside.specs.declared.whole.ReadError.TheVariants as reading
use Rattle.answers.specs.declared.answer.Answer.{Answer}
use Rattle.answers.specs.declared.answer.Answer.TheVariants.{Usage, Want, ReadFault, WriteFault, TooLong, Refused, NoGrid, Range, TooManySteps, PadConflict, FloatingCapacitor, Unsupplied, Built, SignedOff, Generated, Solved, Stepped, Certified, NotCertified}
use Rattle.judging.specs.Judging.{Judges}
use Rattle.judging.specs.Stage.{IsToTexts}
use Rattle.pdn_signoff.specs.Check.{FilesThen, NoneFailed, AreTexts, Fits, Answers}
use Rattle.pdn_signoff.specs.inside.Check.{unread_answer}

-- What is known does not change, and no call failed before the certificate was read.
module _ (before mid after : FilesThen) (n c : List ℕ) (known : mid.known ≡ before.known) (quiet : mid.counts ≡ before.counts) (fits : Fits before.known n) where
  pub certificate_unread : (error : ReadError)
      → (error ≡ reading.ReadFault → Rose mid.counts.faults after.counts.faults)
      → (error ≡ reading.ReadFault → OnSome mid.known (Rose (mid.counts.reads c) (after.counts.reads c)))
      → ChangesReads c mid.counts after.counts
      → (error ≡ reading.TooLong → IfSome mid.known (λ held. longest_text < length (bytes_in held c)))
      → (error ≡ reading.TooLong → after.counts ≡ mid.counts)
      → Answers before after n c (unread_answer error c)
  certificate_unread reading.ReadFault fault fault_of_name only long calm = inr (
    refl,
    record { fits = fits; no_fault = λ apart. only.reads n apart ∙ ap (λ (k : FaultCounts). k.reads n) quiet },
    record {
      fault = subst (λ (k : FaultCounts). Rose k.faults after.counts.faults) quiet (fault refl);
      failed_read =
          subst (λ (k : FaultCounts). OnSome before.known (Rose (k.reads c) (after.counts.reads c))) quiet
          (subst (λ (o : Option Holdings). OnSome o (Rose (mid.counts.reads c) (after.counts.reads c))) known (fault_of_name refl));
    },
  )
  certificate_unread reading.TooLong fault fault_of_name only long calm = (
    calm refl ∙ quiet,
    inr (refl, fits, subst (λ (o : Option Holdings). IfSome o (λ held. longest_text < length (bytes_in held c))) known (long refl)),
  )
  certificate_unread reading.Want fault fault_of_name only long calm = tt

-- A file that was read is not too long.
pub fits_read : (known : Option Holdings) (file text : List ℕ) → IfSome known (λ held. text ≡ bytes_in held file) → length text ≤ longest_text → Fits known file
fits_read None file text is short = tt
fits_read (Some held) file text is short = subst (λ (t : List ℕ). length t ≤ longest_text) is short

-- An answer to two texts that were read without a fault.
abbrev pub HaveSort : Type 0
HaveSort = (n c nt ct : List ℕ) (a : Answer) → Judges n c nt ct a → IsToTexts a

pub judged_files : HaveSort → (before after : FilesThen) (n c nt ct : List ℕ) (a : Answer) → NoneFailed before after → AreTexts before.known n c nt ct → Judges n c nt ct a → Answers before after n c a
judged_files sort before after n c nt ct Usage calm texts judged = sort n c nt ct Usage judged
judged_files sort before after n c nt ct Want calm texts judged = tt
judged_files sort before after n c nt ct (ReadFault file) calm texts judged = absurd (sort n c nt ct (ReadFault file) judged)
judged_files sort before after n c nt ct (WriteFault file) calm texts judged = sort n c nt ct (WriteFault file) judged
judged_files sort before after n c nt ct (TooLong file) calm texts judged = absurd (sort n c nt ct (TooLong file) judged)
judged_files sort before after n c nt ct (Refused file place kind) calm texts judged = (calm, (nt, ct, texts, judged))
judged_files sort before after n c nt ct (NoGrid refusal) calm texts judged = sort n c nt ct (NoGrid refusal) judged
judged_files sort before after n c nt ct (Range quantity at number) calm texts judged = (calm, (nt, ct, texts, judged))
judged_files sort before after n c nt ct (PadConflict node first second) calm texts judged = (calm, (nt, ct, texts, judged))
judged_files sort before after n c nt ct (Unsupplied node) calm texts judged = sort n c nt ct (Unsupplied node) judged
judged_files sort before after n c nt ct (Built built) calm texts judged = sort n c nt ct (Built built) judged
judged_files sort before after n c nt ct Generated calm texts judged = sort n c nt ct Generated judged
judged_files sort before after n c nt ct (FloatingCapacitor node) calm texts judged = sort n c nt ct (FloatingCapacitor node) judged
judged_files sort before after n c nt ct (TooManySteps number) calm texts judged = sort n c nt ct (TooManySteps number) judged
judged_files sort before after n c nt ct (Stepped nodes steps) calm texts judged = sort n c nt ct (Stepped nodes steps) judged
judged_files sort before after n c nt ct (SignedOff numbers) calm texts judged = sort n c nt ct (SignedOff numbers) judged
judged_files sort before after n c nt ct (Solved nodes resistors sweeps) calm texts judged = sort n c nt ct (Solved nodes resistors sweeps) judged
judged_files sort before after n c nt ct (Certified nodes) calm texts judged = (calm, (nt, ct, texts, judged))
judged_files sort before after n c nt ct (NotCertified node side found) calm texts judged = (calm, (nt, ct, texts, judged))
