-- Two outputs that are written one after the other.
use Rattle.std.proofs.Common.{◌≡◌, ◌≢◌, ◌⊎◌, inl, inr, ℕ, List, Option, Some, None, OnSome, take, refl, sym, subst, ◌∙◌}
use Rattle.outside.specs.Counts.{FaultCounts, ChangesWrites, Rose}
use Rattle.outside.specs.Files.{Holdings, HoldsAll, HoldsFirst}
use Rattle.outside.specs.Known.{WhereKnown}
use Rattle.outside.specs.declared.whole.WriteError.{WriteError}
use Rattle.outside.specs.declared.whole.WriteError.TheVariants as writing
use Rattle.answers.specs.declared.answer.Answer.{Answer}
use Rattle.answers.specs.declared.answer.Answer.TheVariants.{Want, Solved}
use Rattle.solving.specs.declared.signed.Signed.{Signed}
use Rattle.pdn_signoff.specs.Check.{FilesThen}
use Rattle.pdn_signoff.specs.Solve.{WriteFailed, HoldsBoth, HoldsFirstOfReport, StandsAtCertificate}
use Rattle.pdn_signoff.specs.inside.Solve.{Writes, unwritten_answer}

-- What two writes leave.
module _ (c r ct rt : List ℕ) (apart : c ≢ r) where
  both : (text : List ℕ) (x y z : Holdings) → HoldsAll c ct x y → HoldsAll r text y z → HoldsBoth c r ct text x z
  both text x y z first second = record {
    certificate_holds = second.others c apart ∙ first.named;
    report_holds = second.named;
    others = λ other not_c not_r. second.others other not_r ∙ first.others other not_c;
  }

  part : (x y z : Holdings) → HoldsAll c ct x y → HoldsFirst r rt y z → HoldsFirstOfReport c r ct rt x z
  part x y z first (inl same) = inl (subst (λ (h : Holdings). HoldsAll c ct x h) (sym same) first)
  part x y z first (inr (n, second)) = inr (n, both (take n rt) x y z first second)

  pub both_known : (k l m : Option Holdings) → WhereKnown (HoldsAll c ct) k l → WhereKnown (HoldsAll r rt) l m → WhereKnown (HoldsBoth c r ct rt) k m
  both_known None None None first second = tt
  both_known None None (Some z) first second = second
  both_known None (Some y) m first second = absurd first
  both_known (Some x) None m first second = absurd first
  both_known (Some x) (Some y) None first second = second
  both_known (Some x) (Some y) (Some z) first second = both rt x y z first second

  pub part_known : (k l m : Option Holdings) → WhereKnown (HoldsAll c ct) k l → WhereKnown (HoldsFirst r rt) l m → WhereKnown (HoldsFirstOfReport c r ct rt) k m
  part_known None None None first second = tt
  part_known None None (Some z) first second = second
  part_known None (Some y) m first second = absurd first
  part_known (Some x) None m first second = absurd first
  part_known (Some x) (Some y) None first second = second
  part_known (Some x) (Some y) (Some z) first second = part x y z first second

-- What is known after a write was known before.
known_before : (step : Holdings → Holdings → Type 0) (k l : Option Holdings) (P : Type 0) → WhereKnown step k l → OnSome l P → OnSome k P
known_before step None l P taken p = tt
known_before step (Some x) None P taken p = absurd taken
known_before step (Some x) (Some y) P taken p = p

-- The certificate was not written.
pub at_certificate : (before after : FilesThen) (c r : List ℕ) (signed : Signed) (e : WriteError) (answer : Answer) → (e ≡ writing.WriteFault → Rose before.counts.faults after.counts.faults) → (e ≡ writing.WriteFault → OnSome before.known (Rose (before.counts.writes c) (after.counts.writes c)))
    → ChangesWrites c before.counts after.counts → StandsAtCertificate before after c signed → ((answer ≡ Want) ⊎ (answer ≡ unwritten_answer e c)) → Writes before after c r signed answer
at_certificate before after c r signed e answer fault of_name only stands (inl want) = inr (inr (inl (want, inl stands)))
at_certificate before after c r signed writing.WriteFault answer fault of_name only stands (inr told) = inl (told, record { fault = fault refl; failed_write = of_name refl; only = only }, stands)
at_certificate before after c r signed writing.Want answer fault of_name only stands (inr told) = inr (inr (inl (told, inl stands)))

-- The report was not written, after the certificate was.
module _ (before mid after : FilesThen) (c r : List ℕ) (signed : Signed) (apart : c ≢ r) (quiet : mid.counts ≡ before.counts) (first : WhereKnown (HoldsAll c signed.certificate) before.known mid.known) where
  failed : Rose mid.counts.faults after.counts.faults → OnSome mid.known (Rose (mid.counts.writes r) (after.counts.writes r)) → ChangesWrites r mid.counts after.counts → WriteFailed before after r
  failed fault of_name only = record {
    fault = subst (λ (k : FaultCounts). Rose k.faults after.counts.faults) quiet fault;
    failed_write = subst (λ (k : FaultCounts). OnSome before.known (Rose (k.writes r) (after.counts.writes r))) quiet (known_before (HoldsAll c signed.certificate) before.known mid.known (Rose (mid.counts.writes r) (after.counts.writes r)) first of_name);
    only = subst (λ (k : FaultCounts). ChangesWrites r k after.counts) quiet only;
  }

  pub at_report : (e : WriteError) (answer : Answer) → (e ≡ writing.WriteFault → Rose mid.counts.faults after.counts.faults) → (e ≡ writing.WriteFault → OnSome mid.known (Rose (mid.counts.writes r) (after.counts.writes r)))
      → ChangesWrites r mid.counts after.counts → WhereKnown (HoldsFirst r signed.report) mid.known after.known → ((answer ≡ Want) ⊎ (answer ≡ unwritten_answer e r)) → Writes before after c r signed answer
  at_report e answer fault of_name only second (inl want) = inr (inr (inl (want, inr (part_known c r signed.certificate signed.report apart before.known mid.known after.known first second))))
  at_report writing.WriteFault answer fault of_name only second (inr told) = inr (inl (told, failed (fault refl) (of_name refl) only, part_known c r signed.certificate signed.report apart before.known mid.known after.known first second))
  at_report writing.Want answer fault of_name only second (inr told) = inr (inr (inl (told, inr (part_known c r signed.certificate signed.report apart before.known mid.known after.known first second))))

  -- Both are whole.
  pub at_end : (answer : Answer) → answer ≡ Solved signed.nodes signed.resistors signed.sweeps → after.counts ≡ mid.counts → WhereKnown (HoldsAll r signed.report) mid.known after.known → Writes before after c r signed answer
  at_end answer told calm second = inr (inr (inr (told, calm ∙ quiet, both_known c r signed.certificate signed.report apart before.known mid.known after.known first second)))
