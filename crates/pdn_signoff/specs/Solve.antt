-- What `solve` answers, and what has to be so where it gives each answer.
use Rattle.std.specs.Prelude.{◌≡◌, ◌≢◌, ◌≤◌, ◌⊎◌, ℕ, ℤ, List, Option, Some, IfSome, length, take}
use Rattle.outside.specs.Counts.{Rose, ChangesWrites}
use Rattle.outside.specs.Files.{Holdings, HoldsAll, HoldsFirst}
use Rattle.outside.specs.Known.{WhereKnown}
use Rattle.outside.specs.Whole.{longest_text}
use Rattle.answers.specs.declared.answer.Answer.{Answer}
use Rattle.answers.specs.declared.answer.Answer.TheVariants.{Usage, Want, ReadFault, WriteFault, TooLong, Refused, NoGrid, Range, TooManySteps, PadConflict, FloatingCapacitor, Unsupplied, Built, SignedOff, Generated, Solved, Stepped, Certified, NotCertified}
use Rattle.bound_check.specs.Certified.{Certificate}
use Rattle.short_merge.specs.declared.merged.Merged.{Merged}
use Rattle.solving.specs.declared.signed.Signed.{Signed}
use Rattle.solving.specs.Signed.{Signs, LieWithinReport, PassesCheck}
use Rattle.solving.specs.Refusal.{IsUnsigned}
use Rattle.spice_grid.specs.declared.named.Named.{Named}
use Rattle.pdn_signoff.specs.Check.{FilesThen, NoneFailed, ReadFailed, IsTextOf, IsTooLong}

-- What is known of a solver at a moment: the two lists that it tells, if it tells them, and how many proposals it was
-- asked for.
pub record SolverThen : Type 0 where
  pub told : Option (List ℤ × List ℤ)
  pub proposals : ℕ

-- What the files hold stays, as far as it is known.
abbrev pub IsKept : FilesThen → FilesThen → Type 0
IsKept before after = after.known ≡ before.known

-- A write of the file failed between two moments: the count of faults rose and, where it is known what the files hold,
-- that of the failed writes of this file too; no other count by name changed.
pub record WriteFailed (before after : FilesThen) (file : List ℕ) : Type 0 where
  pub fault : Rose before.counts.faults after.counts.faults
  pub failed_write : IfSome before.known (λ held. Rose (before.counts.writes file) (after.counts.writes file))
  pub only : ChangesWrites file before.counts after.counts

-- The two outputs hold these texts, and all other files stay.
pub record HoldsBoth (certificate report certificate_text report_text : List ℕ) (old new : Holdings) : Type 0 where
  pub certificate_holds : new certificate ≡ Some certificate_text
  pub report_holds : new report ≡ Some report_text
  pub others : (other : List ℕ) → other ≢ certificate → other ≢ report → new other ≡ old other

-- The certificate is whole, and the report was not made or holds the first of its text; all other files stay.
abbrev pub HoldsFirstOfReport : (certificate report certificate_text report_text : List ℕ) → Holdings → Holdings → Type 0
HoldsFirstOfReport certificate report certificate_text report_text old new =
    HoldsAll certificate certificate_text old new
    ⊎ ((n : ℕ) × HoldsBoth certificate report certificate_text (take n report_text) old new)

-- The text of the file, which has at most as many bytes as an input may have, is signed off so; every solution of the
-- netlist lies within the intervals that its report prints; and who checks the certificate finds that it holds.
pub record SignsFile (told : Option (List ℤ × List ℤ)) (known : Option Holdings) (netlist : List ℕ) (signed : Signed)
    : Type 0 where
  pub text : List ℕ
  pub text_is : IsTextOf known netlist text
  pub fits : length text ≤ longest_text
  pub named : Named
  pub merged : Merged
  pub certificate : Certificate
  pub signs : Signs told text named merged certificate signed
  pub within : LieWithinReport named merged certificate
  pub checked : PassesCheck merged signed

-- The file was read without a fault, and its text is refused so; no file was written.
abbrev pub RefusesFile : FilesThen → FilesThen → (netlist : List ℕ) → Answer → Type 0
RefusesFile before after netlist answer =
    IsKept before after × NoneFailed before after
    × ((text : List ℕ) × IsTextOf before.known netlist text × (length text ≤ longest_text)
    × IsUnsigned netlist text answer)

-- The numbers on the line are those of what was signed off.
pub record AreNumbersOf (signed : Signed) (nodes resistors sweeps : ℕ) : Type 0 where
  pub nodes_are : nodes ≡ signed.nodes
  pub resistors_are : resistors ≡ signed.resistors
  pub sweeps_are : sweeps ≡ signed.sweeps

-- How far the outputs were written: the certificate not whole, or the certificate whole and the report perhaps not.
abbrev pub StandsAtCertificate : FilesThen → FilesThen → List ℕ → Signed → Type 0
StandsAtCertificate before after certificate signed =
    WhereKnown (HoldsFirst certificate signed.certificate) before.known after.known

abbrev pub StandsAtReport : FilesThen → FilesThen → (certificate report : List ℕ) → Signed → Type 0
StandsAtReport before after certificate report signed =
    WhereKnown (HoldsFirstOfReport certificate report signed.certificate signed.report) before.known after.known

-- Why `solve` over a netlist and two outputs gives an answer: each answer with what has to be so, and with what the
-- files hold then. The netlist is read and its text signed off, and then the certificate and the report are written; what
-- comes later is answered only where nothing earlier is refused. Where it is solved, the solver was asked.
abbrev pub Solves : SolverThen → SolverThen → FilesThen → FilesThen → (netlist certificate report : List ℕ) → Answer
    → Type 0
Solves solver solver' before after netlist certificate report (ReadFault file) =
    (file ≡ netlist) × IsKept before after × ReadFailed before after netlist
Solves solver solver' before after netlist certificate report (TooLong file) =
    (file ≡ netlist) × IsKept before after × NoneFailed before after × IsTooLong before.known netlist
Solves solver solver' before after netlist certificate report (Refused file place kind) =
    RefusesFile before after netlist (Refused file place kind)
Solves solver solver' before after netlist certificate report (NoGrid refusal) = ⊥
Solves solver solver' before after netlist certificate report (Range quantity at number) =
    RefusesFile before after netlist (Range quantity at number)
Solves solver solver' before after netlist certificate report (PadConflict node first second) =
    RefusesFile before after netlist (PadConflict node first second)
Solves solver solver' before after netlist certificate report (Unsupplied node) =
    RefusesFile before after netlist (Unsupplied node)
Solves solver solver' before after netlist certificate report (Built built) = ⊥
Solves solver solver' before after netlist certificate report Generated = ⊥
Solves solver solver' before after netlist certificate report (FloatingCapacitor node) = ⊥
Solves solver solver' before after netlist certificate report (TooManySteps number) = ⊥
Solves solver solver' before after netlist certificate report (Stepped nodes steps) = ⊥
Solves solver solver' before after netlist certificate report (SignedOff numbers) = ⊥
Solves solver solver' before after netlist certificate report (WriteFault file) =
    (signed : Signed) × SignsFile solver.told before.known netlist signed
    × (((file ≡ certificate) × WriteFailed before after certificate × StandsAtCertificate before after certificate signed)
    ⊎ ((file ≡ report) × WriteFailed before after report × StandsAtReport before after certificate report signed))
Solves solver solver' before after netlist certificate report (Solved nodes resistors sweeps) =
    (signed : Signed) × SignsFile solver.told before.known netlist signed
    × NoneFailed before after × AreNumbersOf signed nodes resistors sweeps × Rose solver.proposals solver'.proposals
    × WhereKnown (HoldsBoth certificate report signed.certificate signed.report) before.known after.known
Solves solver solver' before after netlist certificate report Want =
    IsKept before after
    ⊎ ((signed : Signed) × SignsFile solver.told before.known netlist signed
    × (StandsAtCertificate before after certificate signed ⊎ StandsAtReport before after certificate report signed))
Solves solver solver' before after netlist certificate report Usage = ⊥
Solves solver solver' before after netlist certificate report (Certified nodes) = ⊥
Solves solver solver' before after netlist certificate report (NotCertified node side found) = ⊥
