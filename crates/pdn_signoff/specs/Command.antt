-- What a run of the program comes to, and how it ends.
use Rattle.std.specs.Prelude.{◌≡◌, ◌≢◌, ◌≤◌, ◌⊎◌, ℕ, ℤ, List, Contains, Option, length}
use Rattle.outside.specs.Counts.{FaultCounts, Rose, last_count}
use Rattle.outside.specs.Files.{Holdings, bytes_in}
use Rattle.outside.specs.Known.{WhereKnown}
use Rattle.outside.specs.Sink.{Adds, AddsSome}
use Rattle.outside.specs.Whole.{longest_text}
use Rattle.answers.specs.declared.answer.Answer.{Answer}
use Rattle.answers.specs.declared.answer.Answer.TheVariants.{Usage, Want, Solved}
use Rattle.answers.specs.Answer.{line_of, status_of}
use Rattle.certificate_file.specs.declared.lists.Lists.{Lists}
use Rattle.grid_net.specs.Certificate.{IsCertificate}
use Rattle.bound_check.specs.Certified.{Certificate}
use Rattle.judging.specs.Texts.{HasNetwork, StandFor}
use Rattle.short_merge.specs.declared.merged.Merged.{Merged}
use Rattle.solving.specs.declared.signed.Signed.{Signed}
use Rattle.solving.specs.Signed.{Signs, LieWithinReport}
use Rattle.spice_grid.specs.declared.named.Named.{Named}
use Rattle.pdn_signoff.specs.Check.{FilesThen, NoneFailed, Answers}
use Rattle.pdn_signoff.specs.Solve.{SolverThen, IsKept, HoldsBoth, Solves}
use Rattle.pdn_signoff.specs.Generate.{Generates}
use Rattle.pdn_signoff.specs.Build.{Builds}
use Rattle.pdn_signoff.specs.Step.{StepsBy}
use Rattle.pdn_signoff.specs.Signoff.{SignsOff}
use Rattle.pdn_signoff.specs.Words.{IsCheck, IsSolve, IsGenerate, IsBuild, IsStep, IsSignoff, IsUsage}
use Rattle.pdn_signoff.specs.declared.build_files.BuildFiles.{BuildFiles}
use Rattle.pdn_signoff.specs.declared.design_files.DesignFiles.{DesignFiles}
use Rattle.pdn_signoff.specs.declared.signoff_files.SignoffFiles.{SignoffFiles}
use Rattle.pdn_signoff.specs.declared.step_files.StepFiles.{StepFiles}

-- What is known of a sink at a moment: the bytes written, if they are known, and the count of the calls that failed.
pub record SinkThen : Type 0 where
  pub known : Option (List ℕ)
  pub faults : ℕ

-- The cause of an answer, over the words and what is known of the solver and the files before and after the run. The words
-- come first. Where they are those of no command that writes files, what the files hold stays.
abbrev pub IsCause : List (List ℕ) → SolverThen → SolverThen → FilesThen → FilesThen → Answer → Type 0
IsCause words solver solver' before after answer =
    (IsKept before after × ((answer ≡ Want) ⊎ ((answer ≡ Usage) × IsUsage words × NoneFailed before after)))
    ⊎ (((netlist : List ℕ) × (certificate : List ℕ)
    × IsCheck words netlist certificate × IsKept before after × Answers before after netlist certificate answer)
    ⊎ (((netlist : List ℕ) × (certificate : List ℕ) × (report : List ℕ)
    × IsSolve words netlist certificate report × Solves solver solver' before after netlist certificate report answer)
    ⊎ (((number : ℕ) × (side : ℕ) × (files : DesignFiles)
    × IsGenerate words number side files × Generates before after number side files answer)
    ⊎ (((files : BuildFiles) × IsBuild words files × Builds solver solver' before after files answer)
    ⊎ (((files : StepFiles) × IsStep words files × StepsBy solver solver' before after files answer)
    ⊎ ((files : SignoffFiles) × IsSignoff words files × SignsOff solver solver' before after files answer))))))

-- None of the counts stands at its last value, where a count that stays counts as risen.
pub record CanRise (counts : FaultCounts) : Type 0 where
  pub faults : counts.faults ≢ last_count
  pub reads : (name : List ℕ) → counts.reads name ≢ last_count
  pub writes : (name : List ℕ) → counts.writes name ≢ last_count

-- How the printing of a line ends: with the status that goes with it, where no call on the sink failed; with 3, where
-- the line could not be written; or with 10, where memory ran out over it.
abbrev pub PrintEnds : ℕ → ℕ → List ℕ → SinkThen → SinkThen → Type 0
PrintEnds result status line before after =
    ((result ≡ status) × WhereKnown (Adds line) before.known after.known × (after.faults ≡ before.faults))
    ⊎ (((result ≡ 3) × Rose before.faults after.faults × WhereKnown (AddsSome line) before.known after.known)
    ⊎ ((result ≡ 10) × WhereKnown (AddsSome line) before.known after.known))

-- How a run ends that has come to an answer.
abbrev pub Ends : ℕ → SinkThen → SinkThen → Answer → Type 0
Ends result before after answer = PrintEnds result (status_of answer) (line_of answer) before after

-- The words are those of `check` over these two files, each of at most as many bytes as an input may have, and the
-- texts that are held stand for this netlist, the network of its groups and these lists.
pub record IsCheckOf (words : List (List ℕ)) (held : Holdings) (named : Named) (merged : Merged) (lists : Lists)
    : Type 0 where
  pub netlist : List ℕ
  pub certificate : List ℕ
  pub words_are : IsCheck words netlist certificate
  pub netlist_fits : length (bytes_in held netlist) ≤ longest_text
  pub certificate_fits : length (bytes_in held certificate) ≤ longest_text
  pub texts : StandFor (bytes_in held netlist) (bytes_in held certificate) named merged lists

-- The two texts are there, and the certificate holds on the merged network of the netlist.
abbrev pub HasCertificate : List (List ℕ) → Holdings → Type 0
HasCertificate words held =
    (named : Named) × (merged : Merged) × (lists : Lists)
    × IsCheckOf words held named merged lists × IsCertificate merged.net lists.high lists.low

-- The words are those of `solve` over a netlist, which has at most as many bytes as an input may have, and its text that
-- is held stands for this netlist and the network of its groups.
pub record IsSolveOf (words : List (List ℕ)) (held : Holdings) (named : Named) (merged : Merged) : Type 0 where
  pub netlist : List ℕ
  pub certificate : List ℕ
  pub report : List ℕ
  pub words_are : IsSolve words netlist certificate report
  pub netlist_fits : length (bytes_in held netlist) ≤ longest_text
  pub network : HasNetwork (bytes_in held netlist) named merged

-- What a solved netlist leaves: the certificate and the report hold the texts of a tight certificate of the network of
-- its groups, every solution of the netlist as it was written lies within the intervals that the report prints, and all
-- other files stay.
pub record LeavesSigned (told : Option (List ℤ × List ℤ)) (netlist certificate report : List ℕ) (old new : Holdings)
    : Type 0 where
  pub signed : Signed
  pub named : Named
  pub merged : Merged
  pub bounds : Certificate
  pub signs : Signs told (bytes_in old netlist) named merged bounds signed
  pub within : LieWithinReport named merged bounds
  pub files : HoldsBoth certificate report signed.certificate signed.report old new

-- Two files pass `check` as they are held: whatever words of `check` name them, their texts are there, and the certificate
-- holds on the merged network of the netlist. So `check` ends with 0, where no call fails and memory lasts.
abbrev pub AreAcceptedFiles : (netlist certificate : List ℕ) → Holdings → Type 0
AreAcceptedFiles netlist certificate held =
    (words : List (List ℕ)) → IsCheck words netlist certificate → HasCertificate words held

-- What a solved netlist leaves passes `check`. It is asked where the certificate has at most as many bytes as an input may
-- have; the netlist, which was read, has.
abbrev pub LeavesAccepted : (netlist certificate : List ℕ) → Holdings → Holdings → Type 0
LeavesAccepted netlist certificate old new =
    length (bytes_in new certificate) ≤ longest_text → AreAcceptedFiles netlist certificate new

-- What a build leaves passes `check`. It is asked where the netlist and the certificate have at most as many bytes as an
-- input may have.
abbrev pub LeavesBuildAccepted : BuildFiles → Holdings → Holdings → Type 0
LeavesBuildAccepted f old new =
    length (bytes_in new f.netlist) ≤ longest_text → length (bytes_in new f.certificate) ≤ longest_text
    → AreAcceptedFiles f.netlist f.certificate new

-- What a sign-off leaves passes `check`. It is asked where the netlist and the certificate have at most as many bytes as an
-- input may have.
abbrev pub LeavesSignoffAccepted : SignoffFiles → Holdings → Holdings → Type 0
LeavesSignoffAccepted f old new =
    length (bytes_in new f.netlist) ≤ longest_text → length (bytes_in new f.certificate) ≤ longest_text
    → AreAcceptedFiles f.netlist f.certificate new

-- No file but these two changes.
abbrev pub ChangesOnly : (one other : List ℕ) → Holdings → Holdings → Type 0
ChangesOnly one other old new = (file : List ℕ) → file ≢ one → file ≢ other → new file ≡ old file

-- No file changes but those of these names.
abbrev pub ChangesAmong : List (List ℕ) → Holdings → Holdings → Type 0
ChangesAmong names old new = (file : List ℕ) → ¬ Contains names file → new file ≡ old file

-- Two answers are one, but that a network may be solved in another number of sweeps.
abbrev pub AreAlike : Answer → Answer → Type 0
AreAlike (Solved nodes resistors sweeps) b = (other : ℕ) × (b ≡ Solved nodes resistors other)
AreAlike a b = a ≡ b
