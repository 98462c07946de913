-- What `build` answers, and what has to be so where it gives each answer.
use Rattle.std.specs.Prelude.{◌≡◌, ◌≤◌, ◌⊎◌, ℕ, ℤ, List, [], ◌∷◌, Option, Some, length}
use Rattle.outside.specs.Counts.{Rose}
use Rattle.outside.specs.Files.{Holdings}
use Rattle.outside.specs.Whole.{longest_text}
use Rattle.answers.specs.Answer.{built_status}
use Rattle.answers.specs.declared.answer.Answer.{Answer}
use Rattle.answers.specs.declared.built.Built.{Built as Numbers}
use Rattle.answers.specs.declared.answer.Answer.TheVariants.{Usage, Want, ReadFault, WriteFault, TooLong, Refused, NoGrid, Range, TooManySteps, PadConflict, FloatingCapacitor, Unsupplied, Built, SignedOff, Generated, Solved, Stepped, Certified, NotCertified}
use Rattle.building.specs.declared.outputs.Outputs.{Outputs}
use Rattle.building.specs.Checked.{PassesCheck}
use Rattle.building.specs.Inputs.{FileText, FiveTexts}
use Rattle.grid_signing.specs.Solutions.{SolutionsKeep}
use Rattle.macro_building.specs.Built.{BuiltDesign, IsBuiltDesign, AreBuiltOutputs}
use Rattle.macro_building.specs.Refusal.{IsUnbuilt}
use Rattle.output_files.specs.Outputs.{Texts, HoldEach}
use Rattle.pdn_signoff.specs.declared.build_files.BuildFiles.{BuildFiles}
use Rattle.pdn_signoff.specs.Check.{FilesThen, NoneFailed, IsTextOf, IsTooLong}
use Rattle.pdn_signoff.specs.Inputs.{IsFirstUnread, FailsToRead}
use Rattle.pdn_signoff.specs.Solve.{SolverThen, IsKept}
use Rattle.pdn_signoff.specs.Outputs.{AreWritten, StopsAt, Stops}

-- The files that are read, in their order, and those that are written, in theirs.
abbrev pub files_read : BuildFiles → List (List ℕ)
files_read f = f.lef ∷ f.cells ∷ f.def ∷ f.pdn ∷ f.bias ∷ []

abbrev pub files_written : BuildFiles → List (List ℕ)
files_written f = f.out_def ∷ f.netlist ∷ f.certificate ∷ f.report ∷ []

-- The outputs with the names of their files, in the order in which they are written.
abbrev pub output_texts : BuildFiles → Outputs → Texts
output_texts f outputs =
    (f.out_def, outputs.def) ∷ (f.netlist, outputs.netlist) ∷ (f.certificate, outputs.certificate)
    ∷ (f.report, outputs.report) ∷ []

-- A text is that of the file of this name, of at most as many bytes as an input may have.
pub record IsInput (known : Option Holdings) (file : List ℕ) (t : FileText) : Type 0 where
  pub file_is : t.file ≡ file
  pub text_is : IsTextOf known file t.text
  pub fits : length t.text ≤ longest_text

-- The five texts are those of the files that are read.
pub record AreInputs (known : Option Holdings) (f : BuildFiles) (t : FiveTexts) : Type 0 where
  pub lef : IsInput known f.lef t.lef
  pub cells : IsInput known f.cells t.cells
  pub def : IsInput known f.def t.def
  pub pdn : IsInput known f.pdn t.pdn
  pub bias : IsInput known f.bias t.bias

-- The texts of the files are built into these outputs: the texts of the grid that the script draws over the design and its
-- blocks, of its network, of a tight certificate and of the report; every solution of the network keeps what the report
-- says; and who checks the certificate finds that it holds. The pins of blocks that a grid over macros meets count as straps
-- of the grid, and so in the network, the certificate, the report and the numbers; the written design is without them.
pub record BuildsFiles (told : Option (List ℤ × List ℤ)) (known : Option Holdings) (f : BuildFiles) (outputs : Outputs)
    : Type 0 where
  pub texts : FiveTexts
  pub are_inputs : AreInputs known f texts
  pub design : BuiltDesign
  pub is_design : IsBuiltDesign told texts design
  pub are_outputs : AreBuiltOutputs design outputs
  pub keep : SolutionsKeep design.design.extracted.net design.design.certificate design.design.limits
  pub checked : PassesCheck design.design outputs

-- The files were read without a fault, and nothing is built of their texts; no file was written.
abbrev pub RefusesFiles : FilesThen → FilesThen → BuildFiles → Answer → Type 0
RefusesFiles before after f answer =
    IsKept before after × NoneFailed before after
    × ((t : FiveTexts) × AreInputs before.known f t × IsUnbuilt t answer)

-- Why `build` over these files gives an answer: each answer with what has to be so, and with what the files hold then. The
-- five files are read and their texts built, and then the four outputs are written; what comes later is answered only where
-- nothing earlier is refused. Where it is built, the solver was asked.
abbrev pub Builds : SolverThen → SolverThen → FilesThen → FilesThen → BuildFiles → Answer → Type 0
Builds solver solver' before after f (ReadFault file) =
    IsKept before after × ((place : ℕ) × IsFirstUnread before.known (files_read f) file place × FailsToRead before after file)
Builds solver solver' before after f (TooLong file) =
    IsKept before after × NoneFailed before after
    × ((place : ℕ) × IsFirstUnread before.known (files_read f) file place × IsTooLong before.known file)
Builds solver solver' before after f (Refused file place kind) = RefusesFiles before after f (Refused file place kind)
Builds solver solver' before after f (NoGrid words) = RefusesFiles before after f (NoGrid words)
Builds solver solver' before after f (Range quantity at number) =
    RefusesFiles before after f (Range quantity at number)
Builds solver solver' before after f (Unsupplied node) = RefusesFiles before after f (Unsupplied node)
Builds solver solver' before after f (WriteFault file) =
    (outputs : Outputs) × BuildsFiles solver.told before.known f outputs
    × Stops before after (output_texts f outputs) (WriteFault file)
Builds solver solver' before after f (Built numbers) =
    (outputs : Outputs) × BuildsFiles solver.told before.known f outputs × (numbers ≡ outputs.numbers)
    × NoneFailed before after × Rose solver.proposals solver'.proposals
    × AreWritten before after (output_texts f outputs)
Builds solver solver' before after f Want =
    IsKept before after
    ⊎ ((outputs : Outputs) × BuildsFiles solver.told before.known f outputs
    × (((place : ℕ) × StopsAt before after (output_texts f outputs) place)
    ⊎ AreWritten before after (output_texts f outputs)))
Builds solver solver' before after f Usage = ⊥
Builds solver solver' before after f (PadConflict node first second) = ⊥
Builds solver solver' before after f Generated = ⊥
Builds solver solver' before after f (FloatingCapacitor node) = ⊥
Builds solver solver' before after f (TooManySteps number) = ⊥
Builds solver solver' before after f (Stepped nodes steps) = ⊥
Builds solver solver' before after f (SignedOff numbers) = ⊥
Builds solver solver' before after f (Solved nodes resistors sweeps) = ⊥
Builds solver solver' before after f (Certified nodes) = ⊥
Builds solver solver' before after f (NotCertified node side found) = ⊥

-- What a build leaves that ended with this status: the four outputs hold the texts that were built of what the five files
-- held, all other files stay, and the status is 1 where some verdict of the report is UNSAFE or OPEN, and else 0.
pub record LeavesBuilt (told : Option (List ℤ × List ℤ)) (f : BuildFiles) (status : ℕ) (old new : Holdings) : Type 0 where
  pub outputs : Outputs
  pub builds : BuildsFiles told (Some old) f outputs
  pub files : HoldEach (output_texts f outputs) old new
  pub status_is : status ≡ built_status outputs.numbers

-- The texts that the five files hold are these, and nothing refuses them: each has its record, the pins of blocks are read
-- where a grid over macros meets a block, the script draws a grid over the design and its blocks, the grid has a network, and
-- each node is supplied.
pub record AreAccepted (held : Holdings) (f : BuildFiles) (t : FiveTexts) : Type 0 where
  pub texts : AreInputs (Some held) f t
  pub accepted : (answer : Answer) → IsUnbuilt t answer → answer ≡ Want

-- Two lines of `build` tell of one grid and one network; the verdicts and the sweeps may be those of different tight
-- certificates of that network.
pub record TellOneGrid (one other : Numbers) : Type 0 where
  pub pieces : one.pieces ≡ other.pieces
  pub stacks : one.stacks ≡ other.stacks
  pub nodes : one.nodes ≡ other.nodes
  pub resistors : one.resistors ≡ other.resistors
  pub pads : one.pads ≡ other.pads

-- Two answers of `build` are one, or both tell of one grid and one network that are built.
abbrev pub AreBuiltAlike : Answer → Answer → Type 0
AreBuiltAlike (Built one) b = (other : Numbers) × (b ≡ Built other) × TellOneGrid one other
AreBuiltAlike a b = a ≡ b
