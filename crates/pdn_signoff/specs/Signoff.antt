-- What `signoff` answers, and what has to be so where it gives each answer.
use Rattle.std.specs.Prelude.{◌≡◌, ℕ, ℤ, false, List, [], ◌∷◌, Option, Some}
use Rattle.outside.specs.Files.{Holdings}
use Rattle.answers.specs.Answer.{built_status}
use Rattle.answers.specs.declared.answer.Answer.{Answer}
use Rattle.answers.specs.declared.built.Built.{Built as Numbers}
use Rattle.answers.specs.declared.answer.Answer.TheVariants.{Want, SignedOff}
use Rattle.building.specs.declared.outputs.Outputs.{Outputs}
use Rattle.building.specs.Inputs.{FiveTexts}
use Rattle.grid_signing.specs.declared.signed.SignedGrid.{SignedGrid}
use Rattle.macro_building.specs.Blocks.{is_over_blocks}
use Rattle.macro_building.specs.Built.{BuiltDesign, IsBuiltDesign, AreBuiltOutputs}
use Rattle.output_files.specs.Outputs.{Texts, HoldEach}
use Rattle.rewired_networks.specs.Over.{HasOneDomain}
use Rattle.signing_off.specs.Inputs.{WiredTexts}
use Rattle.signing_off.specs.Refusal.{IsUnsigned}
use Rattle.signing_off.specs.Signing.{SignsWiring}
use Rattle.pdn_signoff.specs.declared.signoff_files.SignoffFiles.{SignoffFiles}
use Rattle.pdn_signoff.specs.Build.{IsInput, TellOneGrid}
use Rattle.pdn_signoff.specs.Check.{FilesThen, IsTextOf}
use Rattle.pdn_signoff.specs.Runs.{RunsOver}
use Rattle.pdn_signoff.specs.Solve.{SolverThen}

-- The files that are read, in their order, and those that are written, in theirs.
abbrev pub signoff_files_read : SignoffFiles → List (List ℕ)
signoff_files_read f = f.lef ∷ f.cells ∷ f.def ∷ f.wires ∷ f.bias ∷ []

abbrev pub signoff_files_written : SignoffFiles → List (List ℕ)
signoff_files_written f = f.netlist ∷ f.certificate ∷ f.report ∷ []

-- The outputs with the names of their files, in the order in which they are written.
abbrev pub signed_texts : SignoffFiles → SignedGrid → Texts
signed_texts f signed =
    (f.netlist, signed.netlist) ∷ (f.certificate, signed.certificate) ∷ (f.report, signed.report) ∷ []

-- The five texts are those of the files that are read, each of at most as many bytes as an input may have.
pub record AreWiredInputs (known : Option Holdings) (f : SignoffFiles) (t : WiredTexts) : Type 0 where
  pub lef : IsInput known f.lef t.lef
  pub cells : IsInput known f.cells t.cells
  pub def : IsInput known f.def t.def
  pub wires : IsInput known f.wires t.wires
  pub bias : IsInput known f.bias t.bias

-- The wiring of the texts of the files is signed off with these outputs: the texts of the network of its grid, of a tight
-- certificate and of the report; every solution of the network keeps what the report says; and who checks the certificate
-- finds that it holds.
pub record SignsFiles (told : Option (List ℤ × List ℤ)) (known : Option Holdings) (f : SignoffFiles)
    (signed : SignedGrid) : Type 0 where
  pub texts : WiredTexts
  pub are_inputs : AreWiredInputs known f texts
  pub signs : SignsWiring told texts signed

-- The texts of the files are known, and nothing is signed off of them, which the answer tells.
abbrev pub RefusesWiredFiles : Option Holdings → SignoffFiles → Answer → Type 0
RefusesWiredFiles known f answer = (t : WiredTexts) × AreWiredInputs known f t × IsUnsigned t answer

-- The texts of the files are signed off with these outputs, and the answer tells their numbers.
abbrev pub MakesSigned : Option (List ℤ × List ℤ) → Option Holdings → SignoffFiles → Texts → Answer → Type 0
MakesSigned told known f outputs answer =
    (signed : SignedGrid) × SignsFiles told known f signed × (outputs ≡ signed_texts f signed)
    × (answer ≡ SignedOff signed.numbers)

-- Why `signoff` over these files gives an answer: the five files are read, the wiring of their texts is signed off, and then
-- the netlist, the certificate and the report are written.
abbrev pub SignsOff : SolverThen → SolverThen → FilesThen → FilesThen → SignoffFiles → Answer → Type 0
SignsOff solver solver' before after f answer =
    RunsOver (signoff_files_read f) (RefusesWiredFiles before.known f) (MakesSigned solver.told before.known f) solver solver'
    before after answer

-- What a sign-off leaves that ended with this status: the three outputs hold the texts that were made of what the five
-- files held, all other files stay, and the status is 1 where some verdict of the report is UNSAFE or OPEN, and else 0.
pub record LeavesSignedOff (told : Option (List ℤ × List ℤ)) (f : SignoffFiles) (status : ℕ) (old new : Holdings)
    : Type 0 where
  pub signed : SignedGrid
  pub signs : SignsFiles told (Some old) f signed
  pub files : HoldEach (signed_texts f signed) old new
  pub status_is : status ≡ built_status signed.numbers

-- The outputs of a build of these texts, whatever its solver told, in which no grid over macros meets a block, over one
-- domain, with a region or without one.
pub record IsBuildOf (t : FiveTexts) (outputs : Outputs) : Type 0 where
  pub told : Option (List ℤ × List ℤ)
  pub design : BuiltDesign
  pub is_design : IsBuiltDesign told t design
  pub none : is_over_blocks design.design.records ≡ false
  pub over : HasOneDomain design.design.grid
  pub are_outputs : AreBuiltOutputs design outputs

-- The five files hold the technology, the cells, the placed design and the bias file of a build, and as wiring the DEF that it
-- wrote.
pub record HoldBuild (held : Holdings) (f : SignoffFiles) (t : FiveTexts) (outputs : Outputs) : Type 0 where
  pub lef : IsTextOf (Some held) f.lef t.lef.text
  pub cells : IsTextOf (Some held) f.cells t.cells.text
  pub def : IsTextOf (Some held) f.def t.def.text
  pub wires : IsTextOf (Some held) f.wires outputs.def
  pub bias : IsTextOf (Some held) f.bias t.bias.text

-- Where the five files hold what a build over one domain, in which no grid over macros meets a block, read and the DEF that it
-- wrote, the netlist is that of the build, byte for byte.
abbrev pub LeavesNetlistOfBuild : SignoffFiles → Holdings → Holdings → Type 0
LeavesNetlistOfBuild f old new = (t : FiveTexts) (outputs : Outputs) → IsBuildOf t outputs → HoldBuild old f t outputs
    → IsTextOf (Some new) f.netlist outputs.netlist

-- The texts that the five files hold are these, and nothing refuses them: each has its record, the wiring gives a grid, the
-- grid has a network, and each node is supplied.
pub record AreWiredAccepted (held : Holdings) (f : SignoffFiles) (t : WiredTexts) : Type 0 where
  pub texts : AreWiredInputs (Some held) f t
  pub accepted : (answer : Answer) → IsUnsigned t answer → answer ≡ Want

-- Two answers of `signoff` are one, or both tell of one grid and one network that are signed off; the verdicts and the sweeps
-- may be those of different tight certificates of that network.
abbrev pub AreSignedAlike : Answer → Answer → Type 0
AreSignedAlike (SignedOff one) b = (other : Numbers) × (b ≡ SignedOff other) × TellOneGrid one other
AreSignedAlike a b = a ≡ b
