-- The words that are run: those of `build`, `solve`, `check`, `generate`, `step` and `signoff`.
use Rattle.std.specs.Prelude.{ℕ, List}
use Rattle.command_words.specs.declared.command.Command.TheVariants.{Build, Check, Solve, Generate, Step, Signoff}
use Rattle.command_words.specs.Words.{IsCommand}
use Rattle.pdn_signoff.specs.declared.build_files.BuildFiles.{BuildFiles}
use Rattle.pdn_signoff.specs.declared.design_files.DesignFiles.{DesignFiles}
use Rattle.pdn_signoff.specs.declared.signoff_files.SignoffFiles.{SignoffFiles}
use Rattle.pdn_signoff.specs.declared.step_files.StepFiles.{StepFiles}

-- The words are those of `check` over these two files.
abbrev pub IsCheck : List (List ℕ) → (netlist certificate : List ℕ) → Type 0
IsCheck words netlist certificate = IsCommand words (Check netlist certificate)

-- The words are those of `solve` over these three files, of which the last two are written.
abbrev pub IsSolve : List (List ℕ) → (netlist certificate report : List ℕ) → Type 0
IsSolve words netlist certificate report = IsCommand words (Solve netlist certificate report)

-- The words are those of `generate` of a number and a side into these five files.
abbrev pub IsGenerate : List (List ℕ) → (number side : ℕ) → DesignFiles → Type 0
IsGenerate words number side files =
    IsCommand words (Generate number side files.lef files.cells files.def files.pdn files.bias)

-- The words are those of `build` over these nine files, of which the last four are written.
abbrev pub IsBuild : List (List ℕ) → BuildFiles → Type 0
IsBuild words f =
    IsCommand words (Build f.lef f.cells f.def f.pdn f.bias f.out_def f.netlist f.certificate f.report)

-- The words are those of `step` over these four files, of which the last two are written, with this length and number of steps.
abbrev pub IsStep : List (List ℕ) → StepFiles → Type 0
IsStep words f = IsCommand words (Step f.netlist f.waves f.time f.steps f.certificate f.report)

-- The words are those of `signoff` over these eight files, of which the last three are written.
abbrev pub IsSignoff : List (List ℕ) → SignoffFiles → Type 0
IsSignoff words f = IsCommand words (Signoff f.lef f.cells f.def f.wires f.bias f.netlist f.certificate f.report)

-- The words are not those of `solve`.
abbrev pub IsNotSolve : List (List ℕ) → Type 0
IsNotSolve words = (netlist certificate report : List ℕ) → ¬ IsSolve words netlist certificate report

-- The words are not those of `generate`.
abbrev pub IsNotGenerate : List (List ℕ) → Type 0
IsNotGenerate words = (number side : ℕ) (files : DesignFiles) → ¬ IsGenerate words number side files

-- The words are not those of `build`.
abbrev pub IsNotBuild : List (List ℕ) → Type 0
IsNotBuild words = (files : BuildFiles) → ¬ IsBuild words files

-- The words are not those of `step`.
abbrev pub IsNotStep : List (List ℕ) → Type 0
IsNotStep words = (files : StepFiles) → ¬ IsStep words files

-- The words are not those of `signoff`.
abbrev pub IsNotSignoff : List (List ℕ) → Type 0
IsNotSignoff words = (files : SignoffFiles) → ¬ IsSignoff words files

-- The words are those of no command that writes files.
abbrev pub WriteNothing : List (List ℕ) → Type 0
WriteNothing words = IsNotSolve words × IsNotGenerate words × IsNotBuild words × IsNotStep words × IsNotSignoff words

-- The words are those of none of these, so of no command.
abbrev pub IsUsage : List (List ℕ) → Type 0
IsUsage words =
    ((netlist certificate : List ℕ) → ¬ IsCheck words netlist certificate) × IsNotSolve words × IsNotGenerate words
    × IsNotBuild words × IsNotStep words × IsNotSignoff words
