-- The words of the command line, after the program's name, and the commands that they are.
use Rattle.std.specs.Prelude.{◌≡◌, ◌≢◌, ◌<◌, ◌≤◌, ◌^◌, ℕ, pos, List, [], ◌∷◌, AllPairs, Ok, codes}
use Rattle.std.specs.Str.Parse.{IsNumeral, digits_value}
use Rattle.command_words.specs.declared.command.Command.{Command}
use Rattle.command_words.specs.declared.command.Command.TheVariants.{Build, Solve, Check, Step, Signoff, Generate}
use Rattle.command_words.specs.Setting.{SetsEach}
use Rattle.number_place.specs.declared.place.NumberPlace.{NumberPlace}
use Rattle.number_place.specs.declared.place.NumberForm.TheVariants.{Scaled}
use Rattle.number_place.specs.declared.place.NumberSign.TheVariants.{Positive}
use Rattle.number_place.specs.Place.{IsNumberAt}

-- The options of each command.
abbrev pub build_options : List (List ℕ)
build_options =
    codes "--lef" ∷ codes "--cells" ∷ codes "--def" ∷ codes "--pdn" ∷ codes "--bias" ∷ codes "--out-def"
    ∷ codes "--netlist" ∷ codes "--certificate" ∷ codes "--report" ∷ []

abbrev pub solve_options : List (List ℕ)
solve_options = codes "--netlist" ∷ codes "--certificate" ∷ codes "--report" ∷ []

abbrev pub check_options : List (List ℕ)
check_options = codes "--netlist" ∷ codes "--certificate" ∷ []

abbrev pub generate_options : List (List ℕ)
generate_options =
    codes "--number" ∷ codes "--side" ∷ codes "--lef" ∷ codes "--cells" ∷ codes "--def" ∷ codes "--pdn"
    ∷ codes "--bias" ∷ []

abbrev pub step_options : List (List ℕ)
step_options =
    codes "--time" ∷ codes "--steps" ∷ codes "--netlist" ∷ codes "--waves" ∷ codes "--certificate" ∷ codes "--report"
    ∷ []

abbrev pub signoff_options : List (List ℕ)
signoff_options =
    codes "--lef" ∷ codes "--cells" ∷ codes "--def" ∷ codes "--wires" ∷ codes "--bias" ∷ codes "--netlist"
    ∷ codes "--certificate" ∷ codes "--report" ∷ []

-- No two outputs have one name.
abbrev pub AreApart : List (List ℕ) → Type 0
AreApart outputs = AllPairs (λ a b. a ≢ b) outputs

-- The text is the number in decimal digits, perhaps after zeros.
abbrev pub IsNumber : List ℕ → ℕ → Type 0
IsNumber text number = IsNumeral 10 text × (digits_value 10 text ≡ number)

-- The words after the name of `generate` have a number of 64 bits and a side from 24 to 300.
pub record IsGenerate (words files : List (List ℕ)) (number side : ℕ) : Type 0 where
  pub number_text : List ℕ
  pub side_text : List ℕ
  pub each : SetsEach generate_options words (number_text ∷ side_text ∷ files)
  pub number_is : IsNumber number_text number
  pub side_is : IsNumber side_text side
  pub number_fits : number < 2 ^ 64
  pub least_side : 24 ≤ side
  pub greatest_side : side ≤ 300
  pub apart : AreApart files

-- Seconds are units of 10^-18 s, with a scale or none, above 0 and at most 1 s.
abbrev pub seconds : NumberPlace
seconds = record { form = Scaled; places = 18; limit = 10 ^ 18; sign = Positive }

-- The text stands for the time.
abbrev pub IsTime : List ℕ → ℕ → Type 0
IsTime text time = IsNumberAt seconds text (Ok (pos time))

-- The words after the name of `step` have a time and from 1 to 1000 steps.
pub record IsStep (words : List (List ℕ)) (netlist waves certificate report : List ℕ) (time steps : ℕ) : Type 0 where
  pub time_text : List ℕ
  pub steps_text : List ℕ
  pub each : SetsEach step_options words (time_text ∷ steps_text ∷ netlist ∷ waves ∷ certificate ∷ report ∷ [])
  pub time_is : IsTime time_text time
  pub steps_is : IsNumber steps_text steps
  pub least_steps : 1 ≤ steps
  pub greatest_steps : steps ≤ 1000
  pub apart : AreApart (certificate ∷ report ∷ [])

-- The words of a command: its name, and then its options, in any order, each once, with their values. The files that it
-- writes have different names.
abbrev pub IsCommand : List (List ℕ) → Command → Type 0
IsCommand words (Build lef cells design pdn bias out_def netlist certificate report) =
    (others : List (List ℕ)) × (words ≡ codes "build" ∷ others)
    × SetsEach build_options others
    (lef ∷ cells ∷ design ∷ pdn ∷ bias ∷ out_def ∷ netlist ∷ certificate ∷ report ∷ [])
    × AreApart (out_def ∷ netlist ∷ certificate ∷ report ∷ [])
IsCommand words (Solve netlist certificate report) =
    (others : List (List ℕ)) × (words ≡ codes "solve" ∷ others)
    × SetsEach solve_options others (netlist ∷ certificate ∷ report ∷ [])
    × AreApart (certificate ∷ report ∷ [])
IsCommand words (Check netlist certificate) =
    (others : List (List ℕ)) × (words ≡ codes "check" ∷ others)
    × SetsEach check_options others (netlist ∷ certificate ∷ [])
IsCommand words (Step netlist waves time steps certificate report) =
    (others : List (List ℕ)) × (words ≡ codes "step" ∷ others)
    × IsStep others netlist waves certificate report time steps
IsCommand words (Signoff lef cells design wires bias netlist certificate report) =
    (others : List (List ℕ)) × (words ≡ codes "signoff" ∷ others)
    × SetsEach signoff_options others
    (lef ∷ cells ∷ design ∷ wires ∷ bias ∷ netlist ∷ certificate ∷ report ∷ [])
    × AreApart (netlist ∷ certificate ∷ report ∷ [])
IsCommand words (Generate number side lef cells design pdn bias) =
    (others : List (List ℕ)) × (words ≡ codes "generate" ∷ others)
    × IsGenerate others (lef ∷ cells ∷ design ∷ pdn ∷ bias ∷ []) number side

-- The words are those of no command.
abbrev pub IsUsage : List (List ℕ) → Type 0
IsUsage words = (command : Command) → ¬ IsCommand words command
