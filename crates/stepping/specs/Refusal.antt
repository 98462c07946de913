-- Why the texts of a netlist and of a wave file are not stepped.
use Rattle.std.specs.Prelude.{◌≡◌, ◌⊎◌, ⊤, ℕ, ◌*◌, ◌<◌, ℤ, List, Some, Err, slice_get}
use Rattle.answers.specs.declared.answer.Answer.{Answer}
use Rattle.answers.specs.declared.answer.Answer.TheVariants.{Want, Refused, Range, FloatingCapacitor, TooManySteps, Unsupplied}
use Rattle.answers.specs.declared.kind.TextKind.TheVariants.{Syntax, Number, UnknownNode, Twice, Falling}
use Rattle.grid_net.specs.declared.error.Quantity.{Quantity}
use Rattle.grid_net.specs.Level.{IsFirstUnsupplied}
use Rattle.judging.specs.Stage.{GivesNetwork, HasNoNetwork, IsToNetlist}
use Rattle.outside.specs.declared.place.Place.{Place}
use Rattle.reading.specs.declared.error.ReadError.{ReadError}
use Rattle.short_merge.specs.declared.merged.Merged.{Merged}
use Rattle.spice_grid.specs.declared.named.Named.{Named}
use Rattle.step_bounds.specs.Capacitors.{first_floating}
use Rattle.step_bounds.specs.declared.steps.Steps.{Steps}
use Rattle.step_bounds.specs.Refusal.{IsLimitPassed}
use Rattle.wave_file.specs.declared.error.WavesKind.{WavesKind}
use Rattle.wave_file.specs.declared.error.WavesKind.TheVariants as waves
use Rattle.wave_file.specs.declared.record.Waves.{Waves}
use Rattle.wave_file.specs.Format.{ReadsWaves}
use Rattle.stepping.specs.Inputs.{TwoTexts, GiveWaves, GivesOneWaves, NoneFloats, AreFewSteps, CanBeStepped, companions_of, most_entries}

-- The answer to a wave file that is refused, where its file has this name.
abbrev pub waves_answer : List ℕ → Place → WavesKind → Answer
waves_answer file place waves.Syntax = Refused file place Syntax
waves_answer file place (waves.Number error) = Refused file place (Number error)
waves_answer file place waves.UnknownNode = Refused file place UnknownNode
waves_answer file place waves.Twice = Refused file place Twice
waves_answer file place waves.Falling = Refused file place Falling
waves_answer file place waves.Want = Want

-- The text of the netlist gives the network of its groups, that of the waves is refused for these groups, and the answer tells
-- why.
pub record RefusesWaves (file : List ℕ) (texts : TwoTexts) (answer : Answer) : Type 0 where
  pub named : Named
  pub merged : Merged
  pub network : GivesNetwork texts.netlist named merged
  pub one : GivesOneWaves merged.names texts.waves
  pub error : ReadError WavesKind
  pub refused : ReadsWaves merged.names texts.waves (Err error)
  pub told : answer ≡ waves_answer file error.place error.kind

-- A capacitor floats between two groups of which none is a pad: of the first such one, in the order of the cards, the earlier group
-- is named.
pub record NamesFloating (merged : Merged) (answer : Answer) : Type 0 where
  pub node : ℕ
  pub first : first_floating merged.net merged.caps ≡ Some node
  pub name : List ℕ
  pub named_so : slice_get merged.names node ≡ Some name
  pub told : answer ≡ FloatingCapacitor name

-- There are too many steps for the nodes of the network.
pub record NamesSteps (merged : Merged) (steps : ℕ) (answer : Answer) : Type 0 where
  pub none_floats : NoneFloats merged
  pub many : most_entries < steps * merged.net.nodes
  pub told : answer ≡ TooManySteps (steps * merged.net.nodes)

-- No chain of resistors joins this group to a pad: it is the first one.
pub record NamesUnsupplied (merged : Merged) (steps : ℕ) (answer : Answer) : Type 0 where
  pub none_floats : NoneFloats merged
  pub few : AreFewSteps merged.net steps
  pub node : ℕ
  pub first : IsFirstUnsupplied merged.net node
  pub name : List ℕ
  pub named_so : slice_get merged.names node ≡ Some name
  pub told : answer ≡ Unsupplied name

-- The network can be stepped, and a quantity passes its limit in the network of some step, over lists that are a certificate of
-- all steps before.
pub record NamesLimit (merged : Merged) (waves : Waves) (time steps : ℕ) (answer : Answer) : Type 0 where
  pub can : CanBeStepped merged steps
  pub step : ℕ
  pub quantity : Quantity
  pub at : ℕ
  pub number : ℤ
  pub before : Steps
  pub passed : IsLimitPassed merged.net (companions_of merged time) waves.changes steps step quantity at number before
  pub told : answer ≡ Range quantity at number

-- What refuses a network with its waves, in this order.
abbrev pub RefusesToStep : Merged → Waves → ℕ → ℕ → Answer → Type 0
RefusesToStep merged waves time steps answer =
    NamesFloating merged answer
    ⊎ (NamesSteps merged steps answer
    ⊎ (NamesUnsupplied merged steps answer
    ⊎ NamesLimit merged waves time steps answer))

-- Both texts are accepted, and what they say is refused.
pub record RefusesNetwork (texts : TwoTexts) (time steps : ℕ) (answer : Answer) : Type 0 where
  pub named : Named
  pub merged : Merged
  pub waves : Waves
  pub gives : GiveWaves texts named merged waves
  pub refused : RefusesToStep merged waves time steps answer

-- Why the texts, of a netlist and a wave file of these names, are not stepped: memory ran out, the netlist gives no network, the
-- waves are refused, or the network is refused.
abbrev pub IsUnstepped : (netlist waves : List ℕ) → TwoTexts → (time steps : ℕ) → Answer → Type 0
IsUnstepped netlist waves texts time steps answer =
    HasNoNetwork netlist texts.netlist answer
    ⊎ (RefusesWaves waves texts answer
    ⊎ RefusesNetwork texts time steps answer)

-- Both texts are accepted, the network can be stepped, and the answer is that a limit is passed at some step.
pub record PassesLimit (texts : TwoTexts) (time steps : ℕ) (answer : Answer) : Type 0 where
  pub named : Named
  pub merged : Merged
  pub waves : Waves
  pub gives : GiveWaves texts named merged waves
  pub limit : NamesLimit merged waves time steps answer

-- The answers to texts that are not stepped: those to the text of a netlist, and those to a network and its steps.
abbrev pub IsToUnstepped : Answer → Type 0
IsToUnstepped (FloatingCapacitor node) = ⊤
IsToUnstepped (TooManySteps number) = ⊤
IsToUnstepped (Unsupplied node) = ⊤
IsToUnstepped answer = IsToNetlist answer
