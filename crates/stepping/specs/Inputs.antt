-- What the texts of a netlist and of a wave file say, and when the network of the groups can be stepped.
use Rattle.std.specs.Prelude.{◌≡◌, ℕ, ◌*◌, ◌^◌, ◌≤◌, List, None, Result, Ok}
use Rattle.grid_net.specs.Network.{Network}
use Rattle.judging.specs.Stage.{GivesNetwork}
use Rattle.reading.specs.declared.error.ReadError.{ReadError}
use Rattle.reading.specs.Error.{Agree}
use Rattle.short_merge.specs.declared.merged.Merged.{Merged}
use Rattle.solving.specs.Signed.{EachIsSupplied}
use Rattle.spice_grid.specs.declared.named.Named.{Named}
use Rattle.step_bounds.specs.Capacitors.{first_floating, companions}
use Rattle.step_bounds.specs.declared.companion.Companion.{Companion}
use Rattle.wave_file.specs.declared.error.WavesKind.{WavesKind}
use Rattle.wave_file.specs.declared.error.WavesKind.TheVariants.{Want}
use Rattle.wave_file.specs.declared.record.Waves.{Waves}
use Rattle.wave_file.specs.Format.{ReadsWaves}

-- The two texts that are read.
pub record TwoTexts : Type 0 where
  pub netlist : List ℕ
  pub waves : List ℕ

-- As the waves of groups with these names the text gives one record or one refusal, and nothing else.
abbrev pub GivesOneWaves : List (List ℕ) → List ℕ → Type 0
GivesOneWaves names text =
    (a b : Result Waves (ReadError WavesKind)) → ReadsWaves names text a → ReadsWaves names text b → Agree Want a b

-- The texts are a netlist with the network of its groups, and a wave file of these groups.
pub record GiveWaves (texts : TwoTexts) (named : Named) (merged : Merged) (waves : Waves) : Type 0 where
  pub network : GivesNetwork texts.netlist named merged
  pub reads : ReadsWaves merged.names texts.waves (Ok waves)
  pub one : GivesOneWaves merged.names texts.waves

-- The greatest number of steps times nodes.
abbrev pub most_entries : ℕ
most_entries = 5 * 10 ^ 6

-- No capacitor of the network floats.
abbrev pub NoneFloats : Merged → Type 0
NoneFloats merged = first_floating merged.net merged.caps ≡ None

-- There are few enough steps for the nodes of the network.
abbrev pub AreFewSteps : Network → ℕ → Type 0
AreFewSteps net steps = steps * net.nodes ≤ most_entries

-- No capacitor floats, there are few enough steps, and each node is supplied.
pub record CanBeStepped (merged : Merged) (steps : ℕ) : Type 0 where
  pub none_floats : NoneFloats merged
  pub few : AreFewSteps merged.net steps
  pub supplied : EachIsSupplied merged.net

-- The capacitors of the network that count, each as it is over a step of this length.
abbrev pub companions_of : Merged → ℕ → List Companion
companions_of merged time = companions merged.net merged.caps time
