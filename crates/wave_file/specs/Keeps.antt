-- What every record of a wave file keeps.
use Rattle.std.specs.Prelude.{◌≡◌, ℕ, ◌≤◌, ◌<◌, ◌^◌, ◌≤ℤ◌, unsigned_abs, All, AllPairs}
use Rattle.wave_file.specs.declared.record.Change.{Change}
use Rattle.wave_file.specs.declared.record.Waves.{Waves}

-- A step is from 1 to 1000, the node is one of so many groups, and the range goes up and is within 1000 A of 0.
pub record ChangeKeeps (groups : ℕ) (change : Change) : Type 0 where
  pub first : 1 ≤ change.step
  pub last : change.step ≤ 1000
  pub node : change.node < groups
  pub low : unsigned_abs change.low ≤ 10 ^ 18
  pub high : unsigned_abs change.high ≤ 10 ^ 18
  pub rises : change.low ≤ℤ change.high

-- No change of one group stands again at its step.
abbrev pub AreApart : Change → Change → Type 0
AreApart a b = ¬ ((a.step ≡ b.step) × (a.node ≡ b.node))

-- All changes keep their limits, their steps do not fall, and no two are of one step and one group.
pub record WavesKeep (groups : ℕ) (waves : Waves) : Type 0 where
  pub changes : All (ChangeKeeps groups) waves.changes
  pub steps : AllPairs (λ a b. a.step ≤ b.step) waves.changes
  pub apart : AllPairs AreApart waves.changes
