-- Counts of the calls on the outside that failed.
use Rattle.std.specs.Prelude.{◌≡◌, ◌≢◌, ◌⊎◌, ℕ, ◌+◌, ◌-◌, ◌^◌, ◌<◌, ◌≤◌, min, List}

-- The last value of a count: there it stands still.
abbrev pub last_count : ℕ
last_count = 2 ^ 64 - 1

-- A count after one more.
abbrev pub raised : ℕ → ℕ
raised n = min (n + 1) last_count

-- A count rose in a call: it is greater than before, or stands at its last value.
abbrev pub Rose : ℕ → ℕ → Type 0
Rose old new = (old < new) ⊎ (new ≡ last_count)

-- What files count of failed calls.
pub record FaultCounts : Type 0 where
  -- The calls that failed.
  pub faults : ℕ
  -- For each name the reads of it that failed.
  pub reads : List ℕ → ℕ
  -- For each name the creates and appends on it that failed.
  pub writes : List ℕ → ℕ

-- Counts of which those by name stay at 0.
abbrev pub faults_alone : ℕ → FaultCounts
faults_alone n = record { faults = n; reads = λ _. 0; writes = λ _. 0 }

-- None of the counts falls.
pub record NoneFalls (old new : FaultCounts) : Type 0 where
  pub faults : old.faults ≤ new.faults
  pub reads : (name : List ℕ) → old.reads name ≤ new.reads name
  pub writes : (name : List ℕ) → old.writes name ≤ new.writes name

-- No count by name changes but that of the reads of this name.
pub record ChangesReads (name : List ℕ) (old new : FaultCounts) : Type 0 where
  pub reads : (other : List ℕ) → other ≢ name → new.reads other ≡ old.reads other
  pub writes : new.writes ≡ old.writes

-- No count by name changes but that of the creates and appends on this name.
pub record ChangesWrites (name : List ℕ) (old new : FaultCounts) : Type 0 where
  pub reads : new.reads ≡ old.reads
  pub writes : (other : List ℕ) → other ≢ name → new.writes other ≡ old.writes other
