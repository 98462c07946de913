-- Calls on files in memory: which of them fail, and what is counted of them.
use Rattle.std.specs.Prelude.{◌≡◌, ℕ, List, Contains, unwrap_or}
use Rattle.outside.specs.declared.calls.Tally.{Tally}
use Rattle.outside.specs.Counts.{FaultCounts, raised}
use Rattle.outside.specs.Entries.{value_under, Assigns}

-- What files in memory keep of the calls on them.
pub record CallsInMemory : Type 0 where
  -- The calls that are to fail: the name, and the number of the call on it, from 1.
  pub failing : List (List ℕ × ℕ)
  -- What was counted by name; the first tally of a name counts.
  pub tallies : List (List ℕ × Tally)
  -- How many calls failed.
  pub faults : ℕ

-- The tally of a name with no calls.
abbrev pub no_calls : Tally
no_calls = record { made = 0; failed_reads = 0; failed_writes = 0 }

-- The tally of a name.
abbrev pub tally_under : List (List ℕ × Tally) → List ℕ → Tally
tally_under tallies name = unwrap_or (value_under tallies name) no_calls

-- How many calls were made on a name, those that ran out of memory left out.
abbrev pub made_on : CallsInMemory → List ℕ → ℕ
made_on calls name = (tally_under calls.tallies name).made

-- The counts of the calls that failed.
abbrev pub counts_of : CallsInMemory → FaultCounts
counts_of calls = record {
  faults = calls.faults;
  reads = λ name. (tally_under calls.tallies name).failed_reads;
  writes = λ name. (tally_under calls.tallies name).failed_writes;
}

-- The next call on a name is listed as one that is to fail.
abbrev pub FailsNext : CallsInMemory → List ℕ → Type 0
FailsNext calls name = Contains calls.failing (name, raised (made_on calls name))

-- A call on a name was counted as made, and the counts of failed calls went from the one to the other.
pub record IsCounted (name : List ℕ) (Counts : FaultCounts → FaultCounts → Type 0)
    (old new : CallsInMemory) : Type 0 where
  pub failing : new.failing ≡ old.failing
  pub made : Assigns name (raised (made_on old name)) (made_on old) (made_on new)
  pub counts : Counts (counts_of old) (counts_of new)

-- No call was counted: all numbers stay as they were.
pub record IsUncounted (old new : CallsInMemory) : Type 0 where
  pub failing : new.failing ≡ old.failing
  pub made : made_on new ≡ made_on old
  pub counts : counts_of new ≡ counts_of old

-- No count of failed calls changes.
abbrev pub CountsNone : FaultCounts → FaultCounts → Type 0
CountsNone old new = new ≡ old

-- A read of a name failed: that is one fault more and one failed read of this name more, and the other counts stay.
pub record CountsRead (name : List ℕ) (old new : FaultCounts) : Type 0 where
  pub faults : new.faults ≡ raised old.faults
  pub reads : Assigns name (raised (old.reads name)) old.reads new.reads
  pub writes : new.writes ≡ old.writes

-- A create or an append on a name failed: that is one fault more and one failed write of this name more, and the other
-- counts stay.
pub record CountsWrite (name : List ℕ) (old new : FaultCounts) : Type 0 where
  pub faults : new.faults ≡ raised old.faults
  pub reads : new.reads ≡ old.reads
  pub writes : Assigns name (raised (old.writes name)) old.writes new.writes
