-- A sink in memory, of which some calls fail.
use Rattle.std.specs.Prelude.{ℕ, List}

-- A sink in memory as contracts see it.
pub record SinkInMemory : Type 0 where
  -- What was written.
  pub bytes : List ℕ
  -- The numbers of the calls that are to fail, from 1.
  pub failing : List ℕ
  -- How many calls were made, those that ran out of memory left out.
  pub calls : ℕ
  -- How many calls failed.
  pub faults : ℕ
