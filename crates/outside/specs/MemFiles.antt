-- Files in memory, of which some calls fail.
use Rattle.std.specs.Prelude.{ℕ, List}
use Rattle.outside.specs.Calls.{CallsInMemory}

-- Files in memory as contracts see them.
pub record FilesInMemory : Type 0 where
  -- Each file's name and bytes, of which the first of a name counts.
  pub files : List (List ℕ × List ℕ)
  -- The calls on them.
  pub calls : CallsInMemory
