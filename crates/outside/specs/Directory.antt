-- Files that are handed in.
use Rattle.std.specs.Prelude.{ℕ, List, Vec}
use Rattle.std.specs.declared.alloc.Global.{Global}

-- A file that is handed in: its name and its bytes.
abbrev pub stored : List ℕ × Vec ℕ Global → List ℕ × List ℕ
stored file = (file.0, file.1.items)
