-- Lists of entries of which each has a name of its own.
use Rattle.std.specs.Prelude.{◌≡◌, ℕ, List, map}
use Rattle.entry_list.specs.InTurn.{InTurn}

-- The names, and the entries in their order.
pub record NamedList (E : Type 0) : Type 0 where
  pub names : List (List ℕ)
  pub entries : List E

-- The names on these lines, and what the lines say.
pub record HoldsNamed {L E : Type 0} (says : L → E → Type 0) (name : L →
    List ℕ) (lines : List L) (named : NamedList E) : Type 0 where
  pub names : named.names ≡ map name lines
  pub entries : InTurn says lines named.entries
