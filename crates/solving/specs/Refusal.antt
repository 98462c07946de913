-- Why the text of a netlist is not signed off.
use Rattle.std.specs.Prelude.{◌≡◌, ◌⊎◌, ⊤, ℕ, List, Some, slice_get}
use Rattle.grid_net.specs.Level.{IsFirstUnsupplied}
use Rattle.judging.specs.Stage.{GivesNetwork, HasNoNetwork, IsToNetlist}
use Rattle.short_merge.specs.declared.merged.Merged.{Merged}
use Rattle.spice_grid.specs.declared.named.Named.{Named}
use Rattle.answers.specs.declared.answer.Answer.{Answer}
use Rattle.answers.specs.declared.answer.Answer.TheVariants.{Unsupplied}

-- The text gives the network of its groups, and no chain of resistors joins this group to a pad: it is the first one.
pub record LacksSupply (text : List ℕ) (answer : Answer) : Type 0 where
  pub named : Named
  pub merged : Merged
  pub gives : GivesNetwork text named merged
  pub node : ℕ
  pub first : IsFirstUnsupplied merged.net node
  pub name : List ℕ
  pub named_so : slice_get merged.names node ≡ Some name
  pub told : answer ≡ Unsupplied name

-- The text gives no network, memory ran out, or some group lacks supply.
abbrev pub IsUnsigned : (file text : List ℕ) → Answer → Type 0
IsUnsigned file text answer = HasNoNetwork file text answer ⊎ LacksSupply text answer

-- The answers to a netlist that is not signed off: those to its text, and that a node lacks supply.
abbrev pub IsToUnsigned : Answer → Type 0
IsToUnsigned (Unsupplied node) = ⊤
IsToUnsigned answer = IsToNetlist answer
