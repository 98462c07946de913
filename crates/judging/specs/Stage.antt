-- The first stage, which `check`, `solve` and `step` share: the text of a netlist is read, and its shorts are merged.
use Rattle.std.specs.Prelude.{◌≡◌, ◌⊎◌, ⊤, ℕ, List}
use Rattle.grid_net.specs.Limits.{IsBuilt}
use Rattle.short_merge.specs.declared.merged.Merged.{Merged}
use Rattle.spice_grid.specs.declared.named.Named.{Named}
use Rattle.spice_grid.specs.Netlist.{NamedKeeps}
use Rattle.answers.specs.declared.answer.Answer.{Answer}
use Rattle.answers.specs.declared.answer.Answer.TheVariants.{Usage, Want, ReadFault, WriteFault, TooLong, Refused, NoGrid, Range, TooManySteps, PadConflict, FloatingCapacitor, Unsupplied, Built, SignedOff, Generated, Solved, Stepped, Certified, NotCertified}
use Rattle.judging.specs.Texts.{HasNetwork}
use Rattle.judging.specs.Judging.{RefusesNetlist, RefusesMerge}

-- The text is a netlist with the network of its groups. As each record of a netlist this one keeps what is asked of a
-- merge, and both networks keep the limits of networks.
pub record GivesNetwork (text : List ℕ) (named : Named) (merged : Merged) : Type 0 where
  pub network : HasNetwork text named merged
  pub keeps : NamedKeeps named
  pub built : IsBuilt named.net
  pub groups_built : IsBuilt merged.net

-- Why the text of a netlist, of a file of this name, gives no network: memory ran out, which may be at any time; the text
-- is refused; or two pads of a group differ.
abbrev pub HasNoNetwork : (file text : List ℕ) → Answer → Type 0
HasNoNetwork file text answer = (answer ≡ Want) ⊎ (RefusesNetlist file text answer ⊎ RefusesMerge text answer)

-- The answers to the text of a netlist: that it is refused at a word, that a quantity passes its limit, that two pads
-- differ, or want of memory.
abbrev pub IsToNetlist : Answer → Type 0
IsToNetlist Want = ⊤
IsToNetlist (Refused file place kind) = ⊤
IsToNetlist (NoGrid refusal) = ⊥
IsToNetlist (Range quantity at number) = ⊤
IsToNetlist (PadConflict node first second) = ⊤
IsToNetlist Usage = ⊥
IsToNetlist (ReadFault file) = ⊥
IsToNetlist (WriteFault file) = ⊥
IsToNetlist (TooLong file) = ⊥
IsToNetlist (Unsupplied node) = ⊥
IsToNetlist (Built built) = ⊥
IsToNetlist Generated = ⊥
IsToNetlist (FloatingCapacitor node) = ⊥
IsToNetlist (TooManySteps number) = ⊥
IsToNetlist (Stepped nodes steps) = ⊥
IsToNetlist (SignedOff numbers) = ⊥
IsToNetlist (Solved nodes resistors sweeps) = ⊥
IsToNetlist (Certified nodes) = ⊥
IsToNetlist (NotCertified node side found) = ⊥

-- The answers to two texts: those to the text of a netlist, and what the test of a certificate tells.
abbrev pub IsToTexts : Answer → Type 0
IsToTexts (Certified nodes) = ⊤
IsToTexts (NotCertified node side found) = ⊤
IsToTexts answer = IsToNetlist answer
