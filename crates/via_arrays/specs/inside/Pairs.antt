-- What the helpers of a pair say.
use Rattle.std.specs.Prelude.{◌≡◌, ℕ, Option}
use Rattle.lef_tech.specs.declared.rule.ViaRule.{ViaRule}
use Rattle.lef_tech.specs.declared.tech.Tech.{Tech}
use Rattle.via_arrays.specs.declared.error.StackError.{StackError}
use Rattle.via_arrays.specs.declared.error.StackError.TheVariants.{NoResistance}
use Rattle.via_arrays.specs.declared.parts.CutArray.{CutArray}
use Rattle.via_arrays.specs.Choice.{IsRule}
use Rattle.via_arrays.specs.Pairs.{HasResistance, HasNoResistance}
use Rattle.via_arrays.specs.Resistances.{per_cut_of}

-- What is stated for a cut of the rule of this number.
pub record IsPerCut (tech : Tech) (place : ℕ) (stated : Option ℕ) : Type 0 where
  pub rule : ViaRule
  pub is_rule : IsRule tech place rule
  pub is : stated ≡ per_cut_of tech rule

-- An array with the resistance that its cuts have together.
pub record IsShared (tech : Tech) (place : ℕ) (array : CutArray) (made : CutArray × ℕ) : Type 0 where
  pub same : made.0 ≡ array
  pub shared : HasResistance tech place array made.1

-- A cut has no resistance, and the error says so.
abbrev pub HasNone : Tech → ℕ → ℕ → StackError → Type 0
HasNone tech place layer error = (error ≡ NoResistance layer) × HasNoResistance tech place
