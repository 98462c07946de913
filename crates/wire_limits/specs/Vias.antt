-- Vias that stand somewhere (LEF/DEF 5.8 Language Reference, VIAS: VIARULE, LAYERS, CUTSIZE, CUTSPACING, ROWCOL).
use Rattle.std.specs.Prelude.{◌≡◌, ℕ, ◌+◌, ◌<◌, ◌^◌, ℤ, pos, ◌*ℤ◌, ◌≤ℤ◌, List, Contains, map, Option, Some, slice_get}
use Rattle.lef_tech.specs.declared.rule.ViaRule.{ViaRule}
use Rattle.lef_tech.specs.declared.tech.Tech.{Tech}
use Rattle.via_arrays.specs.Choice.{IsRule}
use Rattle.via_arrays.specs.Resistances.{per_cut_of}
use Rattle.wire_names.specs.declared.record.NamedVia.{NamedVia}
use Rattle.wire_names.specs.declared.record.Spot.{Spot}

-- The via at this place of the list stands somewhere.
abbrev pub IsUsed : List Spot → ℕ → Type 0
IsUsed spots place = Contains (map (λ (spot : Spot). spot.via) spots) place

-- The layers of a via are those of a rule, bottom up, and its upper routing layer is the one directly after its lower one.
pub record HasLayersOf (rule : ViaRule) (via : NamedVia) : Type 0 where
  pub lower : via.lower ≡ rule.lower
  pub cut : via.cut ≡ rule.cut
  pub upper : via.upper ≡ rule.upper
  pub next : via.upper ≡ via.lower + 1

-- The same of its own rule.
pub record HasItsLayers (tech : Tech) (via : NamedVia) : Type 0 where
  pub rule : ViaRule
  pub is_rule : IsRule tech via.rule rule
  pub has : HasLayersOf rule via

-- 2^32 units.
abbrev pub most_size : ℤ
most_size = pos (2 ^ 32)

-- Its columns times the pitch in x and its rows times the pitch in y do not pass 2^32 units.
pub record HasSize (via : NamedVia) : Type 0 where
  pub columns : (pos via.columns *ℤ via.pitch_x) ≤ℤ most_size
  pub rows : (pos via.rows *ℤ via.pitch_y) ≤ℤ most_size

-- What is stated for a cut of the rule of this number: by the rule, or else by the rule's cut layer.
pub record IsPerCut (tech : Tech) (place : ℕ) (stated : Option ℕ) : Type 0 where
  pub rule : ViaRule
  pub is_rule : IsRule tech place rule
  pub is : stated ≡ per_cut_of tech rule

-- A cut of the via has a resistance.
abbrev pub HasCutResistance : Tech → NamedVia → Type 0
HasCutResistance tech via = (per_cut : ℕ) × IsPerCut tech via.rule (Some per_cut)

-- The first via of the list that stands somewhere and has not the property.
pub record IsFirstUsedWithout (P : NamedVia → Type 0) (vias : List NamedVia) (spots : List Spot) (place : ℕ) (via : NamedVia)
    : Type 0 where
  pub stands : slice_get vias place ≡ Some via
  pub used : IsUsed spots place
  pub lacks : P via → ⊥
  pub before : (k : ℕ) (other : NamedVia) → k < place → slice_get vias k ≡ Some other → IsUsed spots k → P other

-- Each that stands somewhere has it.
abbrev pub EachUsedHas : (NamedVia → Type 0) → List NamedVia → List Spot → Type 0
EachUsedHas P vias spots = (k : ℕ) (via : NamedVia) → slice_get vias k ≡ Some via → IsUsed spots k → P via
