-- Two routing layers, one next above the other, that an array of cuts joins at a crossing.
use Rattle.std.specs.Prelude.{◌≡◌, ℕ, ◌+◌, ◌*◌, Some, None}
use Rattle.geom_rect.specs.declared.rect.Rect.{Rect}
use Rattle.lef_tech.specs.declared.rule.ViaRule.{ViaRule}
use Rattle.lef_tech.specs.declared.tech.Tech.{Tech}
use Rattle.via_arrays.specs.declared.error.ArrayError.TheVariants as arrays
use Rattle.via_arrays.specs.declared.error.StackError.{StackError}
use Rattle.via_arrays.specs.declared.error.StackError.TheVariants.{NoRule, OffGrid, NoCutFits, NoResistance, Want}
use Rattle.via_arrays.specs.declared.parts.CutArray.{CutArray}
use Rattle.via_arrays.specs.Choice.{IsRule, IsFirstRule, NoneSuits}
use Rattle.via_arrays.specs.Arrays.{IsArray, IsArrayRefused}
use Rattle.via_arrays.specs.Resistances.{IsResistance, per_cut_of}

-- The cuts of an array of this rule have this resistance together: that of a cut over their number.
pub record HasResistance (tech : Tech) (place : ℕ) (array : CutArray) (ohms : ℕ) : Type 0 where
  pub rule : ViaRule
  pub is_rule : IsRule tech place rule
  pub per_cut : ℕ
  pub stated : per_cut_of tech rule ≡ Some per_cut
  pub shared : IsResistance per_cut (array.columns * array.rows) ohms

-- Neither the rule of this number nor its cut layer has a resistance of a cut.
abbrev pub HasNoResistance : Tech → ℕ → Type 0
HasNoResistance tech place = (rule : ViaRule) × IsRule tech place rule × (per_cut_of tech rule ≡ None)

-- The array that joins a layer and the next one, by the first rule that suits, and its resistance.
pub record IsPair (tech : Tech) (crossing : Rect) (units max_columns max_rows layer : ℕ) (array : CutArray) (ohms : ℕ)
    : Type 0 where
  pub place : ℕ
  pub chosen : IsFirstRule tech layer (layer + 1) crossing units place
  pub made : IsArray tech place crossing units max_columns max_rows array
  pub shared : HasResistance tech place array ohms

-- What the first rule that suits a layer and the next one has.
abbrev pub FirstRuleHas : Tech → Rect → ℕ → ℕ → (ℕ → Type 0) → Type 0
FirstRuleHas tech crossing units layer P =
    (place : ℕ) × IsFirstRule tech layer (layer + 1) crossing units place × P place

-- The rule of this number gives an array at the crossing, and a cut of it has no resistance.
abbrev pub HasOnlyCuts : Tech → Rect → ℕ → ℕ → ℕ → ℕ → Type 0
HasOnlyCuts tech crossing units max_columns max_rows place =
    ((array : CutArray) × IsArray tech place crossing units max_columns max_rows array) × HasNoResistance tech place

-- Why a layer and the next one are not joined: no rule suits, or the first that suits gives no array, or it gives one
-- and a cut of it has no resistance. The error names the lower layer, or the rule whose length is no whole number of
-- units.
abbrev pub IsPairRefused : Tech → Rect → ℕ → ℕ → ℕ → ℕ → StackError → Type 0
IsPairRefused tech crossing units max_columns max_rows layer (NoRule k) = (k ≡ layer)
    × NoneSuits tech layer (layer + 1) crossing units
IsPairRefused tech crossing units max_columns max_rows layer (OffGrid k) =
    FirstRuleHas tech crossing units layer
    (λ place. (k ≡ place) × IsArrayRefused tech place crossing units max_columns max_rows arrays.OffGrid)
IsPairRefused tech crossing units max_columns max_rows layer (NoCutFits k) = (k ≡ layer)
    × FirstRuleHas tech crossing units layer
    (λ place. IsArrayRefused tech place crossing units max_columns max_rows arrays.NoCutFits)
IsPairRefused tech crossing units max_columns max_rows layer (NoResistance k) = (k ≡ layer)
    × FirstRuleHas tech crossing units layer (HasOnlyCuts tech crossing units max_columns max_rows)
IsPairRefused tech crossing units max_columns max_rows layer Want = ⊥
