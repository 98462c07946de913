-- Resistances of branches in whole nano-ohms.
use Rattle.std.specs.Prelude.{◌≡◌, ℕ, map, max, slice_index_or, Option, Some, None}
use Rattle.fixed_decimal.specs.Value.{IsNearest}
use Rattle.lef_tech.specs.declared.layer.CutLayer.{CutLayer}
use Rattle.lef_tech.specs.declared.rule.ViaRule.{ViaRule}
use Rattle.lef_tech.specs.declared.tech.Tech.{Tech}

-- A resistance of n / d nano-ohms, rounded to nearest, halves up, and at least 1.
pub record IsResistance (n d ohms : ℕ) : Type 0 where
  pub nearest : ℕ
  pub is_nearest : IsNearest n d nearest
  pub is : ohms ≡ max nearest 1

-- The first of two numbers that is stated.
abbrev pub first_stated : Option ℕ → Option ℕ → Option ℕ
first_stated (Some a) b = Some a
first_stated None b = b

-- The resistance of a cut of a rule: the rule's own, else that of its cut layer (LEF/DEF 5.8 Language Reference,
-- RESISTANCE of a VIARULE GENERATE and of a cut layer).
abbrev pub per_cut_of : Tech → ViaRule → Option ℕ
per_cut_of tech rule =
    first_stated rule.per_cut (slice_index_or (map (λ (layer : CutLayer). layer.per_cut) tech.cuts) rule.cut None)
