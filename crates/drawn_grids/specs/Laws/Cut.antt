-- What an array of cuts keeps: its rule stands, its cuts in a row are no longer than the crossing, and a cut is at most its
-- pitch.
use Rattle.std.proofs.Common.{◌≡◌, ℕ, ◌+◌, ◌-◌, ◌*◌, ◌<◌, ◌≤◌, ◌^◌, pos, ◌*ℤ◌, Some, length, sym, subst, ap, ◌∙◌, arith}
use Rattle.std.specs.Prelude.{slice_get}
use Rattle.std.proofs.lemmas.Int.{ints}
use Rattle.std.proofs.lemmas.Nat.{mul-le}
use Rattle.std.proofs.lemmas.Option.{slice_get_within, get_or_from_slice_get}
use Rattle.geom_rect.specs.declared.direction.Axis.TheVariants.{X, Y}
use Rattle.geom_rect.specs.declared.rect.Rect.{Rect}
use Rattle.lef_tech.specs.declared.rule.ViaRule.{ViaRule}
use Rattle.lef_tech.specs.declared.tech.Tech.{Tech}
use Rattle.lef_tech.specs.Limits.{TechKeeps, RuleKeeps}
use Rattle.via_arrays.specs.declared.parts.CutArray.{CutArray}
use Rattle.via_arrays.specs.Arrays.{IsArray}
use Rattle.via_arrays.specs.Cuts.{IsMost}
use Rattle.via_arrays.specs.Extents.{extent}
use Rattle.via_arrays.specs.Lengths.{IsUnits, in_units, IsOnGrid}
use Rattle.em_rules.specs.Limit.{IsWidth, HasCuts}
use Rattle.def_writer.specs.Limits.{PitchKeeps, ArrayFits}

-- ## lengths in units

-- a length that is a whole number of units is at least one
some_units : (units length : ℕ) → 1 ≤ units → 0 < length → IsOnGrid units length → 1 ≤ in_units units length
some_units units length some long whole =
    let m : 1 * 1 ≤ length * units = mul-le 1 1 length units long some in
    omega arith

longer : (units a b : ℕ) → a ≤ b → in_units units a ≤ in_units units b
longer units a b le = let m : a * units ≤ b * units = mul-le a units b units le (omega arith) in omega arith

at_most : (units length : ℕ) → units ≤ 20000 → length ≤ 10 ^ 11 → in_units units length ≤ 2 ^ 40
at_most units length few short = let m : length * units ≤ 10 ^ 11 * 20000 = mul-le length units (10 ^ 11) 20000 short few in omega arith

-- ## rows

-- a row that fits is no longer than the extent, and neither are its cuts side by side
cuts_fit : (limit extent cut pitch enclosure n : ℕ) → 0 < n → cut ≤ pitch → IsMost limit extent cut pitch enclosure n → n * cut ≤ extent
cuts_fit limit extent cut pitch enclosure n some le most =
    let first = most.fit 0 some in
    let row : cut + (n - 1) * pitch ≤ extent = omega (arith, ints, first.low) in
    let side : (n - 1) * cut ≤ (n - 1) * pitch = mul-le (n - 1) cut (n - 1) pitch (omega arith) le in
    let count : n ≡ (n - 1) + 1 = omega arith in
    let split : ((n - 1) + 1) * cut ≡ (n - 1) * cut + cut = omega arith in
    let all : n * cut ≡ (n - 1) * cut + cut = ap (λ k. k * cut) count ∙ split in
    omega arith

-- from 1 to 2^32 units
width_is : (limit extent cut pitch enclosure n : ℕ) → 0 < n → 1 ≤ cut → cut ≤ pitch → extent < 2 ^ 32 → IsMost limit extent cut pitch enclosure n → IsWidth (pos n *ℤ pos cut)
width_is limit extent cut pitch enclosure n some one le wide most =
    let m : 1 * 1 ≤ n * cut = mul-le 1 1 n cut some one in
    let h = cuts_fit limit extent cut pitch enclosure n some le most in
    (omega (arith, ints), omega (arith, ints))

pitch_keeps : (units cut pitch : ℕ) → units ≤ 20000 → cut ≤ pitch → pitch ≤ 10 ^ 11 → PitchKeeps (pos (in_units units cut)) (pos (in_units units pitch))
pitch_keeps units cut pitch few le short =
    let up = longer units cut pitch le in
    let most = at_most units pitch few short in
    (omega (arith, ints), omega (arith, ints), omega (arith, ints))

-- ## an array

-- The rule of the array stands in the technology, it has cuts, and it can be written.
pub record ArrayStands (tech : Tech) (array : CutArray) : Type 0 where
  pub rule : array.rule < length tech.rules
  pub cuts : HasCuts array
  pub fits : ArrayFits tech array

rule_keeps : (tech : Tech) → TechKeeps tech → (place : ℕ) (rule : ViaRule) → slice_get tech.rules place ≡ Some rule → RuleKeeps tech rule
rule_keeps tech keeps place rule is =
    subst (RuleKeeps tech) (get_or_from_slice_get tech.rules place rule rule is) (keeps.rules place rule (slice_get_within tech.rules place rule is))

pub array_stands : (tech : Tech) (place : ℕ) (crossing : Rect) (units max_columns max_rows : ℕ) (array : CutArray) → TechKeeps tech → IsUnits units
    → extent X crossing < 2 ^ 32 → extent Y crossing < 2 ^ 32 → IsArray tech place crossing units max_columns max_rows array → ArrayStands tech array
array_stands tech place crossing units max_columns max_rows array keeps is_units wide high is =
    record {
      rule = in_rules;
      cuts = record {
        row = subst (λ z. IsWidth (pos array.columns *ℤ z)) (sym cut_x)
            (width_is max_columns (extent X crossing) _ _ _ array.columns is.some_columns (some_units units is.rule.cut_x is_units.0 rule.some_x is.on_grid.cut_x)
            (longer units is.rule.cut_x is.rule.pitch_x rule.cut_x) wide is.columns);
        column = subst (λ z. IsWidth (pos array.rows *ℤ z)) (sym cut_y)
            (width_is max_rows (extent Y crossing) _ _ _ array.rows is.some_rows (some_units units is.rule.cut_y is_units.0 rule.some_y is.on_grid.cut_y)
            (longer units is.rule.cut_y is.rule.pitch_y rule.cut_y) high is.rows);
      };
      fits = record {
        rule = in_rules;
        in_x = subst (λ z. PitchKeeps z array.pitch_x) (sym cut_x) (subst (PitchKeeps (pos (in_units units is.rule.cut_x))) (sym pitch_x)
            (pitch_keeps units is.rule.cut_x is.rule.pitch_x is_units.1 rule.cut_x rule.pitch_x));
        in_y = subst (λ z. PitchKeeps z array.pitch_y) (sym cut_y) (subst (PitchKeeps (pos (in_units units is.rule.cut_y))) (sym pitch_y)
            (pitch_keeps units is.rule.cut_y is.rule.pitch_y is_units.1 rule.cut_y rule.pitch_y));
      };
    }
  where
    rule : RuleKeeps tech is.rule
    rule = rule_keeps tech keeps place is.rule is.is_rule

    in_rules : array.rule < length tech.rules
    in_rules = let at : array.rule ≡ place = ap (λ (a : CutArray). a.rule) is.is in let within = slice_get_within tech.rules place is.rule is.is_rule in omega arith

    cut_x : array.cut_x ≡ pos (in_units units is.rule.cut_x)
    cut_x = ap (λ (a : CutArray). a.cut_x) is.is

    cut_y : array.cut_y ≡ pos (in_units units is.rule.cut_y)
    cut_y = ap (λ (a : CutArray). a.cut_y) is.is

    pitch_x : array.pitch_x ≡ pos (in_units units is.rule.pitch_x)
    pitch_x = ap (λ (a : CutArray). a.pitch_x) is.is

    pitch_y : array.pitch_y ≡ pos (in_units units is.rule.pitch_y)
    pitch_y = ap (λ (a : CutArray). a.pitch_y) is.is
