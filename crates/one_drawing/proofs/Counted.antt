-- Whether a crossing has a stack, and why it has none, doesn't depend on how many columns and rows there may be at most.
use Rattle.std.proofs.Common.{◌≡◌, ◌↔◌, ◌⊎◌, inl, inr, ℕ, ◌+◌, ◌*◌, ◌/◌, ◌%◌, ◌<◌, ◌≤◌, min, max, length, subst, refl, sym, arith, mod-lt, div-add-mod'}
use Rattle.std.proofs.lemmas.Nat.{mul-le}
use Rattle.std.proofs.lemmas.Option.{slice_get_within, get_or_from_slice_get}
use Rattle.fixed_decimal.specs.Value.{IsNearest}
use Rattle.geom_rect.specs.declared.direction.Axis.{Axis}
use Rattle.geom_rect.specs.declared.direction.Axis.TheVariants.{X, Y}
use Rattle.geom_rect.specs.declared.rect.Rect.{Rect}
use Rattle.lef_tech.specs.declared.rule.ViaRule.{ViaRule}
use Rattle.lef_tech.specs.declared.tech.Tech.{Tech}
use Rattle.lef_tech.specs.Limits.{TechKeeps, RuleKeeps}
use Rattle.via_arrays.specs.declared.error.ArrayError.TheVariants as arrays
use Rattle.via_arrays.specs.declared.error.StackError.{StackError}
use Rattle.via_arrays.specs.declared.error.StackError.TheVariants as errors
use Rattle.via_arrays.specs.declared.parts.CutArray.{CutArray}
use Rattle.via_arrays.specs.Arrays.{IsArray, IsArrayRefused, IsCount, HasNoCut, array_of, cut_along, pitch_along, lower_along, upper_along}
use Rattle.via_arrays.specs.Choice.{IsRule}
use Rattle.via_arrays.specs.Cuts.{IsMost, count_by_division}
use Rattle.via_arrays.specs.Extents.{extent}
use Rattle.via_arrays.specs.Lengths.{IsUnits, in_units, IsOnGrid, IsRuleOnGrid}
use Rattle.via_arrays.specs.Pairs.{IsPairRefused, HasResistance}
use Rattle.via_arrays.specs.Resistances.{IsResistance}
use Rattle.via_arrays.specs.Stacks.{IsJoined, IsLowestRefused}

-- The greatest number of cuts is what one division gives, up to the limit.
abbrev pub ByDivision : Type 0
ByDivision = (limit extent cut pitch enclosure n : ℕ) → 0 < pitch → (IsMost limit extent cut pitch enclosure n) ↔ (n ≡ min (count_by_division extent cut pitch enclosure) limit)

-- ## resistances

nearest_exists : (n d : ℕ) → 0 < d → IsNearest n d ((2 * n + d) / (2 * d))
nearest_exists n d h =
    let sum = div-add-mod' (2 * n + d) (2 * d) in
    let small : (2 * n + d) % (2 * d) < 2 * d = mod-lt (2 * n + d) (omega arith) in
    let left : (2 * n + d) / (2 * d) * (2 * d) ≡ 2 * ((2 * n + d) / (2 * d) * d) = omega arith in
    let right : ((2 * n + d) / (2 * d) + 1) * d ≡ (2 * n + d) / (2 * d) * d + d = omega arith in
    record { reached = omega arith; below = omega arith }

-- ## lengths in units

some_units : (units length : ℕ) → 1 ≤ units → 0 < length → IsOnGrid units length → 1 ≤ in_units units length
some_units units length some long whole = let m : 1 * 1 ≤ length * units = mul-le 1 1 length units long some in omega arith

rule_keeps : (tech : Tech) → TechKeeps tech → (place : ℕ) (rule : ViaRule) → IsRule tech place rule → RuleKeeps tech rule
rule_keeps tech keeps place rule is =
    subst (RuleKeeps tech) (get_or_from_slice_get tech.rules place rule rule is) (keeps.rules place rule (slice_get_within tech.rules place rule is))

some_pitch : (tech : Tech) (rule : ViaRule) (units : ℕ) (axis : Axis) → RuleKeeps tech rule → IsUnits units → IsRuleOnGrid units rule → 0 < pitch_along rule units axis
some_pitch tech rule units X keeps is on_grid =
    let cut = keeps.some_x in let le = keeps.cut_x in
    let long : 0 < rule.pitch_x = omega arith in
    let one : 1 ≤ in_units units rule.pitch_x = some_units units rule.pitch_x is.0 long on_grid.pitch_x in omega arith
some_pitch tech rule units Y keeps is on_grid =
    let cut = keeps.some_y in let le = keeps.cut_y in
    let long : 0 < rule.pitch_y = omega arith in
    let one : 1 ≤ in_units units rule.pitch_y = some_units units rule.pitch_y is.0 long on_grid.pitch_y in omega arith

module _ (division : ByDivision) (tech : Tech) (keeps : TechKeeps tech) (crossing : Rect) (units : ℕ) (is_units : IsUnits units) where
  -- ## counts

  -- as many as fit up to the other limit
  abbrev other : ViaRule → Axis → ℕ → ℕ
  other rule axis limit = min (count_by_division (extent axis crossing) (cut_along rule units axis) (pitch_along rule units axis) (max (lower_along tech rule units axis) (upper_along tech rule units axis))) limit

  count_other : (rule : ViaRule) (axis : Axis) (limit : ℕ) → 0 < pitch_along rule units axis → IsCount tech rule units axis crossing limit (other rule axis limit)
  count_other rule axis limit some =
      (division limit (extent axis crossing) (cut_along rule units axis) (pitch_along rule units axis) (max (lower_along tech rule units axis) (upper_along tech rule units axis)) (other rule axis limit) some).1 refl

  -- it is 0 where none fits up to one limit, and else it isn't
  some_other : (rule : ViaRule) (axis : Axis) (limit limit' n : ℕ) → 0 < pitch_along rule units axis → IsCount tech rule units axis crossing limit n → 0 < n → 1 ≤ limit' → 0 < other rule axis limit'
  some_other rule axis limit limit' n some is has le =
      let e =
      (division limit (extent axis crossing) (cut_along rule units axis) (pitch_along rule units axis) (max (lower_along tech rule units axis) (upper_along tech rule units axis)) n some).0 is in
      omega (arith, e)

  none_other : (rule : ViaRule) (axis : Axis) (limit limit' : ℕ) → 0 < pitch_along rule units axis → HasNoCut tech rule units axis crossing limit → 1 ≤ limit → HasNoCut tech rule units axis crossing limit'
  none_other rule axis limit limit' some is le =
      let e =
      (division limit (extent axis crossing) (cut_along rule units axis) (pitch_along rule units axis) (max (lower_along tech rule units axis) (upper_along tech rule units axis)) 0 some).0 is in
      let none : 0 ≡ other rule axis limit' = omega (arith, e) in
      subst (IsCount tech rule units axis crossing limit') (sym none) (count_other rule axis limit' some)

  -- ## arrays

  array_other : (place c r c' r' : ℕ) (array : CutArray) → 1 ≤ c' → 1 ≤ r' → IsArray tech place crossing units c r array
      → (other : CutArray) × IsArray tech place crossing units c' r' other × (0 < other.columns * other.rows)
  array_other place c r c' r' array some_c some_r is =
      let rule = rule_keeps tech keeps place is.rule is.is_rule in
      let pitch_x = some_pitch tech is.rule units X rule is_units is.on_grid in
      let pitch_y = some_pitch tech is.rule units Y rule is_units is.on_grid in
      let columns : 0 < other is.rule X c' = some_other is.rule X c c' array.columns pitch_x is.columns is.some_columns some_c in
      let rows : 0 < other is.rule Y r' = some_other is.rule Y r r' array.rows pitch_y is.rows is.some_rows some_r in
      let many : 1 * 1 ≤ other is.rule X c' * other is.rule Y r' = mul-le 1 1 (other is.rule X c') (other is.rule Y r') columns rows in (
        array_of tech is.rule units place (other is.rule X c') (other is.rule Y r'),
        record {
          rule = is.rule;
          is_rule = is.is_rule;
          on_grid = is.on_grid;
          columns = count_other is.rule X c' pitch_x;
          rows = count_other is.rule Y r' pitch_y;
          some_columns = columns;
          some_rows = rows;
          is = refl;
        },
        omega arith,
      )

  -- ## pairs and stacks

  resistance_other : (place n ohms : ℕ) (array array' : CutArray) → n ≡ array'.columns * array'.rows → 0 < n → HasResistance tech place array ohms → (o : ℕ) × HasResistance tech place array' o
  resistance_other place n ohms array array' is some has =
      let nearest = (2 * has.per_cut + n) / (2 * n) in
      let near : IsNearest has.per_cut n nearest = nearest_exists has.per_cut n some in (
        max nearest 1,
        record {
          rule = has.rule;
          is_rule = has.is_rule;
          per_cut = has.per_cut;
          stated = has.stated;
          shared = subst (λ (d : ℕ). IsResistance has.per_cut d (max nearest 1)) is (record { nearest = nearest; is_nearest = near; is = refl });
        },
      )

  joined_other : (c r c' r' layer : ℕ) → 1 ≤ c' → 1 ≤ r' → IsJoined tech crossing units c r layer → IsJoined tech crossing units c' r' layer
  joined_other c r c' r' layer some_c some_r (array, ohms, pair) =
      let made = array_other pair.place c r c' r' array some_c some_r pair.made in
      let shared = resistance_other pair.place (made.0.columns * made.0.rows) ohms array made.0 refl made.2 pair.shared in
      (made.0, shared.0, record { place = pair.place; chosen = pair.chosen; made = made.1; shared = shared.1 })

  none_fits : (place c r c' r' : ℕ) → 1 ≤ c → 1 ≤ r → IsArrayRefused tech place crossing units c r arrays.NoCutFits → IsArrayRefused tech place crossing units c' r' arrays.NoCutFits
  none_fits place c r c' r' some_c some_r (rule, is, (on_grid, none)) = (rule, is, (on_grid, by_axis none))
    where
      rule_is : RuleKeeps tech rule
      rule_is = rule_keeps tech keeps place rule is

      by_axis : HasNoCut tech rule units X crossing c ⊎ HasNoCut tech rule units Y crossing r → HasNoCut tech rule units X crossing c' ⊎ HasNoCut tech rule units Y crossing r'
      by_axis (inl x) = inl (none_other rule X c c' (some_pitch tech rule units X rule_is is_units on_grid) x some_c)
      by_axis (inr y) = inr (none_other rule Y r r' (some_pitch tech rule units Y rule_is is_units on_grid) y some_r)

  pair_refused : (c r c' r' layer : ℕ) (e : StackError) → 1 ≤ c → 1 ≤ r → 1 ≤ c' → 1 ≤ r' → IsPairRefused tech crossing units c r layer e → IsPairRefused tech crossing units c' r' layer e
  pair_refused c r c' r' layer (errors.NoRule k) c1 r1 c2 r2 x = x
  pair_refused c r c' r' layer (errors.OffGrid k) c1 r1 c2 r2 x = x
  pair_refused c r c' r' layer (errors.NoCutFits k) c1 r1 c2 r2 (is, (place, first, refused)) = (is, (place, first, none_fits place c r c' r' c1 r1 refused))
  pair_refused c r c' r' layer (errors.NoResistance k) c1 r1 c2 r2 (is, (place, first, ((array, made), none))) =
      let other = array_other place c r c' r' array c2 r2 made in (is, (place, first, ((other.0, other.1), none)))
  pair_refused c r c' r' layer errors.Want c1 r1 c2 r2 x = absurd x

  -- A stack that is refused up to these limits is refused up to others, for the same reason.
  pub lowest_other : (c r c' r' from to : ℕ) (e : StackError) → 1 ≤ c → 1 ≤ r → 1 ≤ c' → 1 ≤ r' → IsLowestRefused tech crossing units c r from to e → IsLowestRefused tech crossing units c' r' from to e
  lowest_other c r c' r' from to e c1 r1 c2 r2 x = record {
    layer = x.layer;
    above = x.above;
    below = x.below;
    joined = λ k low high. joined_other c r c' r' k c2 r2 (x.joined k low high);
    refused = pair_refused c r c' r' x.layer e c1 r1 c2 r2 x.refused;
  }
