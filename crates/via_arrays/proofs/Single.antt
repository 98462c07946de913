-- One choice, one array, one resistance, one pair, one stack.
use Rattle.std.proofs.Common.{◌≡◌, ℕ, ◌+◌, ◌*◌, ◌<◌, ◌≤◌, inl, inr, max, ap, subst, sym, ◌∙◌, refl, arith}
use Rattle.std.proofs.lemmas.Bool.{cases_lt}
use Rattle.std.proofs.lemmas.Nat.{mul-le}
use Rattle.std.proofs.lemmas.Option.{slice_get_within}
use Rattle.fixed_decimal.specs.Value.{IsNearest}
use Rattle.geom_rect.specs.declared.direction.Axis.{Axis}
use Rattle.geom_rect.specs.declared.direction.Axis.TheVariants.{X, Y}
use Rattle.geom_rect.specs.declared.rect.Rect.{Rect}
use Rattle.lef_tech.specs.declared.rule.ViaRule.{ViaRule}
use Rattle.lef_tech.specs.declared.tech.Tech.{Tech}
use Rattle.via_arrays.specs.declared.error.ArrayError.{ArrayError}
use Rattle.via_arrays.specs.declared.error.ArrayError.TheVariants as arrays
use Rattle.via_arrays.specs.declared.parts.CutArray.{CutArray}
use Rattle.via_arrays.specs.Lengths.{IsRuleOnGrid}
use Rattle.via_arrays.specs.Extents.{extent}
use Rattle.via_arrays.specs.Choice.{IsRule, NoneSuits, IsFirstRule}
use Rattle.via_arrays.specs.Arrays.{cut_along, pitch_along, lower_along, upper_along, IsCount, array_of, IsArray, IsRefused, IsArrayRefused}
use Rattle.via_arrays.specs.Resistances.{IsResistance}
use Rattle.via_arrays.proofs.Rows.{most_unique}
use Rattle.via_arrays.proofs.Rules.{rule_unique}

-- ## rules

not_before : (tech : Tech) (lower upper : ℕ) (crossing : Rect) (units a b : ℕ) → IsFirstRule tech lower upper crossing units a → IsFirstRule tech lower upper crossing units b → b ≤ a
not_before tech lower upper crossing units a b of_a of_b = elim (cases_lt a b) [
  | inl less ↦ absurd (of_b.none a of_a.rule less of_a.is of_a.suits)
  | inr upto ↦ upto
]

pub first_rule_unique : (tech : Tech) (lower upper : ℕ) (crossing : Rect) (units a b : ℕ) → IsFirstRule tech lower upper crossing units a → IsFirstRule tech lower upper crossing units b → a ≡ b
first_rule_unique tech lower upper crossing units a b of_a of_b =
    let x = not_before tech lower upper crossing units a b of_a of_b in
    let y = not_before tech lower upper crossing units b a of_b of_a in
    omega arith

pub some_or_none : (tech : Tech) (lower upper : ℕ) (crossing : Rect) (units a : ℕ) → IsFirstRule tech lower upper crossing units a → NoneSuits tech lower upper crossing units → ⊥
some_or_none tech lower upper crossing units a first none = none a first.rule (slice_get_within tech.rules a first.rule first.is) first.is first.suits

-- ## arrays

count_unique : (tech : Tech) (rule : ViaRule) (units : ℕ) (axis : Axis) (crossing : Rect) (limit n m : ℕ) → IsCount tech rule units axis crossing limit n → IsCount tech rule units axis crossing limit m → n ≡ m
count_unique tech rule units axis crossing limit n m a b =
    most_unique limit (extent axis crossing) (cut_along rule units axis) (pitch_along rule units axis) (max (lower_along tech rule units axis) (upper_along tech rule units axis)) n m a b

-- The array by a rule that is given.
record IsArrayOf (tech : Tech) (rule : ViaRule) (place : ℕ) (crossing : Rect) (units max_columns max_rows : ℕ) (array : CutArray) : Type 0 where
  on_grid : IsRuleOnGrid units rule
  columns : IsCount tech rule units X crossing max_columns array.columns
  rows : IsCount tech rule units Y crossing max_rows array.rows
  some_columns : 0 < array.columns
  some_rows : 0 < array.rows
  is : array ≡ array_of tech rule units place array.columns array.rows

of_rule : (tech : Tech) (rule : ViaRule) (place : ℕ) (crossing : Rect) (units max_columns max_rows : ℕ) (array : CutArray) → IsRule tech place rule
    → IsArray tech place crossing units max_columns max_rows array → IsArrayOf tech rule place crossing units max_columns max_rows array
of_rule tech rule place crossing units max_columns max_rows array is_rule a =
    subst (λ (r : ViaRule). IsArrayOf tech r place crossing units max_columns max_rows array) (rule_unique tech place a.rule rule a.is_rule is_rule)
    (record { on_grid = a.on_grid; columns = a.columns; rows = a.rows; some_columns = a.some_columns; some_rows = a.some_rows; is = a.is })

pub array_unique : (tech : Tech) (place : ℕ) (crossing : Rect) (units max_columns max_rows : ℕ) (a b : CutArray) → IsArray tech place crossing units max_columns max_rows a
    → IsArray tech place crossing units max_columns max_rows b → a ≡ b
array_unique tech place crossing units max_columns max_rows a b of_a of_b =
    let other = of_rule tech of_a.rule place crossing units max_columns max_rows b of_a.is_rule of_b in
    let columns : a.columns ≡ b.columns = count_unique tech of_a.rule units X crossing max_columns a.columns b.columns of_a.columns other.columns in
    let rows : a.rows ≡ b.rows = count_unique tech of_a.rule units Y crossing max_rows a.rows b.rows of_a.rows other.rows in
    of_a.is ∙ ap (λ n. array_of tech of_a.rule units place n a.rows) columns ∙ ap (λ n. array_of tech of_a.rule units place b.columns n) rows ∙ sym other.is

not_refused : (tech : Tech) (rule : ViaRule) (place : ℕ) (crossing : Rect) (units max_columns max_rows : ℕ) (a : CutArray) (e : ArrayError)
    → IsArrayOf tech rule place crossing units max_columns max_rows a → IsRefused tech rule crossing units max_columns max_rows e → ⊥
not_refused tech rule place crossing units max_columns max_rows a arrays.OffGrid is refused = refused is.on_grid
not_refused tech rule place crossing units max_columns max_rows a arrays.NoCutFits is refused = elim refused.1 [
  | inl none ↦ let e = count_unique tech rule units X crossing max_columns a.columns 0 is.columns none in let some = is.some_columns in omega arith
  | inr none ↦ let e = count_unique tech rule units Y crossing max_rows a.rows 0 is.rows none in let some = is.some_rows in omega arith
]

pub array_or_refused : (tech : Tech) (place : ℕ) (crossing : Rect) (units max_columns max_rows : ℕ) (a : CutArray) (e : ArrayError)
    → IsArray tech place crossing units max_columns max_rows a → IsArrayRefused tech place crossing units max_columns max_rows e → ⊥
array_or_refused tech place crossing units max_columns max_rows a e is refused =
    not_refused tech refused.0 place crossing units max_columns max_rows a e (of_rule tech refused.0 place crossing units max_columns max_rows a refused.1 is) refused.2

by_errors : (tech : Tech) (rule : ViaRule) (crossing : Rect) (units max_columns max_rows : ℕ) (e f : ArrayError) → IsRefused tech rule crossing units max_columns max_rows e
    → IsRefused tech rule crossing units max_columns max_rows f → e ≡ f
by_errors tech rule crossing units max_columns max_rows arrays.OffGrid arrays.OffGrid of_e of_f = refl
by_errors tech rule crossing units max_columns max_rows arrays.OffGrid arrays.NoCutFits of_e of_f = absurd (of_e of_f.0)
by_errors tech rule crossing units max_columns max_rows arrays.NoCutFits arrays.OffGrid of_e of_f = absurd (of_f of_e.0)
by_errors tech rule crossing units max_columns max_rows arrays.NoCutFits arrays.NoCutFits of_e of_f = refl

pub refusal_unique : (tech : Tech) (place : ℕ) (crossing : Rect) (units max_columns max_rows : ℕ) (e f : ArrayError) → IsArrayRefused tech place crossing units max_columns max_rows e
    → IsArrayRefused tech place crossing units max_columns max_rows f → e ≡ f
refusal_unique tech place crossing units max_columns max_rows e f of_e of_f =
    by_errors tech of_e.0 crossing units max_columns max_rows e f of_e.2
    (subst (λ (r : ViaRule). IsRefused tech r crossing units max_columns max_rows f) (rule_unique tech place of_f.0 of_e.0 of_f.1 of_e.1) of_f.2)

-- ## resistances

nearest_upto : (n d m k : ℕ) → IsNearest n d m → IsNearest n d k → m ≤ k
nearest_upto n d m k a b = elim (cases_lt k m) [
  | inl more ↦
      let h : (k + 1) * d ≤ m * d = mul-le (k + 1) d m d (omega arith) (omega arith) in
      let x = a.reached in
      let y = b.below in
      absurd (omega arith)
  | inr upto ↦ upto
]

pub resistance_unique : (n d a b : ℕ) → IsResistance n d a → IsResistance n d b → a ≡ b
resistance_unique n d a b of_a of_b =
    let x = nearest_upto n d of_a.nearest of_b.nearest of_a.is_nearest of_b.is_nearest in
    let y = nearest_upto n d of_b.nearest of_a.nearest of_b.is_nearest of_a.is_nearest in
    of_a.is ∙ ap (λ k. max k 1) (let same : of_a.nearest ≡ of_b.nearest = omega arith in same) ∙ sym of_b.is
