-- The arrays of a stack: each is of a rule that begins on its layer, and its lengths are those of the rule.
use Rattle.std.proofs.Common.{◌≡◌, ℕ, ◌+◌, ◌<◌, pos, List, All, length, get_or, Some, sym, ap, ◌∙◌, subst, arith}
use Rattle.std.specs.Prelude.{slice_get}
use Rattle.std.specs.List.{enumerate_from}
use Rattle.std.proofs.lemmas.List.Elements.{All-contains}
use Rattle.std.proofs.lemmas.List.FromFn.{length-enumerate_from, get_or-enumerate_from}
use Rattle.std.proofs.lemmas.Option.{same_Some, slice_get-get_or, slice_get_within, get_or_from_slice_get}
use Rattle.geom_rect.specs.declared.rect.Rect.{Rect}
use Rattle.grid_pieces.specs.declared.piece.StackAt.{StackAt}
use Rattle.lef_tech.specs.declared.rule.ViaRule.{ViaRule}
use Rattle.lef_tech.specs.declared.tech.Tech.{Tech}
use Rattle.via_arrays.specs.Arrays.{array_of}
use Rattle.via_arrays.specs.Pairs.{IsPair, HasResistance}
use Rattle.via_arrays.specs.declared.parts.CutArray.{CutArray}
use Rattle.def_writer.specs.Via.{arrays_of}
use Rattle.grid_stacks.specs.declared.connect.Site.{Site}
use Rattle.grid_stacks.specs.Stacking.{IsStackAt, AreStacksAt}
use Rattle.wired_again.specs.Again.{LevelIs, AreOfTheirVias}
use Rattle.drawn_again.proofs.Members.{all_flat}

-- The array is of a rule of the technology that begins on the layer, and has its lengths.
abbrev pub IsOfRule : Tech → ℕ → ℕ → CutArray → Type 0
IsOfRule tech units layer array = (rule : ViaRule) × (slice_get tech.rules array.rule ≡ Some rule) × (rule.lower ≡ layer)
    × (array ≡ array_of tech rule units array.rule array.columns array.rows)

of_rule : (tech : Tech) (crossing : Rect) (units columns rows layer : ℕ) (array : CutArray) (ohms : ℕ) → IsPair tech crossing units columns rows layer array ohms
    → IsOfRule tech units layer array
of_rule tech crossing units columns rows layer array ohms pair =
    let made = pair.made in
    let chosen = pair.chosen in
    let number : array.rule ≡ pair.place = ap (λ (a : CutArray). a.rule) made.is in
    let same : made.rule ≡ chosen.rule = same_Some made.rule chosen.rule (sym made.is_rule ∙ chosen.is) in (
      made.rule,
      subst (λ n. slice_get tech.rules n ≡ Some made.rule) (sym number) made.is_rule,
      ap (λ (r : ViaRule). r.lower) same ∙ chosen.suits.lower_layer,
      subst (λ n. array ≡ array_of tech made.rule units n array.columns array.rows) (sym number) made.is,
    )

resists : (tech : Tech) (crossing : Rect) (units columns rows layer : ℕ) (array : CutArray) (ohms : ℕ) → IsPair tech crossing units columns rows layer array ohms
    → HasResistance tech array.rule array ohms
resists tech crossing units columns rows layer array ohms pair =
    subst (λ n. HasResistance tech n array ohms) (sym (ap (λ (a : CutArray). a.rule) pair.made.is)) pair.shared

-- ## a stack

module _ (tech : Tech) (units : ℕ) (site : Site) (at : StackAt) (is : IsStackAt tech units site at) where
  pair : (k : ℕ) (array : CutArray) (r : ℕ) → k < length at.stack.arrays
      → IsPair tech site.crossing units site.max_columns site.max_rows (site.from + k) (get_or at.stack.arrays k array) (get_or at.stack.ohms k r)
  pair k array r within =
      let arrays = is.stack.arrays in
      let ohms = is.stack.ohms in
      is.stack.each k (get_or at.stack.arrays k array) (get_or at.stack.ohms k r) (slice_get-get_or at.stack.arrays k array within)
      (slice_get-get_or at.stack.ohms k r (omega (arith, within, arrays, ohms)))

  pub array_of_rule : (k : ℕ) (array : CutArray) → k < length at.stack.arrays → IsOfRule tech units (at.stack.from + k) (get_or at.stack.arrays k array)
  array_of_rule k array within =
      subst (λ n. IsOfRule tech units (n + k) (get_or at.stack.arrays k array)) (sym is.stack.lowest)
      (of_rule tech site.crossing units site.max_columns site.max_rows (site.from + k) (get_or at.stack.arrays k array) (get_or at.stack.ohms k 0) (pair k array 0 within))

  pub array_resists : (k : ℕ) (array : CutArray) (r : ℕ) → k < length at.stack.arrays
      → HasResistance tech (get_or at.stack.arrays k array).rule (get_or at.stack.arrays k array) (get_or at.stack.ohms k r)
  array_resists k array r within =
      resists tech site.crossing units site.max_columns site.max_rows (site.from + k) (get_or at.stack.arrays k array) (get_or at.stack.ohms k r) (pair k array r within)

  pub levels_are : All (LevelIs tech) (enumerate_from at.stack.from at.stack.arrays)
  levels_are k d within =
      let long = length-enumerate_from at.stack.from at.stack.arrays in
      let in_arrays : k < length at.stack.arrays = omega (arith, within, long) in
      let (rule, stands, lower, _) = array_of_rule k d.1 in_arrays in
      let number = (get_or at.stack.arrays k d.1).rule in
      subst (LevelIs tech) (sym (get_or-enumerate_from at.stack.from at.stack.arrays k d in_arrays)) (record {
        rule = slice_get_within tech.rules number rule stands;
        lower = λ r. ap (λ (v : ViaRule). v.lower) (get_or_from_slice_get tech.rules number rule r stands) ∙ lower;
      })

-- ## all stacks

abbrev pub IsOfSome : Tech → ℕ → CutArray → Type 0
IsOfSome tech units array = (layer : ℕ) × IsOfRule tech units layer array

pub no_site : Site
no_site = record {
  net = 0;
  x = pos 0;
  y = pos 0;
  from = 0;
  to = 0;
  crossing = record { x1 = pos 0; y1 = pos 0; x2 = pos 0; y2 = pos 0 };
  max_columns = 0;
  max_rows = 0;
}

one_array : (tech : Tech) (units : ℕ) (arrays : List CutArray) → All (IsOfSome tech units) arrays → AreOfTheirVias arrays
one_array tech units arrays of_some a b in_a in_b alike =
    let (_, (rule, stands, _, is)) = All-contains (IsOfSome tech units) arrays a of_some in_a in
    let (_, (rule', stands', _, is')) = All-contains (IsOfSome tech units) arrays b of_some in_b in
    let number : a.rule ≡ b.rule = ap (λ v. v.rule) alike in
    let columns : a.columns ≡ b.columns = ap (λ v. v.columns) alike in
    let rows : a.rows ≡ b.rows = ap (λ v. v.rows) alike in
    let same : rule ≡ rule' = same_Some rule rule' (sym stands ∙ ap (slice_get tech.rules) number ∙ stands') in
    is ∙ (λ i. array_of tech (same i) units (number i) (columns i) (rows i)) ∙ sym is'

pub arrays_alike : (tech : Tech) (units : ℕ) (sites : List Site) (stacks : List StackAt) → AreStacksAt tech units sites stacks → AreOfTheirVias (arrays_of stacks)
arrays_alike tech units sites stacks are =
    one_array tech units (arrays_of stacks) (all_flat (IsOfSome tech units) (λ (at : StackAt). at.stack.arrays) stacks (λ k d within j a in_arrays.
    let many = are.as_many in
    let at = get_or stacks k d in
    let site = get_or sites k no_site in
    (at.stack.from + j, array_of_rule tech units site at (are.each k no_site d (omega (arith, within, many))) j a in_arrays)))
