-- One pair, one stack, one refusal.
use Rattle.std.proofs.Common.{◌≡◌, ℕ, suc, ◌+◌, ◌-◌, ◌*◌, ◌<◌, ◌≤◌, inl, inr, List, [], ◌∷◌, length, slice_get, Option, Some, None, ap, subst, sym, ◌∙◌, refl, arith}
use Rattle.std.proofs.lemmas.Bool.{cases_lt}
use Rattle.std.proofs.lemmas.Option.{slice_get_within}
use Rattle.geom_rect.specs.declared.rect.Rect.{Rect}
use Rattle.lef_tech.specs.declared.tech.Tech.{Tech}
use Rattle.via_arrays.specs.declared.error.ArrayError.TheVariants as arrays
use Rattle.via_arrays.specs.declared.error.StackError.{StackError}
use Rattle.via_arrays.specs.declared.error.StackError.TheVariants.{NoRule, OffGrid, NoCutFits, NoResistance, Want}
use Rattle.via_arrays.specs.declared.parts.CutArray.{CutArray}
use Rattle.via_arrays.specs.declared.parts.Stack.{Stack}
use Rattle.via_arrays.specs.Choice.{IsFirstRule}
use Rattle.via_arrays.specs.Arrays.{IsArray, IsArrayRefused}
use Rattle.via_arrays.specs.Resistances.{IsResistance, per_cut_of}
use Rattle.via_arrays.specs.Pairs.{HasResistance, HasNoResistance, IsPair, FirstRuleHas, HasOnlyCuts, IsPairRefused}
use Rattle.via_arrays.specs.Stacks.{IsStack, IsLowestRefused}
use Rattle.via_arrays.proofs.Rules.{rule_unique}
use Rattle.via_arrays.proofs.Joined.{element}
use Rattle.via_arrays.proofs.Single.{first_rule_unique, some_or_none, array_unique, array_or_refused, refusal_unique, resistance_unique}

-- ## resistances of arrays

stated_same : (o p : Option ℕ) (a b : ℕ) → o ≡ Some a → p ≡ Some b → o ≡ p → a ≡ b
stated_same o p a b e f same = cc

shared_unique : (tech : Tech) (place : ℕ) (array : CutArray) (a b : ℕ) → HasResistance tech place array a → HasResistance tech place array b → a ≡ b
shared_unique tech place array a b of_a of_b =
    let rules : of_b.rule ≡ of_a.rule = rule_unique tech place of_b.rule of_a.rule of_b.is_rule of_a.is_rule in
    let per_cuts : of_b.per_cut ≡ of_a.per_cut =
    stated_same (per_cut_of tech of_b.rule) (per_cut_of tech of_a.rule) of_b.per_cut of_a.per_cut of_b.stated of_a.stated (ap (per_cut_of tech) rules) in
    resistance_unique of_a.per_cut (array.columns * array.rows) a b of_a.shared (subst (λ n. IsResistance n (array.columns * array.rows) b) per_cuts of_b.shared)

stated_or_not : (o p : Option ℕ) (a : ℕ) → o ≡ Some a → p ≡ None → o ≡ p → ⊥
stated_or_not o p a e f same = cc

shared_or_none : (tech : Tech) (place : ℕ) (array : CutArray) (a : ℕ) → HasResistance tech place array a → HasNoResistance tech place → ⊥
shared_or_none tech place array a of_a none =
    stated_or_not (per_cut_of tech of_a.rule) (per_cut_of tech none.0) of_a.per_cut of_a.stated none.2
    (ap (per_cut_of tech) (rule_unique tech place of_a.rule none.0 of_a.is_rule none.1))

-- ## pairs

-- What the one first rule has.
of_first : (tech : Tech) (crossing : Rect) (units layer place : ℕ) (P : ℕ → Type 0) → IsFirstRule tech layer (layer + 1) crossing units place → FirstRuleHas tech crossing units layer P → P place
of_first tech crossing units layer place P first has = subst P (first_rule_unique tech layer (layer + 1) crossing units has.0 place has.1 first) has.2

pair_unique : (tech : Tech) (crossing : Rect) (units max_columns max_rows layer : ℕ) (a b : CutArray) (r s : ℕ) → IsPair tech crossing units max_columns max_rows layer a r
    → IsPair tech crossing units max_columns max_rows layer b s → (a ≡ b) × (r ≡ s)
pair_unique tech crossing units max_columns max_rows layer a b r s of_a of_b =
    let places : of_b.place ≡ of_a.place = first_rule_unique tech layer (layer + 1) crossing units of_b.place of_a.place of_b.chosen of_a.chosen in
    let made : IsArray tech of_a.place crossing units max_columns max_rows b = subst (λ p. IsArray tech p crossing units max_columns max_rows b) places of_b.made in
    let same : a ≡ b = array_unique tech of_a.place crossing units max_columns max_rows a b of_a.made made in
    let shared : HasResistance tech of_a.place a s = subst (λ (x : CutArray). HasResistance tech of_a.place x s) (sym same) (subst (λ p. HasResistance tech p b s) places of_b.shared) in
    (same, shared_unique tech of_a.place a r s of_a.shared shared)

pair_or_refused : (tech : Tech) (crossing : Rect) (units max_columns max_rows layer : ℕ) (a : CutArray) (r : ℕ) (e : StackError)
    → IsPair tech crossing units max_columns max_rows layer a r → IsPairRefused tech crossing units max_columns max_rows layer e → ⊥
pair_or_refused tech crossing units max_columns max_rows layer a r (NoRule k) of_a refusal = some_or_none tech layer (layer + 1) crossing units of_a.place of_a.chosen refusal.1
pair_or_refused tech crossing units max_columns max_rows layer a r (OffGrid k) of_a refusal =
    let at = of_first tech crossing units layer of_a.place (λ place. (k ≡ place) × IsArrayRefused tech place crossing units max_columns max_rows arrays.OffGrid) of_a.chosen refusal in
    array_or_refused tech of_a.place crossing units max_columns max_rows a arrays.OffGrid of_a.made at.1
pair_or_refused tech crossing units max_columns max_rows layer a r (NoCutFits k) of_a refusal =
    let at = of_first tech crossing units layer of_a.place (λ place. IsArrayRefused tech place crossing units max_columns max_rows arrays.NoCutFits) of_a.chosen refusal.1 in
    array_or_refused tech of_a.place crossing units max_columns max_rows a arrays.NoCutFits of_a.made at
pair_or_refused tech crossing units max_columns max_rows layer a r (NoResistance k) of_a refusal =
    let at = of_first tech crossing units layer of_a.place (λ place. HasNoResistance tech place) of_a.chosen (refusal.1.0, refusal.1.1, refusal.1.2.1) in
    shared_or_none tech of_a.place a r of_a.shared at
pair_or_refused tech crossing units max_columns max_rows layer a r Want of_a refusal = absurd refusal

-- ## refusals of a pair

grid_or_cut : arrays.OffGrid ≡ arrays.NoCutFits → ⊥
grid_or_cut e = cc

pair_refusal_unique : (tech : Tech) (crossing : Rect) (units max_columns max_rows layer : ℕ) (e f : StackError) → IsPairRefused tech crossing units max_columns max_rows layer e
    → IsPairRefused tech crossing units max_columns max_rows layer f → e ≡ f
pair_refusal_unique tech crossing units max_columns max_rows layer = by_errors
  where
    none : (place : ℕ) → IsFirstRule tech layer (layer + 1) crossing units place → IsPairRefused tech crossing units max_columns max_rows layer (NoRule layer) → ⊥
    none place first refusal = some_or_none tech layer (layer + 1) crossing units place first refusal.1

    Off : ℕ → ℕ → Type 0
    Off k place = (k ≡ place) × IsArrayRefused tech place crossing units max_columns max_rows arrays.OffGrid

    NoCut : ℕ → Type 0
    NoCut place = IsArrayRefused tech place crossing units max_columns max_rows arrays.NoCutFits

    Only : ℕ → Type 0
    Only place = HasOnlyCuts tech crossing units max_columns max_rows place

    FirstHas : (ℕ → Type 0) → Type 0
    FirstHas P = FirstRuleHas tech crossing units layer P

    both : (P Q : ℕ → Type 0) → FirstHas P → FirstHas Q → (place : ℕ) × P place × Q place
    both P Q p q = (p.0, p.2, of_first tech crossing units layer p.0 Q p.1 q)

    off_cut : (k : ℕ) → FirstHas (Off k) → FirstHas NoCut → ⊥
    off_cut k p q =
        let b = both (Off k) NoCut p q in
        grid_or_cut (refusal_unique tech b.0 crossing units max_columns max_rows arrays.OffGrid arrays.NoCutFits b.1.1 b.2)

    off_only : (k : ℕ) → FirstHas (Off k) → FirstHas Only → ⊥
    off_only k p q =
        let b = both (Off k) Only p q in
        array_or_refused tech b.0 crossing units max_columns max_rows b.2.0.0 arrays.OffGrid b.2.0.1 b.1.1

    cut_only : FirstHas NoCut → FirstHas Only → ⊥
    cut_only p q =
        let b = both NoCut Only p q in
        array_or_refused tech b.0 crossing units max_columns max_rows b.2.0.0 arrays.NoCutFits b.2.0.1 b.1

    off_off : (k j : ℕ) → FirstHas (Off k) → FirstHas (Off j) → k ≡ j
    off_off k j p q = let b = both (Off k) (Off j) p q in b.1.0 ∙ sym b.2.0

    by_errors : (e f : StackError) → IsPairRefused tech crossing units max_columns max_rows layer e → IsPairRefused tech crossing units max_columns max_rows layer f → e ≡ f
    by_errors (NoRule k) (NoRule j) a b = ap NoRule (a.0 ∙ sym b.0)
    by_errors (NoRule k) (OffGrid j) a b = absurd (none b.0 b.1 (refl, a.1))
    by_errors (NoRule k) (NoCutFits j) a b = absurd (none b.1.0 b.1.1 (refl, a.1))
    by_errors (NoRule k) (NoResistance j) a b = absurd (none b.1.0 b.1.1 (refl, a.1))
    by_errors (OffGrid k) (NoRule j) a b = absurd (none a.0 a.1 (refl, b.1))
    by_errors (OffGrid k) (OffGrid j) a b = ap OffGrid (off_off k j a b)
    by_errors (OffGrid k) (NoCutFits j) a b = absurd (off_cut k a b.1)
    by_errors (OffGrid k) (NoResistance j) a b = absurd (off_only k a b.1)
    by_errors (NoCutFits k) (NoRule j) a b = absurd (none a.1.0 a.1.1 (refl, b.1))
    by_errors (NoCutFits k) (OffGrid j) a b = absurd (off_cut j b a.1)
    by_errors (NoCutFits k) (NoCutFits j) a b = ap NoCutFits (a.0 ∙ sym b.0)
    by_errors (NoCutFits k) (NoResistance j) a b = absurd (cut_only a.1 b.1)
    by_errors (NoResistance k) (NoRule j) a b = absurd (none a.1.0 a.1.1 (refl, b.1))
    by_errors (NoResistance k) (OffGrid j) a b = absurd (off_only j b a.1)
    by_errors (NoResistance k) (NoCutFits j) a b = absurd (cut_only b.1 a.1)
    by_errors (NoResistance k) (NoResistance j) a b = ap NoResistance (a.0 ∙ sym b.0)
    by_errors Want f a b = absurd a
    by_errors e Want a b = absurd b

-- ## stacks

same_items : {X : Type 0} (xs ys : List X) → length xs ≡ length ys → ((k : ℕ) (x y : X) → slice_get xs k ≡ Some x → slice_get ys k ≡ Some y → x ≡ y) → xs ≡ ys
same_items [] [] e same = refl
same_items [] (y ∷ ys) e same = absurd (omega arith)
same_items (x ∷ xs) [] e same = absurd (omega arith)
same_items (x ∷ xs) (y ∷ ys) e same =
    ap (λ z. z ∷ xs) (same 0 x y refl refl) ∙ ap (λ zs. y ∷ zs) (same_items xs ys (omega arith) (λ k a b in_xs in_ys. same (suc k) a b in_xs in_ys))

abbrev made_of : ℕ → ℕ → List CutArray → List ℕ → Stack
made_of from to arrays ohms = record { from = from; to = to; arrays = arrays; ohms = ohms }

-- Stacks with the same layers, arrays and resistances.
same_stack : (a b : Stack) → a.from ≡ b.from → a.to ≡ b.to → a.arrays ≡ b.arrays → a.ohms ≡ b.ohms → a ≡ b
same_stack a b from to arrays ohms =
    ap (λ n. made_of n a.to a.arrays a.ohms) from ∙ ap (λ n. made_of b.from n a.arrays a.ohms) to ∙ ap (λ xs. made_of b.from b.to xs a.ohms) arrays
    ∙ ap (λ os. made_of b.from b.to b.arrays os) ohms

pub stack_unique : (tech : Tech) (crossing : Rect) (units max_columns max_rows from to : ℕ) (a b : Stack) → IsStack tech crossing units max_columns max_rows from to a
    → IsStack tech crossing units max_columns max_rows from to b → a ≡ b
stack_unique tech crossing units max_columns max_rows from to a b of_a of_b =
    same_stack a b (of_a.lowest ∙ sym of_b.lowest) (of_a.highest ∙ sym of_b.highest) (same_items a.arrays b.arrays (of_a.arrays ∙ sym of_b.arrays) arrays_same)
    (same_items a.ohms b.ohms (of_a.ohms ∙ sym of_b.ohms) ohms_same)
  where
    arrays_same : (k : ℕ) (x y : CutArray) → slice_get a.arrays k ≡ Some x → slice_get b.arrays k ≡ Some y → x ≡ y
    arrays_same k x y in_a in_b =
        let within : k < length a.arrays = slice_get_within a.arrays k x in_a in
        let r = element a.ohms k (omega (arith, within, of_a.arrays, of_a.ohms)) in
        let s = element b.ohms k (omega (arith, within, of_a.arrays, of_b.ohms)) in
        (pair_unique tech crossing units max_columns max_rows (from + k) x y r.0 s.0 (of_a.each k x r.0 in_a r.1) (of_b.each k y s.0 in_b s.1)).0

    ohms_same : (k : ℕ) (r s : ℕ) → slice_get a.ohms k ≡ Some r → slice_get b.ohms k ≡ Some s → r ≡ s
    ohms_same k r s in_a in_b =
        let within : k < length a.ohms = slice_get_within a.ohms k r in_a in
        let x = element a.arrays k (omega (arith, within, of_a.ohms, of_a.arrays)) in
        let y = element b.arrays k (omega (arith, within, of_a.ohms, of_b.arrays)) in
        (pair_unique tech crossing units max_columns max_rows (from + k) x.0 y.0 r s (of_a.each k x.0 r x.1 in_a) (of_b.each k y.0 s y.1 in_b)).1

pub stack_or_refused : (tech : Tech) (crossing : Rect) (units max_columns max_rows from to : ℕ) (a : Stack) (e : StackError) → IsStack tech crossing units max_columns max_rows from to a
    → IsLowestRefused tech crossing units max_columns max_rows from to e → ⊥
stack_or_refused tech crossing units max_columns max_rows from to a e of_a refusal =
    let k = refusal.layer - from in
    let above = refusal.above in
    let below = refusal.below in
    let at : from + k ≡ refusal.layer = omega arith in
    let x = element a.arrays k (omega (arith, of_a.arrays)) in
    let r = element a.ohms k (omega (arith, of_a.ohms)) in
    let pair = of_a.each k x.0 r.0 x.1 r.1 in
    pair_or_refused tech crossing units max_columns max_rows refusal.layer x.0 r.0 e (subst (λ n. IsPair tech crossing units max_columns max_rows n x.0 r.0) at pair) refusal.refused

not_below : (tech : Tech) (crossing : Rect) (units max_columns max_rows from to : ℕ) (e f : StackError) (of_e : IsLowestRefused tech crossing units max_columns max_rows from to e)
    (of_f : IsLowestRefused tech crossing units max_columns max_rows from to f) → of_f.layer ≤ of_e.layer
not_below tech crossing units max_columns max_rows from to e f of_e of_f = elim (cases_lt of_e.layer of_f.layer) [
  | inl less ↦
      let j = of_f.joined of_e.layer of_e.above less in
      absurd (pair_or_refused tech crossing units max_columns max_rows of_e.layer j.0 j.1 e j.2 of_e.refused)
  | inr upto ↦ upto
]

pub lowest_unique : (tech : Tech) (crossing : Rect) (units max_columns max_rows from to : ℕ) (e f : StackError) → IsLowestRefused tech crossing units max_columns max_rows from to e
    → IsLowestRefused tech crossing units max_columns max_rows from to f → e ≡ f
lowest_unique tech crossing units max_columns max_rows from to e f of_e of_f =
    let x = not_below tech crossing units max_columns max_rows from to e f of_e of_f in
    let y = not_below tech crossing units max_columns max_rows from to f e of_f of_e in
    let same : of_f.layer ≡ of_e.layer = omega arith in
    pair_refusal_unique tech crossing units max_columns max_rows of_e.layer e f of_e.refused
    (subst (λ n. IsPairRefused tech crossing units max_columns max_rows n f) same of_f.refused)
