-- The sweep over all flat bars of a connect.
use Rattle.std.proofs.Common.{◌≡◌, ◌≢◌, ℕ, ◌+◌, ◌<◌, ◌≤◌, ◌⊎◌, inl, inr, ℤ, ◌<ℤ◌, ◌≤ℤ◌, false, List, All, AllPairs, Contains, length, get_or, subst, refl, sym, ap, ◌∙◌, arith}
use Rattle.std.specs.BTreeSet.{BTreeSet}
use Rattle.std.specs.Ordering.{nat_cmp, int_cmp, ordering_then, is_gt}
use Rattle.std.specs.declared.cmp.Ordering.{Ordering}
use Rattle.std.specs.declared.cmp.Ordering.TheVariants.{Less, Equal, Greater}
use Rattle.std.specs.Ordering.{MatchOrdering}
use Rattle.std.proofs.lemmas.Bool.{cases_lt, false≢true}
use Rattle.std.proofs.lemmas.Cmp.{ranked}
use Rattle.std.proofs.lemmas.Int.{ints}
use Rattle.std.proofs.lemmas.List.{get_or_default}
use Rattle.std.proofs.lemmas.List.Elements.{All-contains}
use Rattle.geom_rect.specs.declared.rect.Rect.{Rect}
use Rattle.grid_stacks.specs.declared.bar.Bar.{Bar}
use Rattle.grid_stacks.specs.declared.bar.Start.{Start}
use Rattle.grid_stacks.specs.declared.connect.Connect.{Connect}
use Rattle.grid_stacks.specs.declared.connect.Site.{Site}
use Rattle.grid_stacks.specs.Crossing.{At}
use Rattle.grid_stacks.specs.inside.Bar.{AreByLow, AreByNet, AreStarts, BarsApart}
use Rattle.grid_stacks.specs.inside.Standing.{Lies, Crosses, FlatAdded, AllAdded, NoneIs, StillLie, EachHas, OnOneLayer, AreOpened, bar_site, IsBefore, IsBehind, IsAllTo}
use Rattle.grid_stacks.specs.Stacking.{AreDifferent, AreMany}
use Rattle.grid_pieces.specs.Laws.Orders.{le_from}
use Rattle.grid_stacks.proofs.RunSteps.{at_same, at_contains, at_place}

-- no flat bar is looked at yet
pub all_none : (connect : Connect) (inner : List Rect) (flats uprights : List Bar) (starts : List Start) (lying : BTreeSet ℕ) (old : List Site) → AreDifferent old
    → IsAllTo connect inner flats uprights starts 0 0 lying old old
all_none connect inner flats uprights starts lying old differ = record {
  added = record {
    kept = λ s has. has;
    longer = omega arith;
    each = λ k d within. inl (k, within, get_or_default old k (get_or old k d) d within);
    differ = differ;
  };
  within = omega arith;
  opened = λ k s upright m flat before. absurd (omega arith);
  every = inr (λ i flat upright before. absurd (omega arith));
}

-- no site found so far is that of the next flat bar
pub all_others : (connect : Connect) (inner : List Rect) (flats uprights : List Bar) (starts : List Start) (count next : ℕ) (flat : Bar) (lying : BTreeSet ℕ) (old sites : List Site)
    → All (λ (bar : Bar). bar.low <ℤ bar.high) uprights → AllPairs BarsApart flats → OnOneLayer flats → All (λ (s : Site). s.from ≡ connect.from → s.to ≡ connect.to → ⊥) old → At flats count flat
    → IsAllTo connect inner flats uprights starts count next lying old sites → NoneIs connect flat (Crosses inner flat) uprights sites
all_others connect inner flats uprights starts count next flat lying old sites wide apart one_layer others at state upright has crosses k d within = differs (get_or sites k d) (state.added.each k d within)
  where
    Came : Site → Type 0
    Came s = Contains old s ⊎ ((i : ℕ) × (one : Bar) × (bar : Bar) × (i < count) × At flats i one × Contains uprights bar × Crosses inner one bar × (s ≡ bar_site connect one bar))

    differs : (s : Site) → Came s → s ≢ bar_site connect flat upright
    differs s (inl old_one) same = All-contains (λ (x : Site). x.from ≡ connect.from → x.to ≡ connect.to → ⊥) old s others old_one (ap (λ (x : Site). x.from) same) (ap (λ (x : Site). x.to) same)
    differs s (inr came) same =
        let one = came.1 in
        let bar = came.2 in
        let is : bar_site connect one bar ≡ bar_site connect flat upright = sym came.7 ∙ same in
        let first : get_or flats came.0 flat ≡ one = get_or_default flats came.0 flat one came.4.0 ∙ came.4.1 in
        let are_at : BarsApart (get_or flats came.0 flat) (get_or flats count flat) = apart came.0 count flat came.3 at.0 in
        let are : BarsApart one flat = subst (λ (b : Bar). BarsApart one b) at.1 (subst (λ (b : Bar). BarsApart b (get_or flats count flat)) first are_at) in
        let low : bar.low ≡ upright.low = ap (λ (x : Site). x.crossing.x1) is in
        let bar_wide : bar.low <ℤ bar.high = All-contains (λ (b : Bar). b.low <ℤ b.high) uprights bar wide came.5 in
        let upright_wide : upright.low <ℤ upright.high = All-contains (λ (b : Bar). b.low <ℤ b.high) uprights upright wide has in
        let cell_one = (came.6.free bar.low (omega (arith, ints)) bar_wide).0 in
        let cell_flat = (crosses.free upright.low (omega (arith, ints)) upright_wide).0 in
        are (ap (λ (x : Site). x.net) is) (one_layer one flat (at_contains flats came.0 one came.4) (at_contains flats count flat at)) (ap (λ (x : Site). x.y) is) (ap (λ (x : Site). x.crossing.y1) is)
        (ap (λ (x : Site). x.crossing.y2) is) upright.low (subst (λ (t : ℤ). (one.from ≤ℤ t) × (t <ℤ one.to)) low cell_one) cell_flat

-- one more flat bar is looked at
pub all_more : (connect : Connect) (inner : List Rect) (flats uprights : List Bar) (starts : List Start) (count next n : ℕ) (flat : Bar) (lying opened crossed : BTreeSet ℕ) (old sites new : List Site)
    → AreByLow flats → AreStarts uprights starts → flat.low <ℤ flat.high → At flats count flat → IsAllTo connect inner flats uprights starts count next lying old sites
    → n ≤ length starts → ((k : ℕ) (s : Start) → next ≤ k → k < n → At starts k s → Lies opened s.place) → ((p : ℕ) → Lies lying p → Lies opened p)
    → ((k : ℕ) (s : Start) → n ≤ k → At starts k s → flat.low <ℤ s.from) → FlatAdded connect inner flat uprights sites new → StillLie uprights flat opened crossed
    → (AreMany new ⊎ EachHas connect flat (Crosses inner flat) uprights opened new) → IsAllTo connect inner flats uprights starts (count + 1) n crossed old new
all_more connect inner flats uprights starts count next n flat lying opened crossed old sites new by_low are wide at state within put kept behind added still every = record {
  added = record {
    kept = λ s has. added.kept s (state.added.kept s has);
    longer = omega (arith, state.added.longer, added.longer);
    each = λ k d in_new. came (get_or new k d) (added.each k d in_new);
    differ = added.differ;
  };
  within = within;
  opened = λ k s upright m other before at_start at_upright from at_other over.
      still s.place upright at_upright (lower upright m other from at_other over) (lies k s upright m other before at_start at_upright (omega arith) at_other over (cases_lt k next));
  every = by_every state.every every;
}
  where
    Came : ℕ → Site → Type 0
    Came c s = Contains old s ⊎ ((i : ℕ) × (one : Bar) × (bar : Bar) × (i < c) × At flats i one × Contains uprights bar × Crosses inner one bar × (s ≡ bar_site connect one bar))

    later : (s : Site) → Came count s → Came (count + 1) s
    later s (inl has) = inl has
    later s (inr w) = inr (w.0, w.1, w.2, omega (arith, w.3), w.4, w.5, w.6, w.7)

    came : (s : Site) → Contains sites s ⊎ ((bar : Bar) × Contains uprights bar × Crosses inner flat bar × (s ≡ bar_site connect flat bar)) → Came (count + 1) s
    came s (inl has) = later s (All-contains (Came count) sites s state.added.each has)
    came s (inr w) = inr (count, flat, w.0, omega arith, at, w.1, w.2, w.3)

    lower : (upright : Bar) (m : ℕ) (other : Bar) → count + 1 ≤ m → At flats m other → other.low ≤ℤ upright.to → flat.low ≤ℤ upright.to
    lower upright m other from at_other over =
        let le_at : (get_or flats count flat).low ≤ℤ (get_or flats m flat).low = le_from (get_or flats count flat).low (get_or flats m flat).low (by_low count m flat (omega arith) at_other.0) in
        let one : get_or flats m flat ≡ other = get_or_default flats m flat other at_other.0 ∙ at_other.1 in
        let le : flat.low ≤ℤ other.low = subst (λ (b : Bar). flat.low ≤ℤ b.low) one (subst (λ (b : Bar). b.low ≤ℤ (get_or flats m flat).low) at.1 le_at) in
        omega (arith, ints)

    lies : (k : ℕ) (s : Start) (upright : Bar) (m : ℕ) (other : Bar) → k < n → At starts k s → At uprights s.place upright → count ≤ m → At flats m other → other.low ≤ℤ upright.to
        → (k < next) ⊎ (next ≤ k) → Lies opened s.place
    lies k s upright m other before at_start at_upright from at_other over (inl early) = kept s.place (state.opened k s upright m other early at_start at_upright from at_other over)
    lies k s upright m other before at_start at_upright from at_other over (inr late) = put k s late before at_start

    -- an upright bar that crosses the flat one lies by now
    lies_now : (upright : Bar) → (has : Contains uprights upright) → Crosses inner flat upright → Lies opened has.0
    lies_now upright has crosses = by_start (are.every has.0 upright (at_place uprights upright has))
      where
        start : Start
        start = record { from = upright.from; place = has.0 }

        by_start : Contains starts (record { from = upright.from; place = has.0 }) → Lies opened has.0
        by_start there = by_place (cases_lt there.0 n)
          where
            by_place : (there.0 < n) ⊎ (n ≤ there.0) → Lies opened has.0
            by_place (inl before) =
                let ends = crosses.passes.ends in
                lies there.0 (record { from = upright.from; place = has.0 }) upright count flat before (there.1, there.2) (at_place uprights upright has) (omega arith) at (omega (arith, ints)) (cases_lt there.0 next)
            by_place (inr beyond) =
                let begins = crosses.passes.begins in
                let h = behind there.0 (record { from = upright.from; place = has.0 }) beyond (there.1, there.2) in
                absurd (omega (arith, ints))

    Each : ℕ → List Site → Type 0
    Each c list = (i : ℕ) (one upright : Bar) → i < c → At flats i one → Contains uprights upright → Crosses inner one upright → Contains list (bar_site connect one upright)

    by_every : AreMany sites ⊎ Each count sites → AreMany new ⊎ EachHas connect flat (Crosses inner flat) uprights opened new → AreMany new ⊎ Each (count + 1) new
    by_every (inl many) here = inl (omega (arith, added.longer))
    by_every (inr each) (inl many) = inl many
    by_every (inr each) (inr here) = inr (λ i one upright before at_i has crosses. by_place i one upright before at_i has crosses (cases_lt i count))
      where
        by_place : (i : ℕ) (one upright : Bar) → i < count + 1 → At flats i one → Contains uprights upright → Crosses inner one upright → (i < count) ⊎ (count ≤ i) → Contains new (bar_site connect one upright)
        by_place i one upright before at_i has crosses (inl low) = added.kept (bar_site connect one upright) (each i one upright low at_i has crosses)
        by_place i one upright before at_i has crosses (inr high) =
            let is : i ≡ count = omega arith in
            let same : one ≡ flat = at_same flats count one flat (subst (λ k. At flats k one) is at_i) at in
            let crosses_flat : Crosses inner flat upright = subst (λ (b : Bar). Crosses inner b upright) same crosses in
            subst (λ (b : Bar). Contains new (bar_site connect b upright)) (sym same) (here has.0 upright (at_place uprights upright has) crosses_flat (lies_now upright has crosses_flat))

-- what it says that a bar does not stand behind another
pub by_net : (a b : Bar) → is_gt (ordering_then (nat_cmp a.net b.net) (int_cmp a.low b.low)) ≡ false → (a.net < b.net) ⊎ ((a.net ≡ b.net) × (a.low ≤ℤ b.low))
by_net a b h = by_order (nat_cmp a.net b.net) (ranked a.net b.net (nat_cmp a.net b.net) refl) h
  where
    by_order : (o : Ordering) → MatchOrdering o (a.net < b.net) (a.net ≡ b.net) (b.net < a.net) → is_gt (ordering_then o (int_cmp a.low b.low)) ≡ false → (a.net < b.net) ⊎ ((a.net ≡ b.net) × (a.low ≤ℤ b.low))
    by_order Less is h = inl is
    by_order Equal is h = inr (is, le_from a.low b.low h)
    by_order Greater is h = absurd (false≢true (sym h))

-- the bars up to one that is before a place are
pub before_all : (uprights : List Bar) (middle : ℕ) (d : Bar) (net : ℕ) (x : ℤ) → AreByNet uprights → middle < length uprights → IsBefore (get_or uprights middle d) net x
    → (p : ℕ) (bar : Bar) → p < middle + 1 → At uprights p bar → net ≡ bar.net → bar.low <ℤ x
before_all uprights middle d net x sorted within is p bar below at same = by_place (cases_lt p middle)
  where
    here : get_or uprights p d ≡ bar
    here = get_or_default uprights p d bar at.0 ∙ at.1

    by_both : (bar.net < (get_or uprights middle d).net) ⊎ ((bar.net ≡ (get_or uprights middle d).net) × (bar.low ≤ℤ (get_or uprights middle d).low)) → IsBefore (get_or uprights middle d) net x → bar.low <ℤ x
    by_both (inl less) (inl before) = absurd (omega arith)
    by_both (inl less) (inr before) = absurd (omega (arith, before.0))
    by_both (inr as_) (inl before) = absurd (omega (arith, as_.0))
    by_both (inr as_) (inr before) = let le = as_.1 in let lt = before.1 in omega (arith, ints)

    by_place : (p < middle) ⊎ (middle ≤ p) → bar.low <ℤ x
    by_place (inl earlier) =
        by_both (subst (λ (b : Bar). (b.net < (get_or uprights middle d).net) ⊎ ((b.net ≡ (get_or uprights middle d).net) × (b.low ≤ℤ (get_or uprights middle d).low))) here
        (by_net (get_or uprights p d) (get_or uprights middle d) (sorted p middle d earlier within))) is
    by_place (inr not_earlier) =
        let last : middle ≡ p = omega arith in
        let it : IsBefore bar net x = subst (λ (b : Bar). IsBefore b net x) (subst (λ k. get_or uprights k d ≡ bar) (sym last) here) is in
        alone it
      where
        alone : IsBefore bar net x → bar.low <ℤ x
        alone (inl less) = absurd (omega arith)
        alone (inr w) = w.1

-- the bars from one that is behind a place on are
pub behind_all : (uprights : List Bar) (place : ℕ) (one : Bar) (net : ℕ) (x : ℤ) → AreByNet uprights → At uprights place one → IsBehind one net x
    → (p : ℕ) (bar : Bar) → place ≤ p → At uprights p bar → net ≡ bar.net → bar.low <ℤ x → ⊥
behind_all uprights place one net x sorted at_one is p bar above at same less = by_place (cases_lt place p)
  where
    here : get_or uprights p one ≡ bar
    here = get_or_default uprights p one bar at.0 ∙ at.1

    by_both : (one.net < bar.net) ⊎ ((one.net ≡ bar.net) × (one.low ≤ℤ bar.low)) → IsBehind one net x → ⊥
    by_both (inl lower) (inl behind) = omega arith
    by_both (inl lower) (inr behind) = omega (arith, behind.0)
    by_both (inr as_) (inl behind) = omega (arith, as_.0)
    by_both (inr as_) (inr behind) = let le = as_.1 in let ge = behind.1 in omega (arith, ints)

    by_place : (place < p) ⊎ (p ≤ place) → ⊥
    by_place (inl later) =
        by_both (subst (λ (b : Bar). (one.net < b.net) ⊎ ((one.net ≡ b.net) × (one.low ≤ℤ b.low))) here
        (subst (λ (b : Bar). (b.net < (get_or uprights p one).net) ⊎ ((b.net ≡ (get_or uprights p one).net) × (b.low ≤ℤ (get_or uprights p one).low))) at_one.1
        (by_net (get_or uprights place one) (get_or uprights p one) (sorted place p one later at.0)))) is
    by_place (inr not_later) =
        let last : p ≡ place = omega arith in
        let it : bar ≡ one = at_same uprights place bar one (subst (λ k. At uprights k bar) last at) at_one in
        alone (subst (λ (b : Bar). IsBehind b net x) (sym it) is)
      where
        alone : IsBehind bar net x → ⊥
        alone (inl lower) = omega arith
        alone (inr w) = let ge = w.1 in omega (arith, ints)

pub all_fewer : (connect : Connect) (inner : List Rect) (flats uprights : List Bar) (few many : ℕ) (old new : List Site) → few ≤ many → AllAdded connect inner flats uprights few old new
    → AllAdded connect inner flats uprights many old new
all_fewer connect inner flats uprights few many old new le added = record {
  kept = added.kept;
  longer = added.longer;
  each = λ k d within. more (get_or new k d) (added.each k d within);
  differ = added.differ;
}
  where
    Came : ℕ → Site → Type 0
    Came c s = Contains old s ⊎ ((i : ℕ) × (one : Bar) × (bar : Bar) × (i < c) × At flats i one × Contains uprights bar × Crosses inner one bar × (s ≡ bar_site connect one bar))

    more : (s : Site) → Came few s → Came many s
    more s (inl has) = inl has
    more s (inr w) = inr (w.0, w.1, w.2, omega (arith, w.3), w.4, w.5, w.6, w.7)

pub all_every : (connect : Connect) (inner : List Rect) (flats uprights : List Bar) (starts : List Start) (count next : ℕ) (lying : BTreeSet ℕ) (old new : List Site) → length flats ≤ count
    → IsAllTo connect inner flats uprights starts count next lying old new
    → AreMany new ⊎ ((flat upright : Bar) → Contains flats flat → Contains uprights upright → Crosses inner flat upright → Contains new (bar_site connect flat upright))
all_every connect inner flats uprights starts count next lying old new all state = by_every state.every
  where
    by_every : AreMany new ⊎ ((i : ℕ) (flat upright : Bar) → i < count → At flats i flat → Contains uprights upright → Crosses inner flat upright → Contains new (bar_site connect flat upright))
        → AreMany new ⊎ ((flat upright : Bar) → Contains flats flat → Contains uprights upright → Crosses inner flat upright → Contains new (bar_site connect flat upright))
    by_every (inl many) = inl many
    by_every (inr each) = inr (λ flat upright has has_too crosses. each has.0 flat upright (omega (arith, has.1)) (has.1, has.2) has_too crosses)
