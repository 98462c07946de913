-- The sweep over the bars of a connect.
use Rattle.std.proofs.Common.{◌≡◌, ◌≢◌, ◌↔◌, ℕ, ◌+◌, ◌<◌, ◌≤◌, ◌⊎◌, inl, inr, ℤ, ◌<ℤ◌, ◌≤ℤ◌, List, [], ◌∷◌, ◌++◌, All, AllPairs, Contains, length, length-append, get_or, Result, IfOk, subst, refl, sym, ap, ◌∙◌, arith}
use Rattle.std.specs.declared.result.Result.TheVariants.{Ok, Err}
use Rattle.std.specs.BTreeSet.{BTreeSet}
use Rattle.std.proofs.lemmas.Bool.{cases_lt}
use Rattle.std.proofs.lemmas.Int.{ints, by_lt_z}
use Rattle.std.proofs.lemmas.List.{get_or_default, get_or_append_left}
use Rattle.std.proofs.lemmas.List.Elements.{All-contains}
use Rattle.std.proofs.lemmas.List.Quantifiers.{all_pairs_push}
use Rattle.std.proofs.Math.Seq.{get_or-append_seam}
use Rattle.geom_rect.specs.Run.{HasCell, IsHeld, IsOpen, IsMaximal, AreMaximalRuns}
use Rattle.geom_rect.specs.declared.rect.Rect.{Rect}
use Rattle.geom_rect.specs.declared.run.Run.{Run}
use Rattle.grid_stacks.specs.declared.bar.Bar.{Bar}
use Rattle.grid_stacks.specs.declared.bar.Start.{Start}
use Rattle.grid_stacks.specs.declared.connect.Connect.{Connect}
use Rattle.grid_stacks.specs.declared.connect.Site.{Site}
use Rattle.grid_stacks.specs.Crossing.{At}
use Rattle.grid_stacks.specs.inside.Bar.{BarsApart, bar_run}
use Rattle.grid_stacks.specs.inside.Standing.{Lies, IsOverCell, IsFreeCell, Passes, Fits, Crosses, RunAdded, FlatAdded, NoneIs, StillLie, EachHas, OnOneLayer, bar_site, IsNextIn, IsMet, IsRunTo, IsFlatTo}
use Rattle.grid_stacks.specs.Stacking.{AreDifferent, AreMany}
use Rattle.grid_pieces.specs.Laws.Maximal.{separate}

-- what stands at one place is one
pub at_same : {X : Type 0} (xs : List X) (k : ℕ) (a b : X) → At xs k a → At xs k b → a ≡ b
at_same xs k a b at_a at_b = sym at_a.1 ∙ get_or_default xs k a b at_a.0 ∙ at_b.1

pub at_get : {X : Type 0} (xs : List X) (k : ℕ) (d : X) → k < length xs → At xs k (get_or xs k d)
at_get xs k d within = (within, get_or_default xs k (get_or xs k d) d within)

pub at_contains : {X : Type 0} (xs : List X) (k : ℕ) (a : X) → At xs k a → Contains xs a
at_contains xs k a at = (k, at.0, at.1)

pub at_place : {X : Type 0} (xs : List X) (a : X) → (has : Contains xs a) → At xs has.0 a
at_place xs a has = (has.1, has.2)

-- a list with one more at its end
pub push_old : {X : Type 0} (xs : List X) (x y : X) → Contains xs y → Contains (xs ++ x ∷ []) y
push_old xs x y has = (has.0, omega (arith, length-append xs (x ∷ []), has.1), get_or_append_left xs (x ∷ []) y has.0 has.1 ∙ has.2)

pub push_new : {X : Type 0} (xs : List X) (x : X) → Contains (xs ++ x ∷ []) x
push_new xs x = (length xs, omega (arith, length-append xs (x ∷ [])), get_or-append_seam xs x [] x)

pub All-push : {X : Type 0} (P : X → Type 0) (xs : List X) (x : X) → All P xs → P x → All P (xs ++ x ∷ [])
All-push P xs x all here k d below = by_place (cases_lt k (length xs))
  where
    by_place : (k < length xs) ⊎ (length xs ≤ k) → P (get_or (xs ++ x ∷ []) k d)
    by_place (inl earlier) = subst P (sym (get_or_append_left xs (x ∷ []) d k earlier)) (all k d earlier)
    by_place (inr not_earlier) =
        let is : length xs ≡ k = omega (arith, length-append xs (x ∷ [])) in
        subst P (sym (subst (λ n. get_or (xs ++ x ∷ []) n d ≡ x) is (get_or-append_seam xs x [] d))) here

All-weaker : {X : Type 0} (P Q : X → Type 0) (xs : List X) → ((x : X) → P x → Q x) → All P xs → All Q xs
All-weaker P Q xs f all k d within = f (get_or xs k d) (all k d within)

-- at one flat bar, two upright bars at two places have two sites
two_sites : (connect : Connect) (flat : Bar) (uprights : List Bar) (j place : ℕ) (one other : Bar) → AllPairs BarsApart uprights → OnOneLayer uprights → flat.low <ℤ flat.high → j < place
    → At uprights j one → At uprights place other → Passes flat one → Passes flat other → bar_site connect flat one ≡ bar_site connect flat other → ⊥
two_sites connect flat uprights j place one other apart one_layer wide before at_one at_other passes_one passes_other same =
    let is_apart : BarsApart (get_or uprights j one) (get_or uprights place one) = apart j place one before at_other.0 in
    let second : get_or uprights place one ≡ other = get_or_default uprights place one other at_other.0 ∙ at_other.1 in
    let are : BarsApart one other = subst (λ (b : Bar). BarsApart one b) second (subst (λ (b : Bar). BarsApart b (get_or uprights place one)) at_one.1 is_apart) in
    let low_one = passes_one.begins in let high_one = passes_one.ends in let low_other = passes_other.begins in let high_other = passes_other.ends in
    are (sym passes_one.net ∙ passes_other.net) (one_layer one other (at_contains uprights j one at_one) (at_contains uprights place other at_other)) (ap (λ (s : Site). s.x) same)
    (ap (λ (s : Site). s.crossing.x1) same) (ap (λ (s : Site). s.crossing.x2) same) flat.low (omega (arith, ints), omega (arith, ints)) (omega (arith, ints), omega (arith, ints))

-- one more upright bar is met
pub run_more : (connect : Connect) (flat : Bar) (run : Run) (uprights : List Bar) (from place : ℕ) (upright : Bar) (lay lying next : BTreeSet ℕ) (old sites new : List Site)
    → AllPairs BarsApart uprights → OnOneLayer uprights → flat.low <ℤ flat.high → NoneIs connect flat (Fits flat run) uprights old
    → IsRunTo connect flat run uprights from lay lying old sites → IsNextIn uprights lying from place → At uprights place upright → IsMet connect flat run upright sites new
    → ((p : ℕ) → ((p ≡ place) × (upright.to <ℤ flat.low) → ⊥) → Lies lying p → Lies next p) → IsRunTo connect flat run uprights (place + 1) lay next old new
run_more connect flat run uprights from place upright lay lying next old sites new apart one_layer wide others state is_next at met lie = by_met met
  where
    still : StillLie uprights flat lay next
    still p bar at_p over lies =
        lie p (λ w. let same : bar ≡ upright = at_same uprights place bar upright (subst (λ n. At uprights n bar) w.0 at_p) at in
        let over_it : flat.low ≤ℤ upright.to = subst (λ (b : Bar). flat.low ≤ℤ b.to) same over in let below = w.1 in omega (arith, ints)) (state.still p bar at_p over lies)

    -- those before the place were met, or lie no more
    earlier : (list : List Site) → ((s : Site) → Contains sites s → Contains list s) → (p : ℕ) (bar : Bar) → p < place → At uprights p bar → Fits flat run bar → Lies lay p
        → Contains list (bar_site connect flat bar)
    earlier list more p bar before at_p fits lies = by_place (cases_lt p from)
      where
        by_place : (p < from) ⊎ (from ≤ p) → Contains list (bar_site connect flat bar)
        by_place (inl passed) = more (bar_site connect flat bar) (state.every p bar passed at_p fits lies)
        by_place (inr not_passed) =
            let ends = fits.passes.ends in
            let lies_yet = state.still p bar at_p (omega (arith, ints)) lies in
            let h : place ≤ p = is_next.none p lies_yet not_passed in
            absurd (omega arith)

    Came : ℕ → Site → Type 0
    Came n s = Contains old s ⊎ ((j : ℕ) × (bar : Bar) × (j < n) × At uprights j bar × Fits flat run bar × (s ≡ bar_site connect flat bar))

    later : (s : Site) → Came from s → Came (place + 1) s
    later s (inl has) = inl has
    later s (inr w) = inr (w.0, w.1, omega (arith, w.2, is_next.behind), w.3, w.4, w.5)

    by_met : IsMet connect flat run upright sites new → IsRunTo connect flat run uprights (place + 1) lay next old new
    by_met (inr w) = subst (λ list. IsRunTo connect flat run uprights (place + 1) lay next old list) (sym w.1) (record {
      added = record {
        kept = state.added.kept;
        longer = state.added.longer;
        each = All-weaker (Came from) (Came (place + 1)) sites later state.added.each;
        differ = state.added.differ;
      };
      still = still;
      every = λ p bar before at_p fits lies. every_not p bar before at_p fits lies (cases_lt p place);
    })
      where
        every_not : (p : ℕ) (bar : Bar) → p < place + 1 → At uprights p bar → Fits flat run bar → Lies lay p → (p < place) ⊎ (place ≤ p) → Contains sites (bar_site connect flat bar)
        every_not p bar before at_p fits lies (inl low) = earlier sites (λ s has. has) p bar low at_p fits lies
        every_not p bar before at_p fits lies (inr high) =
            let here : p ≡ place = omega arith in
            let same : bar ≡ upright = at_same uprights place bar upright (subst (λ n. At uprights n bar) here at_p) at in
            absurd (w.0 (subst (Fits flat run) same fits))
    by_met (inl w) = subst (λ list. IsRunTo connect flat run uprights (place + 1) lay next old list) (sym w.1) (record {
      added = record {
        kept = λ s has. push_old sites site s (state.added.kept s has);
        longer = omega (arith, length-append sites (site ∷ []), state.added.longer);
        each = All-push (Came (place + 1)) sites site (All-weaker (Came from) (Came (place + 1)) sites later state.added.each) (inr (place, upright, omega arith, at, w.0, refl));
        differ = all_pairs_push (λ a b. a ≢ b) sites site state.added.differ (λ k d within. differs (get_or sites k d) (state.added.each k d within));
      };
      still = still;
      every = λ p bar before at_p fits lies. every_more p bar before at_p fits lies (cases_lt p place);
    })
      where
        site : Site
        site = bar_site connect flat upright

        differs : (s : Site) → Came from s → s ≢ site
        differs s (inl has) same = All-contains (λ (x : Site). x ≢ site) old s (others upright (at_contains uprights place upright at) w.0) has same
        differs s (inr came) same =
            two_sites connect flat uprights came.0 place came.1 upright apart one_layer wide (omega (arith, came.2, is_next.behind)) came.3 at came.4.passes (w.0).passes (sym came.5 ∙ same)

        every_more : (p : ℕ) (bar : Bar) → p < place + 1 → At uprights p bar → Fits flat run bar → Lies lay p → (p < place) ⊎ (place ≤ p)
            → Contains (sites ++ site ∷ []) (bar_site connect flat bar)
        every_more p bar before at_p fits lies (inl low) = earlier (sites ++ site ∷ []) (push_old sites site) p bar low at_p fits lies
        every_more p bar before at_p fits lies (inr high) =
            let here : p ≡ place = omega arith in
            let same : bar ≡ upright = at_same uprights place bar upright (subst (λ n. At uprights n bar) here at_p) at in
            subst (λ (b : Bar). Contains (sites ++ site ∷ []) (bar_site connect flat b)) (sym same) (push_new sites site)

-- nothing is met yet
pub run_none : (connect : Connect) (flat : Bar) (run : Run) (uprights : List Bar) (from : ℕ) (lay : BTreeSet ℕ) (old : List Site) → AreDifferent old
    → ((p : ℕ) (bar : Bar) → p < from → At uprights p bar → flat.net ≡ bar.net → bar.low <ℤ run.from) → IsRunTo connect flat run uprights from lay lay old old
run_none connect flat run uprights from lay old differ passed = record {
  added = record {
    kept = λ s has. has;
    longer = omega arith;
    each = λ k d within. inl (k, within, get_or_default old k (get_or old k d) d within);
    differ = differ;
  };
  still = λ p bar at over lies. lies;
  every = λ p bar before at fits lies. let less = passed p bar before at fits.passes.net in let left = fits.left in absurd (omega (arith, ints));
}

-- all are met
pub run_all : (connect : Connect) (flat : Bar) (run : Run) (uprights : List Bar) (from : ℕ) (lay lying : BTreeSet ℕ) (old new : List Site) → IsRunTo connect flat run uprights from lay lying old new
    → flat.low <ℤ flat.high → All (λ (bar : Bar). bar.low <ℤ bar.high) uprights
    → ((p : ℕ) (bar : Bar) → from ≤ p → At uprights p bar → Lies lying p → flat.net ≡ bar.net → bar.low <ℤ run.to → ⊥) → EachHas connect flat (Fits flat run) uprights lay new
run_all connect flat run uprights from lay lying old new state wide wide_too none p bar at fits lies = by_place (cases_lt p from)
  where
    bar_wide : bar.low <ℤ bar.high
    bar_wide = subst (λ (b : Bar). b.low <ℤ b.high) at.1 (wide_too p bar at.0)

    by_place : (p < from) ⊎ (from ≤ p) → Contains new (bar_site connect flat bar)
    by_place (inl before) = state.every p bar before at fits lies
    by_place (inr not_before) =
        let ends = fits.passes.ends in let right = fits.right in
        absurd (none p bar not_before at (state.still p bar at (omega (arith, ints)) lies) fits.passes.net (omega (arith, ints, bar_wide)))

pub run_added : (connect : Connect) (flat : Bar) (run : Run) (uprights : List Bar) (from : ℕ) (lay lying : BTreeSet ℕ) (old new : List Site) → IsRunTo connect flat run uprights from lay lying old new
    → RunAdded connect flat run uprights (λ _. Unit {0}) old new
run_added connect flat run uprights from lay lying old new state = record {
  kept = state.added.kept;
  longer = state.added.longer;
  each = All-weaker (Came (λ j. j < from)) (Came (λ _. Unit {0})) new weaker state.added.each;
  differ = state.added.differ;
}
  where
    Came : (ℕ → Type 0) → Site → Type 0
    Came Is s = Contains old s ⊎ ((j : ℕ) × (bar : Bar) × Is j × At uprights j bar × Fits flat run bar × (s ≡ bar_site connect flat bar))

    weaker : (s : Site) → Came (λ j. j < from) s → Came (λ _. Unit {0}) s
    weaker s (inl has) = inl has
    weaker s (inr w) = inr (w.0, w.1, tt, w.3, w.4, w.5)

-- a bar fits into a free run where it crosses
pub fits_crosses : (inner : List Rect) (flat : Bar) (run : Run) (upright : Bar) → IsMaximal (IsFreeCell flat inner) run → Fits flat run upright → Crosses inner flat upright
fits_crosses inner flat run upright is fits = record {
  passes = fits.passes;
  free = λ t from to. let left = fits.left in let right = fits.right in is.each t (omega (arith, ints), omega (arith, ints));
}

-- where it crosses it fits into one of the free runs
pub crosses_fits : (inner : List Rect) (flat : Bar) (runs : List Run) (upright : Bar) → AreMaximalRuns (IsFreeCell flat inner) runs → upright.low <ℤ upright.high → Crosses inner flat upright
    → (run : Run) × Contains runs run × Fits flat run upright
crosses_fits inner flat runs upright are wide crosses =
    let held = are.every upright.low (crosses.free upright.low (omega (arith, ints)) wide) in
    let run = held.0 in
    let from : run.from ≤ℤ upright.low = held.2.0 in
    let to : upright.low <ℤ run.to = held.2.1 in
    let is : IsMaximal (IsFreeCell flat inner) run = All-contains (IsMaximal (IsFreeCell flat inner)) runs run are.maximal held.1 in (
      run,
      held.1,
      record {
        passes = crosses.passes;
        left = from;
        right = by_lt_z run.to upright.high (λ inside. absurd (is.after (crosses.free run.to (omega (arith, ints)) inside))) (λ not_inside. not_inside);
      },
    )

-- no free run is looked at yet
pub flat_none : (connect : Connect) (flat : Bar) (runs : List Run) (uprights : List Bar) (lay : BTreeSet ℕ) (old : List Site) → AreDifferent old → IsFlatTo connect flat runs uprights 0 lay lay old old
flat_none connect flat runs uprights lay old differ = record {
  kept = λ s has. has;
  longer = omega arith;
  each = λ k d within. inl (k, within, get_or_default old k (get_or old k d) d within);
  differ = differ;
  still = λ p bar at over lies. lies;
  every = inr (λ k run before. absurd (omega arith));
}

-- no site found so far is that of a bar that fits into the next free run
pub flat_others : (connect : Connect) (inner : List Rect) (flat : Bar) (runs : List Run) (uprights : List Bar) (count : ℕ) (run : Run) (lay lying : BTreeSet ℕ) (old sites : List Site)
    → AreMaximalRuns (IsFreeCell flat inner) runs → All (λ (bar : Bar). bar.low <ℤ bar.high) uprights → At runs count run → NoneIs connect flat (Crosses inner flat) uprights old
    → IsFlatTo connect flat runs uprights count lay lying old sites → NoneIs connect flat (Fits flat run) uprights sites
flat_others connect inner flat runs uprights count run lay lying old sites are wide at others state upright has fits k d within = differs (get_or sites k d) (state.each k d within)
  where
    Came : Site → Type 0
    Came s = Contains old s ⊎ ((j : ℕ) × (r : Run) × (bar : Bar) × (j < count) × At runs j r × Contains uprights bar × Fits flat r bar × (s ≡ bar_site connect flat bar))

    maximal : IsMaximal (IsFreeCell flat inner) run
    maximal = subst (IsMaximal (IsFreeCell flat inner)) at.1 (are.maximal count run at.0)

    differs : (s : Site) → Came s → s ≢ bar_site connect flat upright
    differs s (inl old_one) same =
        All-contains (λ (x : Site). x ≢ bar_site connect flat upright) old s (others upright has (fits_crosses inner flat run upright maximal fits)) old_one same
    differs s (inr came) same =
        let bar = came.2 in
        let r = came.1 in
        let apart_at : (get_or runs came.0 run).to <ℤ (get_or runs count run).from = (separate (IsFreeCell flat inner) runs are).apart came.0 count run came.3 at.0 in
        let one : get_or runs came.0 run ≡ r = get_or_default runs came.0 run r came.4.0 ∙ came.4.1 in
        let apart : r.to <ℤ run.from = subst (λ (x : Run). r.to <ℤ x.from) at.1 (subst (λ (x : Run). x.to <ℤ (get_or runs count run).from) one apart_at) in
        let low : bar.low ≡ upright.low = ap (λ (x : Site). x.crossing.x1) (sym came.7 ∙ same) in
        let bar_wide : bar.low <ℤ bar.high = All-contains (λ (b : Bar). b.low <ℤ b.high) uprights bar wide came.5 in
        let right : bar.high ≤ℤ r.to = came.6.right in
        let left : run.from ≤ℤ upright.low = fits.left in
        omega (arith, ints)

-- one more free run is looked at
pub flat_more : (connect : Connect) (flat : Bar) (runs : List Run) (uprights : List Bar) (count : ℕ) (run : Run) (lay lying next : BTreeSet ℕ) (old sites new : List Site) → flat.low <ℤ flat.high
    → At runs count run → IsFlatTo connect flat runs uprights count lay lying old sites → RunAdded connect flat run uprights (λ _. Unit {0}) sites new → StillLie uprights flat lying next
    → (AreMany new ⊎ EachHas connect flat (Fits flat run) uprights lying new) → IsFlatTo connect flat runs uprights (count + 1) lay next old new
flat_more connect flat runs uprights count run lay lying next old sites new wide at state added still every = record {
  kept = λ s has. added.kept s (state.kept s has);
  longer = omega (arith, state.longer, added.longer);
  each = λ k d within. came (get_or new k d) (added.each k d within);
  differ = added.differ;
  still = λ p bar at_p over lies. still p bar at_p over (state.still p bar at_p over lies);
  every = by_every state.every every;
}
  where
    Came : ℕ → Site → Type 0
    Came n s = Contains old s ⊎ ((j : ℕ) × (r : Run) × (bar : Bar) × (j < n) × At runs j r × Contains uprights bar × Fits flat r bar × (s ≡ bar_site connect flat bar))

    later : (s : Site) → Came count s → Came (count + 1) s
    later s (inl has) = inl has
    later s (inr w) = inr (w.0, w.1, w.2, omega (arith, w.3), w.4, w.5, w.6, w.7)

    came : (s : Site) → Contains sites s ⊎ ((j : ℕ) × (bar : Bar) × Unit {0} × At uprights j bar × Fits flat run bar × (s ≡ bar_site connect flat bar)) → Came (count + 1) s
    came s (inl has) = later s (All-contains (Came count) sites s state.each has)
    came s (inr w) = inr (count, run, w.1, omega arith, at, at_contains uprights w.0 w.1 w.3, w.4, w.5)

    Each : ℕ → List Site → Type 0
    Each n list = (k : ℕ) (r : Run) → k < n → At runs k r → EachHas connect flat (Fits flat r) uprights lay list

    by_every : AreMany sites ⊎ Each count sites → AreMany new ⊎ EachHas connect flat (Fits flat run) uprights lying new → AreMany new ⊎ Each (count + 1) new
    by_every (inl many) here = inl (omega (arith, added.longer))
    by_every (inr each) (inl many) = inl many
    by_every (inr each) (inr here) = inr (λ k r before at_k. by_place k r before at_k (cases_lt k count))
      where
        by_place : (k : ℕ) (r : Run) → k < count + 1 → At runs k r → (k < count) ⊎ (count ≤ k) → EachHas connect flat (Fits flat r) uprights lay new
        by_place k r before at_k (inl low) p bar at_p fits lies = added.kept (bar_site connect flat bar) (each k r low at_k p bar at_p fits lies)
        by_place k r before at_k (inr high) p bar at_p fits lies =
            let is : k ≡ count = omega arith in
            let same : r ≡ run = at_same runs count r run (subst (λ n. At runs n r) is at_k) at in
            let ends = fits.passes.ends in
            here p bar at_p (subst (λ (x : Run). Fits flat x bar) same fits) (state.still p bar at_p (omega (arith, ints)) lies)

-- all free runs are looked at
pub flat_added : (connect : Connect) (inner : List Rect) (flat : Bar) (runs : List Run) (uprights : List Bar) (count : ℕ) (lay lying : BTreeSet ℕ) (old new : List Site)
    → AreMaximalRuns (IsFreeCell flat inner) runs → IsFlatTo connect flat runs uprights count lay lying old new → FlatAdded connect inner flat uprights old new
flat_added connect inner flat runs uprights count lay lying old new are state = record {
  kept = state.kept;
  longer = state.longer;
  each = λ k d within. came (get_or new k d) (state.each k d within);
  differ = state.differ;
}
  where
    came : (s : Site) → Contains old s ⊎ ((j : ℕ) × (r : Run) × (bar : Bar) × (j < count) × At runs j r × Contains uprights bar × Fits flat r bar × (s ≡ bar_site connect flat bar))
        → Contains old s ⊎ ((bar : Bar) × Contains uprights bar × Crosses inner flat bar × (s ≡ bar_site connect flat bar))
    came s (inl has) = inl has
    came s (inr w) =
        inr (w.2, w.5, fits_crosses inner flat w.1 w.2 (All-contains (IsMaximal (IsFreeCell flat inner)) runs w.1 are.maximal (at_contains runs w.0 w.1 w.4)) w.6, w.7)

pub flat_every : (connect : Connect) (inner : List Rect) (flat : Bar) (runs : List Run) (uprights : List Bar) (count : ℕ) (lay lying : BTreeSet ℕ) (old new : List Site)
    → AreMaximalRuns (IsFreeCell flat inner) runs → All (λ (bar : Bar). bar.low <ℤ bar.high) uprights → length runs ≤ count → IsFlatTo connect flat runs uprights count lay lying old new
    → AreMany new ⊎ EachHas connect flat (Crosses inner flat) uprights lay new
flat_every connect inner flat runs uprights count lay lying old new are wide all state = by_every state.every
  where
    by_every : AreMany new ⊎ ((k : ℕ) (run : Run) → k < count → At runs k run → EachHas connect flat (Fits flat run) uprights lay new) → AreMany new ⊎ EachHas connect flat (Crosses inner flat) uprights lay new
    by_every (inl many) = inl many
    by_every (inr each) = inr (λ p bar at crosses lies.
        let bar_wide = All-contains (λ (b : Bar). b.low <ℤ b.high) uprights bar wide (at_contains uprights p bar at) in
        let found = crosses_fits inner flat runs bar are bar_wide crosses in
        each found.1.0 found.0 (omega (arith, found.1.1)) (found.1.1, found.1.2) p bar at found.2 lies)

single : {X : Type 0} (r x : X) → Contains (r ∷ []) x → x ≡ r
single r x has =
    let below : has.0 < 1 = has.1 in
    let zero : has.0 ≡ 0 = omega arith in
    sym (subst (λ n. get_or (r ∷ []) n x ≡ x) zero has.2)

-- the cells of a flat bar that no blocked run has are the free ones
pub open_free : (flat : Bar) (inner : List Rect) (blocked : List Run) → ((t : ℤ) → IsHeld blocked t ↔ IsOverCell flat inner t) → (t : ℤ)
    → IsOpen (bar_run flat ∷ []) blocked t ↔ IsFreeCell flat inner t
open_free flat inner blocked over t = (
  λ w. (subst (λ (r : Run). HasCell r t) (single (bar_run flat) w.0.0 w.0.1) w.0.2, λ lies. w.1 ((over t).1 lies)),
  λ w. ((bar_run flat, (0, omega arith, refl), w.0), λ held. w.1 ((over t).0 held)),
)

pub runs_same : (P Q : ℤ → Type 0) (runs : List Run) → ((t : ℤ) → P t ↔ Q t) → AreMaximalRuns P runs → AreMaximalRuns Q runs
runs_same P Q runs same are = record {
  maximal = λ k d within. let is = are.maximal k d within in record {
    some = is.some;
    each = λ t has. (same t).0 (is.each t has);
    before = λ q. is.before ((same _).1 q);
    after = λ q. is.after ((same _).1 q);
  };
  every = λ t q. are.every t ((same t).1 q);
  rising = are.rising;
}

pub ok_weaker : {T E : Type 0} (P Q : T → Type 0) (r : Result T E) → ((x : T) → P x → Q x) → IfOk r P → IfOk r Q
ok_weaker P Q (Ok x) f h = f x h
ok_weaker P Q (Err e) f h = tt
