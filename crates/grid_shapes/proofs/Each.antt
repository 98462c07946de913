-- The shapes of one command after another, added to those that stand.
use Rattle.std.proofs.Common.{◌≡◌, ℕ, ◌+◌, ◌<◌, ◌≤◌, ◌⊎◌, arith, true, false, List, [], ◌∷◌, ◌++◌, take, length, get_or, refl, sym, ap, ◌∙◌, append_assoc, subst, inl, inr}
use Rattle.std.proofs.lemmas.Bool.{cases_lt}
use Rattle.std.proofs.lemmas.List.{append-nil, take_more, get_or_append_left, get_or_push}
use Rattle.geom_rect.specs.declared.drawn.Drawn.{Drawn}
use Rattle.grid_plan.specs.declared.record.Plan.{Plan}
use Rattle.grid_shapes.specs.Shapes.{AreOfEach, Draws}
use Rattle.grid_shapes.specs.Site.{grid_of}
use Rattle.grid_shapes.specs.inside.Sites.{IsSite, AreSites, Adds}
use Rattle.grid_shapes.specs.declared.site.Site.{Site}

each_push : {C : Type 0} (draws : C → List Drawn → Type 0) (commands : List C) (command : C) (shapes first : List Drawn)
    → AreOfEach draws commands shapes → draws command first → AreOfEach draws (commands ++ command ∷ []) (shapes ++ first)
each_push draws [] command shapes first are is =
    (first, [], is, refl, ap (λ (xs : List Drawn). xs ++ first) are ∙ sym (append-nil first))
each_push draws (other ∷ commands) command shapes first (begin, rest, is_other, are, joined) is = (
  begin,
  rest ++ first,
  is_other,
  each_push draws commands command rest first are is,
  ap (λ (xs : List Drawn). xs ++ first) joined ∙ append_assoc begin rest first,
)

pub each_none : {C : Type 0} (draws : C → List Drawn → Type 0) (old : List Drawn) → Adds (AreOfEach draws []) old old
each_none draws old = ([], refl, sym (append-nil old))

pub each_more : {C : Type 0} (draws : C → List Drawn → Type 0) (commands : List C) (i : ℕ) (d : C) (old before after : List Drawn)
    → i < length commands → Adds (AreOfEach draws (take i commands)) old before → Adds (draws (get_or commands i d)) before after
    → Adds (AreOfEach draws (take (i + 1) commands)) old after
each_more draws commands i d old before after within (added, are, joined) (first, is, more) = (
  added ++ first,
  subst (λ (cs : List _). AreOfEach draws cs (added ++ first)) (sym (take_more commands i d within))
      (each_push draws (take i commands) (get_or commands i d) added first are is),
  more ∙ ap (λ (xs : List Drawn). xs ++ first) joined ∙ append_assoc old added first,
)

-- A grid over macros adds nothing; another one what it draws.
pub adds_nothing : (plan : Plan) (grid : ℕ) (drawn : List Drawn → Type 0) (old : List Drawn) → (grid_of plan grid).over_macros ≡ true
    → Adds (Draws plan grid drawn) old old
adds_nothing plan grid drawn old over = ([], inl (over, refl), sym (append-nil old))

pub adds_drawn : (plan : Plan) (grid : ℕ) (drawn : List Drawn → Type 0) (old new : List Drawn) → (grid_of plan grid).over_macros ≡ false
    → Adds drawn old new → Adds (Draws plan grid drawn) old new
adds_drawn plan grid drawn old new over (added, is, joined) = (added, inr (over, is), joined)

-- What holds at each place, with one more entry.
pub each_pushed : {S : Type 0} (P : ℕ → S → Type 0) (xs : List S) (x : S) (i : ℕ) → length xs ≡ i → ((k : ℕ) (d : S) → k < i → P k (get_or xs k d)) → P i x
    → (k : ℕ) (d : S) → k < i + 1 → P k (get_or (xs ++ x ∷ []) k d)
each_pushed {S} P xs x i long before here k d less = by_place (cases_lt k i)
  where
    by_place : (k < i) ⊎ (i ≤ k) → P k (get_or (xs ++ x ∷ []) k d)
    by_place (inl below) =
        let within : k < length xs = omega arith in
        subst (P k) (sym (get_or_append_left xs (x ∷ []) d k within)) (before k d below)
    by_place (inr reached) =
        let same : i ≡ k = omega arith in
        subst (P k) (sym (get_or_push xs x d k (long ∙ same))) (subst (λ n. P n x) same here)

-- The site of a grid that is not one over macros.
pub site_at : (plan : Plan) (sites : List Site) (k : ℕ) (site : Site) → AreSites plan sites → k < length plan.grids → (grid_of plan k).over_macros ≡ false
    → site ≡ get_or sites k site → IsSite plan k site
site_at plan sites k site are within drawn is =
    subst (IsSite plan k) (sym is) (are.each k site (subst (λ (n : ℕ). k < n) (sym are.as_many) within) drawn)
