-- Lists that take the things of a kind.
use Rattle.std.proofs.Common.{◌≡◌, ℕ, ◌+◌, ◌<◌, ◌≤◌, ◌⊎◌, inl, inr, List, [], ◌∷◌, ◌++◌, take, map, length, get_or, append_assoc, Any, Contains, refl, sym, ap, ◌∙◌, subst, arith}
use Rattle.std.proofs.lemmas.Bool.{cases_lt}
use Rattle.std.proofs.lemmas.List.{take_more, take_all, map_push, map-append}
use Rattle.std.proofs.lemmas.List.Elements.{Contains-append_left, Contains-push, Contains-push_cases}
use Rattle.std.proofs.lemmas.List.Quantifiers.{Any-push}
use Rattle.grid_network.specs.Listing.{ListsAll}
use Rattle.grid_network.specs.inside.Steps.{Adds}

-- ---- some item has a property

pub any_left : {X : Type 0} (P : X → Type 0) (xs : List X) (y : X) → Any P xs → Any P (xs ++ y ∷ [])
any_left P xs y (k, x, within, e, p) = moved (Contains-append_left xs (y ∷ []) x (k, within, e))
  where
    moved : Contains (xs ++ y ∷ []) x → Any P (xs ++ y ∷ [])
    moved (j, j_within, j_e) = (j, x, j_within, j_e, p)

pub any_cases : {X : Type 0} (P : X → Type 0) (xs : List X) (y : X) → Any P (xs ++ y ∷ []) → Any P xs ⊎ P y
any_cases P xs y (k, x, within, e, p) = by (Contains-push_cases xs y x (k, within, e))
  where
    by : (Contains xs x ⊎ (y ≡ x)) → Any P xs ⊎ P y
    by (inl (j, j_within, j_e)) = inl (j, x, j_within, j_e, p)
    by (inr q) = inr (subst P (sym q) p)

pub any_none : {X : Type 0} (P : X → Type 0) → Any P [] → ⊥
any_none P (k, x, within, e, p) = omega arith

-- ---- growing

pub adds_none : {X : Type 0} (P : X → Type 0) (xs : List X) → ((x : X) → P x → ⊥) → Adds P xs xs
adds_none P xs none x = (λ h. inl h, λ h. by h)
  where
    by : (Contains xs x ⊎ P x) → Contains xs x
    by (inl h) = h
    by (inr p) = absurd (none x p)

pub adds_push : {X : Type 0} (P : X → Type 0) (xs : List X) (y : X) → P y → ((x : X) → P x → y ≡ x) → Adds P xs (xs ++ y ∷ [])
adds_push P xs y here one x = (λ h. there (Contains-push_cases xs y x h), λ h. back h)
  where
    there : (Contains xs x ⊎ (y ≡ x)) → Contains xs x ⊎ P x
    there (inl h) = inl h
    there (inr e) = inr (subst P e here)

    back : (Contains xs x ⊎ P x) → Contains (xs ++ y ∷ []) x
    back (inl h) = Contains-append_left xs (y ∷ []) x h
    back (inr p) = subst (Contains (xs ++ y ∷ [])) (one x p) (Contains-push xs y)

pub adds_step : {X : Type 0} (P Q R : X → Type 0) (old mid new : List X) → Adds P old mid → Adds Q mid new → ((x : X) → R x → P x ⊎ Q x) → ((x : X) → P x ⊎ Q x → R x) → Adds R old new
adds_step P Q R old mid new first second out into x = (λ h. there ((second x).0 h), λ h. back h)
  where
    further : (Contains old x ⊎ P x) → Contains old x ⊎ R x
    further (inl h) = inl h
    further (inr p) = inr (into x (inl p))

    there : (Contains mid x ⊎ Q x) → Contains old x ⊎ R x
    there (inl h) = further ((first x).0 h)
    there (inr q) = inr (into x (inr q))

    of_both : (P x ⊎ Q x) → Contains new x
    of_both (inl p) = (second x).1 (inl ((first x).1 (inr p)))
    of_both (inr q) = (second x).1 (inr q)

    back : (Contains old x ⊎ R x) → Contains new x
    back (inl h) = (second x).1 (inl ((first x).1 (inl h)))
    back (inr r) = of_both (out x r)

-- ---- a loop over a list, in which each item adds the things of a kind of its own

-- the things of one of the items
abbrev pub OfAny : {X Y : Type 0} → (Y → X → Type 0) → List Y → X → Type 0
OfAny R ys x = Any (λ y. R y x) ys

pub over_none : {X Y : Type 0} (R : Y → X → Type 0) (ys : List Y) (xs : List X) → Adds (OfAny R (take 0 ys)) xs xs
over_none R ys xs = adds_none (OfAny R (take 0 ys)) xs (λ x h. any_none (λ y. R y x) h)

pub over_more : {X Y : Type 0} (R : Y → X → Type 0) (ys : List Y) (i : ℕ) (d : Y) (old mid new : List X) → i < length ys
    → Adds (OfAny R (take i ys)) old mid → Adds (R (get_or ys i d)) mid new → Adds (OfAny R (take (i + 1) ys)) old new
over_more {X} {Y} R ys i d old mid new within first second =
    let e = take_more ys i d within in
    let F : List Y → Type 0 = λ l. Adds (OfAny R l) old new in
    subst F (sym e)
    (adds_step (OfAny R (take i ys)) (R (get_or ys i d)) (OfAny R (take i ys ++ get_or ys i d ∷ [])) old mid new first second
    (λ x h. any_cases (λ y. R y x) (take i ys) (get_or ys i d) h) (λ x h. back x h))
  where
    back : (x : X) → (OfAny R (take i ys) x ⊎ R (get_or ys i d) x) → OfAny R (take i ys ++ get_or ys i d ∷ []) x
    back x (inl h) = any_left (λ y. R y x) (take i ys) (get_or ys i d) h
    back x (inr r) = Any-push (λ y. R y x) (take i ys) (get_or ys i d) r

pub over_all : {X Y : Type 0} (R : Y → X → Type 0) (ys : List Y) (i : ℕ) (old new : List X) → length ys ≤ i → Adds (OfAny R (take i ys)) old new → Adds (OfAny R ys) old new
over_all {X} {Y} R ys i old new all h = let F : List Y → Type 0 = λ l. Adds (OfAny R l) old new in subst F (take_all i ys all) h

-- one thing is pushed
pub adds_pushed : {X : Type 0} (y : X) (old new : List X) (v : X) → new ≡ old ++ v ∷ [] → v ≡ y → Adds (λ x. x ≡ y) old new
adds_pushed {X} y old new v e f =
    let F : List X → Type 0 = λ l. Adds (λ x. x ≡ y) old l in
    subst F (sym (e ∙ ap (λ w. old ++ w ∷ []) f)) (adds_push (λ x. x ≡ y) old y refl (λ x h. sym h))

pub adds_both : {X : Type 0} (P Q : X → Type 0) (old mid new : List X) → Adds P old mid → Adds Q mid new → Adds (λ x. P x ⊎ Q x) old new
adds_both P Q old mid new first second = adds_step P Q (λ x. P x ⊎ Q x) old mid new first second (λ x h. h) (λ x h. h)

pub adds_same : {X : Type 0} (P Q : X → Type 0) (old new : List X) → Adds P old new → ((x : X) → P x → Q x) → ((x : X) → Q x → P x) → Adds Q old new
adds_same P Q old new adds there back x = (λ h. by ((adds x).0 h), λ h. (adds x).1 (other h))
  where
    by : (Contains old x ⊎ P x) → Contains old x ⊎ Q x
    by (inl h) = inl h
    by (inr p) = inr (there x p)

    other : (Contains old x ⊎ Q x) → Contains old x ⊎ P x
    other (inl h) = inl h
    other (inr q) = inr (back x q)

contains_none : {X : Type 0} (x : X) → Contains [] x → ⊥
contains_none x (k, within, e) = omega arith

-- what was empty holds the things of the kind
pub all_from_none : {X : Type 0} (P : X → Type 0) (xs : List X) → Adds P [] xs → ListsAll P xs
all_from_none P xs adds x = (λ h. by ((adds x).0 h), λ p. (adds x).1 (inr p))
  where
    by : (Contains [] x ⊎ P x) → P x
    by (inl h) = absurd (contains_none x h)
    by (inr p) = p

-- ---- a list that is built item by item

pub map_more : {X Y : Type 0} (f : X → Y) (xs : List X) (i : ℕ) (d : X) (old new : List Y) (v : Y) → i < length xs
    → old ≡ map f (take i xs) → new ≡ old ++ v ∷ [] → v ≡ f (get_or xs i d) → new ≡ map f (take (i + 1) xs)
map_more f xs i d old new v within before pushed is =
    pushed ∙ ap (λ w. old ++ w ∷ []) is ∙ ap (λ l. l ++ f (get_or xs i d) ∷ []) before ∙ sym (ap (map f) (take_more xs i d within) ∙ map_push f (take i xs) (get_or xs i d))

pub rows_more : {X Y : Type 0} (f : X → Y) (start old new more : List Y) (done next : List X) → old ≡ start ++ map f done → new ≡ old ++ more → more ≡ map f next → new ≡ start ++ map f (done ++ next)
rows_more f start old new more done next before grown is =
    grown ∙ ap (λ l. old ++ l) is ∙ ap (λ l. l ++ map f next) before ∙ append_assoc start (map f done) (map f next) ∙ ap (λ l. start ++ l) (sym (map-append f done next))

-- ---- a loop over numbers, each of which adds one thing

-- the things of the numbers from a up to below n, as far as they are below m
abbrev pub Ranged : {X : Type 0} → (ℕ → X) → ℕ → ℕ → ℕ → X → Type 0
Ranged f a m n x = (k : ℕ) × (a ≤ k) × (k < m) × (k < n) × (x ≡ f k)

pub range_none : {X : Type 0} (f : ℕ → X) (a m : ℕ) (xs : List X) → Adds (Ranged f a m a) xs xs
range_none {X} f a m xs = adds_none (Ranged f a m a) xs (λ x h. absurd (omega (arith, h.1, h.3)))

pub range_more : {X : Type 0} (f : ℕ → X) (a m n : ℕ) (old mid new : List X) → a ≤ n → n < m → Adds (Ranged f a m n) old mid → Adds (λ x. x ≡ f n) mid new → Adds (Ranged f a m (n + 1)) old new
range_more {X} f a m n old mid new begins within first second = adds_step (Ranged f a m n) (λ x. x ≡ f n) (Ranged f a m (n + 1)) old mid new first second (λ x h. out x h) (λ x h. into x h)
  where
    by : (x : X) (k : ℕ) → a ≤ k → k < m → k < n + 1 → x ≡ f k → ((k < n) ⊎ (n ≤ k)) → Ranged f a m n x ⊎ (x ≡ f n)
    by x k p q r e (inl h) = inl (k, p, q, h, e)
    by x k p q r e (inr h) = let same : k ≡ n = omega arith in inr (e ∙ ap f same)

    out : (x : X) → Ranged f a m (n + 1) x → Ranged f a m n x ⊎ (x ≡ f n)
    out x (k, p, q, r, e) = by x k p q r e (cases_lt k n)

    into : (x : X) → (Ranged f a m n x ⊎ (x ≡ f n)) → Ranged f a m (n + 1) x
    into x (inl (k, p, q, r, e)) = (k, p, q, omega arith, e)
    into x (inr e) = (n, begins, within, omega arith, e)
