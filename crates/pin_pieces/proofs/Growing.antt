-- Lists that take the things with a property, one after another.
use Rattle.std.proofs.Common.{◌≡◌, ℕ, ◌+◌, ◌<◌, ◌≤◌, ◌⊎◌, inl, inr, List, [], ◌∷◌, ◌++◌, take, length, get_or, Contains, subst, arith}
use Rattle.std.proofs.lemmas.List.{take_all}
use Rattle.std.proofs.lemmas.List.Elements.{Contains-append_left, Contains-push, Contains-push_cases}
use Rattle.grid_pieces.specs.Laws.Amongst.{Among-none, Among-more}
use Rattle.pin_pieces.specs.inside.Steps.{Adds, ListsAll, OfAny}

-- nothing has the property
pub adds_none : {X : Type 0} (P : X → Type 0) (xs : List X) → ((x : X) → P x → ⊥) → Adds P xs xs
adds_none {X} P xs none x = (λ h. inl h, by)
  where
    by : Contains xs x ⊎ P x → Contains xs x
    by (inl h) = h
    by (inr p) = absurd (none x p)

-- one thing alone has it
pub adds_push : {X : Type 0} (P : X → Type 0) (xs : List X) (y : X) → P y → ((x : X) → P x → y ≡ x) → Adds P xs (xs ++ y ∷ [])
adds_push {X} P xs y here one x = (λ h. there (Contains-push_cases xs y x h), back)
  where
    there : Contains xs x ⊎ (y ≡ x) → Contains xs x ⊎ P x
    there (inl h) = inl h
    there (inr e) = inr (subst P e here)

    back : Contains xs x ⊎ P x → Contains (xs ++ y ∷ []) x
    back (inl h) = Contains-append_left xs (y ∷ []) x h
    back (inr p) = subst (Contains (xs ++ y ∷ [])) (one x p) (Contains-push xs y)

-- the property may be given in another form
pub adds_same : {X : Type 0} (P Q : X → Type 0) (old new : List X) → ((x : X) → P x → Q x) → ((x : X) → Q x → P x) → Adds P old new → Adds Q old new
adds_same {X} P Q old new gives takes adds x = (λ h. there ((adds x).0 h), λ h. (adds x).1 (back h))
  where
    there : Contains old x ⊎ P x → Contains old x ⊎ Q x
    there (inl h) = inl h
    there (inr p) = inr (gives x p)

    back : Contains old x ⊎ Q x → Contains old x ⊎ P x
    back (inl h) = inl h
    back (inr q) = inr (takes x q)

-- ## a loop over a list, in which each element adds what it gives

pub over_none : {X Y : Type 0} (gives : Y → X → Type 0) (ys : List Y) (xs : List X) → Adds (OfAny gives (take 0 ys)) xs xs
over_none {X} gives ys xs = adds_none (OfAny gives (take 0 ys)) xs (λ x h. Among-none (λ y. gives y x) h)

pub over_more : {X Y : Type 0} (gives : Y → X → Type 0) (ys : List Y) (i : ℕ) (d : Y) (old mid new : List X) → i < length ys
    → Adds (OfAny gives (take i ys)) old mid → Adds (gives (get_or ys i d)) mid new → Adds (OfAny gives (take (i + 1) ys)) old new
over_more {X} gives ys i d old mid new within first second x = (λ h. there ((second x).0 h), back)
  where
    front : OfAny gives (take i ys) x → OfAny gives (take (i + 1) ys) x
    front h = (Among-more (λ y. gives y x) ys i d within).1 (inl h)

    early : Contains old x ⊎ OfAny gives (take i ys) x → Contains old x ⊎ OfAny gives (take (i + 1) ys) x
    early (inl h) = inl h
    early (inr h) = inr (front h)

    there : Contains mid x ⊎ gives (get_or ys i d) x → Contains old x ⊎ OfAny gives (take (i + 1) ys) x
    there (inl h) = early ((first x).0 h)
    there (inr g) = inr ((Among-more (λ y. gives y x) ys i d within).1 (inr g))

    of_any : OfAny gives (take i ys) x ⊎ gives (get_or ys i d) x → Contains new x
    of_any (inl h) = (second x).1 (inl ((first x).1 (inr h)))
    of_any (inr g) = (second x).1 (inr g)

    back : Contains old x ⊎ OfAny gives (take (i + 1) ys) x → Contains new x
    back (inl h) = (second x).1 (inl ((first x).1 (inl h)))
    back (inr h) = of_any ((Among-more (λ y. gives y x) ys i d within).0 h)

pub over_all : {X Y : Type 0} (gives : Y → X → Type 0) (ys : List Y) (i : ℕ) (old new : List X) → length ys ≤ i → Adds (OfAny gives (take i ys)) old new
    → Adds (OfAny gives ys) old new
over_all {X} {Y} gives ys i old new all adds = subst (λ (l : List Y). Adds (OfAny gives l) old new) (take_all i ys all) adds

-- what was empty has the things with the property
pub all_from_none : {X : Type 0} (P : X → Type 0) (old xs : List X) → old ≡ [] → Adds P old xs → ListsAll P xs
all_from_none {X} P old xs none adds x = (λ h. by ((adds x).0 h), λ p. (adds x).1 (inr p))
  where
    by : Contains old x ⊎ P x → P x
    by (inl h) = let there : Contains [] x = subst (λ (l : List X). Contains l x) none h in absurd (omega (arith, there.1))
    by (inr p) = p
