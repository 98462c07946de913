-- Where nothing is found in lists, each entry has nothing; and where a name stands among names.
use Rattle.std.proofs.Common.{◌≡◌, ℕ, zero, suc, ◌+◌, ◌<◌, Bool, true, false, cond, List, [], ◌∷◌, All, Contains, length, get_or, filter, Option, Some, None, refl, subst, arith}
use Rattle.std.specs.List.{position_from}
use Rattle.std.specs.Option.{is_some, option_or, option_map, unwrap_or}
use Rattle.std.specs.Str.{bytes_eq}
use Rattle.std.proofs.lemmas.List.Elements.{All-nil, All-cons, All-head, All-tail}
use Rattle.std.proofs.lemmas.Slice.Eq.{bytes_eq-Decides}
use Rattle.outside.specs.declared.place.Place.{Place}
use Rattle.name_places.specs.Places.{place_of}
use Rattle.grid_plan.specs.Names.{place_in}
use Rattle.grid_plan.specs.Order.{first_some, placed, earlier, unplaced, is_before}
use Rattle.grid_plan.specs.Unknown.{unknown}

pub none_first : {Y : Type 0} (a b : Option Y) → option_or a b ≡ None → a ≡ None
none_first None b h = refl
none_first (Some y) b h = h

pub none_second : {Y : Type 0} (a b : Option Y) → option_or a b ≡ None → b ≡ None
none_second None b h = h
none_second {Y} (Some y) b h = absurd (let e : ◌≡◌ {A = Option Y} (Some y) None = h in cc)

pub none_mapped : {X Y : Type 0} (f : X → Y) (o : Option X) → option_map f o ≡ None → o ≡ None
none_mapped f None h = refl
none_mapped {X} {Y} f (Some x) h = absurd (let e : ◌≡◌ {A = Option Y} (Some (f x)) None = h in cc)

pub none_unplaced : {Y : Type 0} (o : Option (Place × Y)) → unplaced o ≡ None → o ≡ None
none_unplaced None h = refl
none_unplaced {Y} (Some a) h = absurd (let e : ◌≡◌ {A = Option Y} (Some a.1) None = h in cc)

pub none_placed : {Y : Type 0} (place : Place) (o : Option Y) → placed place o ≡ None → o ≡ None
none_placed place None h = refl
none_placed {Y} place (Some y) h = absurd (let e : ◌≡◌ {A = Option (Place × Y)} (Some (place, y)) None = h in cc)

some_of_two : {Z : Type 0} (c : Bool) (a b : Z) → cond c (Some b) (Some a) ≡ None → ⊥
some_of_two {Z} true a b h = let e : ◌≡◌ {A = Option Z} (Some b) None = h in cc
some_of_two {Z} false a b h = let e : ◌≡◌ {A = Option Z} (Some a) None = h in cc

pub none_earlier : {Y : Type 0} (a b : Option (Place × Y)) → earlier a b ≡ None → (a ≡ None) × (b ≡ None)
none_earlier None b h = (refl, h)
none_earlier (Some a) None h = (h, refl)
none_earlier (Some a) (Some b) h = absurd (some_of_two (is_before b.0 a.0) a b h)

pub none_some : {X Y : Type 0} (f : X → Option Y) (xs : List X) → first_some f xs ≡ None → All (λ x. f x ≡ None) xs
none_some {X} f [] h = All-nil (λ (x : X). f x ≡ None)
none_some {X} f (x ∷ xs) h =
    All-cons (λ (z : X). f z ≡ None) x xs (none_first (f x) (first_some f xs) h) (none_some f xs (none_second (f x) (first_some f xs) h))

skipped : (b : Bool) (i : ℕ) (o : Option ℕ) → cond b (Some i) o ≡ None → (b ≡ false) × (o ≡ None)
skipped true i o h = absurd (let e : ◌≡◌ {A = Option ℕ} (Some i) None = h in cc)
skipped false i o h = (refl, h)

pub none_position : {X : Type 0} (t : X → Bool) (i : ℕ) (xs : List X) → position_from t i xs ≡ None → All (λ x. t x ≡ false) xs
none_position {X} t i [] h = All-nil (λ (x : X). t x ≡ false)
none_position {X} t i (x ∷ xs) h =
    let s = skipped (t x) i (position_from t (i + 1) xs) h in
    All-cons (λ (z : X). t z ≡ false) x xs s.0 (none_position t (i + 1) xs s.1)

-- What is kept of a list by a test.
kept_one : {X : Type 0} (P : X → Type 0) (b : Bool) (x : X) (rest : List X) → (b ≡ true → P x) → All P rest → All P (cond b (x ∷ rest) rest)
kept_one P true x rest h k = All-cons P x rest (h refl) k
kept_one P false x rest h k = k

pub All-kept : {X : Type 0} (p : X → Bool) (P : X → Type 0) (xs : List X) → All (λ x. p x ≡ true → P x) xs → All P (filter p xs)
All-kept p P [] h = All-nil P
All-kept {X} p P (x ∷ xs) h =
    let Q = λ (z : X). p z ≡ true → P z in
    kept_one P (p x) x (filter p xs) (All-head Q x xs h) (All-kept p P xs (All-tail Q x xs h))

pub or_default : {Y : Type 0} (P : Y → Type 0) (ys : List Y) (k : ℕ) (d : Y) → All P ys → P d → P (get_or ys k d)
or_default P [] zero d h e = e
or_default P [] (suc k) d h e = e
or_default P (y ∷ ys) zero d h e = All-head P y ys h
or_default P (y ∷ ys) (suc k) d h e = or_default P ys k d (All-tail P y ys h) e

-- ## names among names

found_below : (i n : ℕ) (b : Bool) (o : Option ℕ) → is_some (cond b (Some i) o) ≡ true → (is_some o ≡ true → unwrap_or o 0 < (i + 1) + n)
    → unwrap_or (cond b (Some i) o) 0 < i + suc n
found_below i n true o h k = omega arith
found_below i n false o h k = let below : unwrap_or o 0 < (i + 1) + n = k h in omega arith

position_below : (t : List ℕ → Bool) (i : ℕ) (names : List (List ℕ)) → is_some (position_from t i names) ≡ true → unwrap_or (position_from t i names) 0 < i + length names
position_below t i [] h = absurd (let e : false ≡ true = h in cc)
position_below t i (x ∷ xs) h = found_below i (length xs) (t x) (position_from t (i + 1) xs) h (λ k. position_below t (i + 1) xs k)

pub place_within : (names : List (List ℕ)) (name : List ℕ) → is_some (place_of names name) ≡ true → place_in names name < length names
place_within names name h = subst (λ n. place_in names name < n) (let e : 0 + length names ≡ length names = omega arith in e)
    (position_below (λ (other : List ℕ). bytes_eq other name) 0 names h)

known_by : (b : Bool) (name : List ℕ) → cond b None (Some name) ≡ None → b ≡ true
known_by true name h = refl
known_by false name h = absurd (let e : ◌≡◌ {A = Option (List ℕ)} (Some name) None = h in cc)

pub is_known : (names : List (List ℕ)) (name : List ℕ) → unknown names name ≡ None → is_some (place_of names name) ≡ true
is_known names name h = known_by (is_some (place_of names name)) name h

some_here : (b : Bool) (i : ℕ) (o : Option ℕ) → b ≡ true → is_some (cond b (Some i) o) ≡ true
some_here true i o h = refl
some_here false i o h = absurd (cc)

some_later : (b : Bool) (i : ℕ) (o : Option ℕ) → is_some o ≡ true → is_some (cond b (Some i) o) ≡ true
some_later true i o h = refl
some_later false i o h = h

pub stands : (name : List ℕ) (i : ℕ) (names : List (List ℕ)) → Contains names name → is_some (position_from (λ (other : List ℕ). bytes_eq other name) i names) ≡ true
stands name i [] (k, h, same) = absurd (omega arith)
stands name i (n ∷ names) (zero, h, same) =
    some_here (bytes_eq n name) i (position_from (λ (other : List ℕ). bytes_eq other name) (i + 1) names) ((bytes_eq-Decides n name).1 same)
stands name i (n ∷ names) (suc k, h, same) =
    some_later (bytes_eq n name) i (position_from (λ (other : List ℕ). bytes_eq other name) (i + 1) names) (stands name (i + 1) names (k, omega arith, same))

contained_one : (n name : List ℕ) (names : List (List ℕ)) (i : ℕ) (b : Bool) (o : Option ℕ) → bytes_eq n name ≡ b → is_some (cond b (Some i) o) ≡ true
    → (is_some o ≡ true → Contains names name) → Contains (n ∷ names) name
contained_one n name names i true o e h rest = (0, omega arith, (bytes_eq-Decides n name).0 e)
contained_one n name names i false o e h rest = let (k, within, same) = rest h in (suc k, omega arith, same)

pub contained : (name : List ℕ) (i : ℕ) (names : List (List ℕ)) → is_some (position_from (λ (other : List ℕ). bytes_eq other name) i names) ≡ true → Contains names name
contained name i [] h = absurd (let e : false ≡ true = h in cc)
contained name i (n ∷ names) h =
    contained_one n name names i (bytes_eq n name) (position_from (λ (other : List ℕ). bytes_eq other name) (i + 1) names) refl h (λ k. contained name (i + 1) names k)

-- The place of a name that is among the names.
pub place_among : (names : List (List ℕ)) (name : List ℕ) → Contains names name → place_in names name < length names
place_among names name h = place_within names name (stands name 0 names h)
