-- The units that the patterns of DEF allow, each as a list of classes of words: which section a unit of some length
-- stands in that begins with some word, and what its other words are.
use Rattle.std.proofs.Common.{◌≡◌, ℕ, zero, suc, ◌<◌, ◌≤◌, ◌==◌, Bool, true, false, cond, ◌&&◌, List, [], ◌∷◌, ◌++◌, length, map, slice_get, Some, None, ◌⊎◌, inl, inr, refl, sym, ◌∙◌, ap, subst, arith}
use Rattle.std.specs.Prelude.{nat_lt}
use Rattle.def_statements.specs.declared.section.Section.{Section}
use Rattle.def_statements.specs.declared.section.Section.TheVariants as places
use Rattle.def_statements.specs.declared.sort.Sort.{Sort}
use Rattle.def_statements.specs.declared.sort.Sort.TheVariants as sorts
use Rattle.def_statements.specs.Pattern.{pattern, is_name, is_number, is_turn, is_placed, is_after_row, is_after_counts}
use Rattle.def_statements.specs.Sort.{the, sort_of, number_of, all_sorts, listed}
use Rattle.def_statements.specs.Unit.{sort_at}
use Rattle.reading.specs.Pattern.{Pattern, Never, Empty, One, Then, Or, Many, Matches}
use Rattle.reading.specs.Word.{Token}

abbrev pub Class : Type 0
Class = Sort → Bool

abbrev pub cross : List (List Class) → List (List Class) → List (List Class)
cross [] qs = []
cross (p ∷ ps) qs = map (λ q. p ++ q) qs ++ cross ps qs

-- The lists of classes that a pattern allows; none of a repetition.
abbrev pub shapes : Pattern Sort → List (List Class)
shapes Never = []
shapes Empty = [] ∷ []
shapes (One class) = (class ∷ []) ∷ []
shapes (Then p q) = cross (shapes p) (shapes q)
shapes (Or p q) = shapes p ++ shapes q
shapes (Many p) = []

-- The pattern has no repetition.
abbrev pub finite : Pattern Sort → Bool
finite Never = true
finite Empty = true
finite (One class) = true
finite (Then p q) = finite p && finite q
finite (Or p q) = finite p && finite q
finite (Many p) = false

abbrev pub Fits : List Class → List Token → Type 0
Fits [] [] = Unit {0}
Fits [] (word ∷ unit) = ⊥
Fits (class ∷ shape) [] = ⊥
Fits (class ∷ shape) (word ∷ unit) = (class (sort_of word) ≡ true) × Fits shape unit

abbrev pub OneOf : List (List Class) → List Token → Type 0
OneOf [] unit = ⊥
OneOf (shape ∷ rest) unit = Fits shape unit ⊎ OneOf rest unit

fits_both : (p q : List Class) (x y : List Token) → Fits p x → Fits q y → Fits (p ++ q) (x ++ y)
fits_both [] q [] y h k = k
fits_both [] q (w ∷ x) y h k = absurd h
fits_both (c ∷ p) q [] y h k = absurd h
fits_both (c ∷ p) q (w ∷ x) y h k = (h.0, fits_both p q x y h.1 k)

one_left : (ps qs : List (List Class)) (x : List Token) → OneOf ps x → OneOf (ps ++ qs) x
one_left [] qs x h = absurd h
one_left (p ∷ ps) qs x (inl h) = inl h
one_left (p ∷ ps) qs x (inr h) = inr (one_left ps qs x h)

one_right : (ps qs : List (List Class)) (x : List Token) → OneOf qs x → OneOf (ps ++ qs) x
one_right [] qs x h = h
one_right (p ∷ ps) qs x h = inr (one_right ps qs x h)

one_after : (p : List Class) (qs : List (List Class)) (x y : List Token) → Fits p x → OneOf qs y → OneOf (map (λ q. p ++ q) qs) (x ++ y)
one_after p [] x y h k = absurd k
one_after p (q ∷ qs) x y h (inl k) = inl (fits_both p q x y h k)
one_after p (q ∷ qs) x y h (inr k) = inr (one_after p qs x y h k)

one_both : (ps qs : List (List Class)) (x y : List Token) → OneOf ps x → OneOf qs y → OneOf (cross ps qs) (x ++ y)
one_both [] qs x y h k = absurd h
one_both (p ∷ ps) qs x y (inl h) k = one_left (map (λ q. p ++ q) qs) (cross ps qs) (x ++ y) (one_after p qs x y h k)
one_both (p ∷ ps) qs x y (inr h) k = one_right (map (λ q. p ++ q) qs) (cross ps qs) (x ++ y) (one_both ps qs x y h k)

pub both : (a b : Bool) → (a && b) ≡ true → (a ≡ true) × (b ≡ true)
both true true h = (refl, refl)
both true false h = (refl, h)
both false b h = absurd (let t : false ≡ true = h in cc)

-- What matches a pattern is of one of its lists.
one_of : (p : Pattern Sort) (unit : List Token) → finite p ≡ true → Matches sort_of p unit → OneOf (shapes p) unit
one_of Never unit f h = absurd h
one_of Empty unit f h = inl (subst (λ z. Fits [] z) (sym h) tt)
one_of (One class) unit f h = inl (subst (λ z. Fits (class ∷ []) z) (sym h.2) (h.1, tt))
one_of (Then p q) unit f h =
    let t = both (finite p) (finite q) f in
    subst (λ z. OneOf (cross (shapes p) (shapes q)) z) (sym h.4) (one_both (shapes p) (shapes q) h.0 h.1 (one_of p h.0 t.0 h.2) (one_of q h.1 t.1 h.3))
one_of (Or p q) unit f (inl h) = one_left (shapes p) (shapes q) unit (one_of p unit (both (finite p) (finite q) f).0 h)
one_of (Or p q) unit f (inr h) = one_right (shapes p) (shapes q) unit (one_of q unit (both (finite p) (finite q) f).1 h)
one_of (Many p) unit f h = absurd (let t : false ≡ true = f in cc)

finite_all : (section : Section) → finite (pattern section) ≡ true
finite_all = elim [ places.Top ↦ refl | _ ↦ refl ]

-- ## the lists of some length that may begin with a word of some sort

abbrev pub heads : Sort → List Class → Bool
heads sort [] = true
heads sort (class ∷ shape) = class sort

abbrev pub keep : Sort → (ℕ → Bool) → List (List Class) → List (List Class)
keep sort long [] = []
keep sort long (shape ∷ rest) = cond (heads sort shape && long (length shape)) (shape ∷ keep sort long rest) (keep sort long rest)

fits_length : (shape : List Class) (unit : List Token) → Fits shape unit → length shape ≡ length unit
fits_length [] [] h = refl
fits_length [] (w ∷ unit) h = absurd h
fits_length (c ∷ shape) [] h = absurd h
fits_length (c ∷ shape) (w ∷ unit) h = ap suc (fits_length shape unit h.1)

fits_head : (sort : Sort) (shape : List Class) (unit : List Token) → Fits shape unit → sort_at 0 unit ≡ sort → heads sort shape ≡ true
fits_head sort [] unit h e = refl
fits_head sort (c ∷ shape) [] h e = absurd h
fits_head sort (c ∷ shape) (w ∷ unit) h e = subst (λ z. c z ≡ true) e h.0

weaker : (b : Bool) (shape : List Class) (rest : List (List Class)) (unit : List Token) → OneOf rest unit → OneOf (cond b (shape ∷ rest) rest) unit
weaker true shape rest unit h = inr h
weaker false shape rest unit h = h

and_true : (a b : Bool) → a ≡ true → b ≡ true → (a && b) ≡ true
and_true true b h k = k
and_true false b h k = h

kept : (sort : Sort) (long : ℕ → Bool) (ways : List (List Class)) (unit : List Token) → sort_at 0 unit ≡ sort → long (length unit) ≡ true → OneOf ways unit → OneOf (keep sort long ways) unit
kept sort long [] unit e l h = absurd h
kept sort long (shape ∷ rest) unit e l (inl h) =
    subst (λ z. OneOf (cond z (shape ∷ keep sort long rest) (keep sort long rest)) unit)
    (sym (and_true (heads sort shape) (long (length shape)) (fits_head sort shape unit h e) (ap long (fits_length shape unit h) ∙ l))) (inl h)
kept sort long (shape ∷ rest) unit e l (inr h) = weaker (heads sort shape && long (length shape)) shape (keep sort long rest) unit (kept sort long rest unit e l h)

-- What a whole unit of a section may be that begins with a word of this sort.
abbrev pub Shaped : Sort → (ℕ → Bool) → Section → List Token → Type 0
Shaped sort long section unit = OneOf (keep sort long (shapes (pattern section))) unit

pub shaped : (sort : Sort) (long : ℕ → Bool) (section : Section) (unit : List Token) → sort_at 0 unit ≡ sort → long (length unit) ≡ true → Matches sort_of (pattern section) unit → Shaped sort long section unit
shaped sort long section unit e l h = kept sort long (shapes (pattern section)) unit e l (one_of (pattern section) unit (finite_all section) h)

-- The word that has n words before it is of its class.
fits_at : (shape : List Class) (unit : List Token) (n : ℕ) (class : Class) → Fits shape unit → slice_get shape n ≡ Some class → class (sort_at n unit) ≡ true
fits_at [] unit n class h e = absurd (let t : None ≡ Some class = e in cc)
fits_at (c ∷ shape) [] n class h e = absurd h
fits_at (c ∷ shape) (w ∷ unit) zero class h e = let same : c ≡ class = (let t : Some c ≡ Some class = e in cc) in subst (λ (z : Class). z (sort_of w) ≡ true) same h.0
fits_at (c ∷ shape) (w ∷ unit) (suc n) class h e = fits_at shape unit n class h.1 e

-- ## the section of each unit that says something

abbrev pub exactly : ℕ → ℕ → Bool
exactly n m = m == n

pub units_in : (section : Section) (unit : List Token) → Shaped sorts.Units (exactly 5) section unit → section ≡ places.Top
units_in places.Top unit h = refl
units_in section unit h = absurd h

pub die_in : (section : Section) (unit : List Token) → Shaped sorts.DieArea (exactly 10) section unit → section ≡ places.Top
die_in places.Top unit h = refl
die_in section unit h = absurd h

pub component_in : (section : Section) (unit : List Token) → Shaped sorts.Minus (exactly 3) section unit → section ≡ places.Components
component_in places.Components unit h = refl
component_in section unit h = absurd h

pub region_in : (section : Section) (unit : List Token) → Shaped sorts.Minus (exactly 10) section unit → section ≡ places.Regions
region_in places.Regions unit h = refl
region_in section unit h = absurd h

pub more_in : (section : Section) (unit : List Token) → Shaped sorts.Open (exactly 8) section unit → section ≡ places.Region
more_in places.Region unit h = refl
more_in section unit h = absurd h

pub spacing_in : (section : Section) (unit : List Token) → Shaped sorts.Spacing (exactly 2) section unit → section ≡ places.Part
spacing_in places.Part unit h = refl
spacing_in section unit h = absurd h

pub rect_in : (section : Section) (unit : List Token) → Shaped sorts.Rect (exactly 9) section unit → (section ≡ places.Parts) ⊎ (section ≡ places.Rects)
rect_in places.Parts unit h = inl refl
rect_in places.Rects unit h = inr refl
rect_in section unit h = absurd h

abbrev placed_shape : List Class
placed_shape = is_placed ∷ the sorts.Open ∷ is_number ∷ is_number ∷ the sorts.Close ∷ is_turn ∷ []

pub placed_in : (section : Section) (unit : List Token) → Shaped sorts.Placed (exactly 6) section unit → (section ≡ places.EntryPart) × (is_turn (sort_at 5 unit) ≡ true)
placed_in places.EntryPart unit (inl h) = (refl, fits_at placed_shape unit 5 is_turn h refl)
placed_in places.EntryPart unit (inr h) = absurd h
placed_in section unit h = absurd h

pub fixed_in : (section : Section) (unit : List Token) → Shaped sorts.Fixed (exactly 6) section unit → (section ≡ places.EntryPart) × (is_turn (sort_at 5 unit) ≡ true)
fixed_in places.EntryPart unit (inl h) = (refl, fits_at placed_shape unit 5 is_turn h refl)
fixed_in places.EntryPart unit (inr h) = absurd h
fixed_in section unit h = absurd h

-- ## rows

pub the_is : (word sort : Sort) → the word sort ≡ true → sort ≡ word
the_is word sort h =
    let e : number_of sort ≡ number_of word = grind (arith, h) in
    let t : slice_get all_sorts (number_of sort) ≡ Some word = ap (λ z. slice_get all_sorts z) e ∙ listed word in
    let s : Some sort ≡ Some word = sym (listed sort) ∙ t in
    cc

not_in : (class : Class) (word sort : Sort) → class word ≡ false → class sort ≡ true → the word sort ≡ true → ⊥
not_in class word sort none h is = let t : true ≡ false = sym h ∙ ap class (the_is word sort is) ∙ none in cc

past : (unit : List Token) (n : ℕ) → length unit ≤ n → sort_at n unit ≡ sorts.Other
past [] n h = refl
past (w ∷ unit) zero h = absurd (omega arith)
past (w ∷ unit) (suc n) h = past unit n (omega arith)

-- What a row says of its sort of turn, and how many words it has at least where it repeats its site.
pub record RowWords (section : Section) (unit : List Token) : Type 0 where
  pub top : section ≡ places.Top
  pub turn : is_turn (sort_at 5 unit) ≡ true
  pub counts : the sorts.Do (sort_at 6 unit) ≡ true → 7 < length unit
  pub steps : the sorts.Step (sort_at 10 unit) ≡ true → 11 < length unit

abbrev pub longer : ℕ → ℕ → Bool
longer n m = nat_lt n m

-- `ROW name site x y orient` with this after it.
abbrev row_shape : List Class → List Class
row_shape after = the sorts.Row ∷ is_name ∷ is_name ∷ is_number ∷ is_number ∷ is_turn ∷ after

abbrev counts_shape : List Class → List Class
counts_shape after = row_shape (the sorts.Do ∷ is_number ∷ the sorts.By ∷ is_number ∷ after)

abbrev steps_shape : List Class
steps_shape = counts_shape (the sorts.Step ∷ is_number ∷ is_number ∷ [])

pub row_in : (section : Section) (unit : List Token) → Shaped sorts.Row (longer 6) section unit → RowWords section unit
row_in places.Top unit (inl h) =
    let e : 13 ≡ length unit = fits_length steps_shape unit h in
    record { top = refl; turn = fits_at steps_shape unit 5 is_turn h refl; counts = λ k. omega arith; steps = λ k. omega arith }
row_in places.Top unit (inr (inl h)) =
    let e : 11 ≡ length unit = fits_length (counts_shape (is_after_counts ∷ [])) unit h in
    record {
      top = refl;
      turn = fits_at (counts_shape (is_after_counts ∷ [])) unit 5 is_turn h refl;
      counts = λ k. omega arith;
      steps = λ k. absurd (not_in is_after_counts sorts.Step (sort_at 10 unit) refl (fits_at (counts_shape (is_after_counts ∷ [])) unit 10 is_after_counts h refl) k);
    }
row_in places.Top unit (inr (inr (inl h))) =
    let e : 7 ≡ length unit = fits_length (row_shape (is_after_row ∷ [])) unit h in
    record {
      top = refl;
      turn = fits_at (row_shape (is_after_row ∷ [])) unit 5 is_turn h refl;
      counts = λ k. absurd (not_in is_after_row sorts.Do (sort_at 6 unit) refl (fits_at (row_shape (is_after_row ∷ [])) unit 6 is_after_row h refl) k);
      steps = λ k. absurd (let t : true ≡ false = sym k ∙ ap (the sorts.Step) (past unit 10 (omega arith)) in cc);
    }
row_in places.Top unit (inr (inr (inr h))) = absurd h
row_in section unit h = absurd h
