-- Words that are refused as numbers and as values.
use Rattle.std.proofs.Common.{◌≡◌, ◌↔◌, ◌⊎◌, inl, inr, ℕ, ℤ, Bool, true, false, IsTrue, List, [], ◌∷◌, Option, Some, None, Result, Ok, Err, refl, sym, ◌∙◌, ap, subst, IfNone}
use Rattle.number_place.specs.declared.place.NumberPlace.{NumberPlace}
use Rattle.number_place.specs.declared.place.Refused.{Refused}
use Rattle.number_place.specs.declared.place.Refused.TheVariants.{Syntax}
use Rattle.number_place.specs.Place.{IsNumberAt}
use Rattle.script_options.specs.declared.number.Quantity.{Quantity}
use Rattle.script_options.specs.Number.{place_of, is_mark, refused_as, RefusesNumber}
use Rattle.script_options.specs.Value.{AnyOtherWord, AnySyntax, FirstRefused}
use Rattle.text_lex.specs.Name.{IsName}

abbrev pub IsOnly : NumberPlace → List ℕ → Result ℤ Refused → Type 0
IsOnly place text answer = (other : Result ℤ Refused) → IsNumberAt place text other → other ≡ answer

no_error : (r : Refused) (v : ℤ) → ◌≡◌ {A = Result ℤ Refused} (Err r) (Ok v) → ⊥
no_error r v h = cc

err_is : (r s : Refused) → ◌≡◌ {A = Result ℤ Refused} (Err r) (Err s) → r ≡ s
err_is r s h = cc

some_is : (r s : Refused) → ◌≡◌ {A = Option Refused} (Some r) (Some s) → r ≡ s
some_is r s h = cc

none_is : (r : Refused) → ◌≡◌ {A = Option Refused} None (Some r) → ⊥
none_is r h = cc

no_mark : (text : List ℕ) → is_mark text ≡ false → is_mark text ≡ true → ⊥
no_mark text h k = let t : false ≡ true = sym h ∙ k in cc

ok_err : (n : ℕ) (r : Refused) → ◌≡◌ {A = Result ℕ Refused} (Ok n) (Err r) → ⊥
ok_err n r h = cc

err_same : (r s : Refused) → ◌≡◌ {A = Result ℕ Refused} (Err r) (Err s) → r ≡ s
err_same r s h = cc

pub none_refused : (quantity : Quantity) (text : List ℕ) (v : ℤ) (n : ℕ) → is_mark text ≡ false → IsOnly (place_of quantity) text (Ok v) →
    (refused : Refused) → (◌≡◌ {A = Result ℕ Refused} (Ok n) (Err refused)) ↔ RefusesNumber quantity text refused
none_refused quantity text v n mark only refused = (
  (λ h. absurd (ok_err n refused h)),
  (λ h. absurd (elim h [ inl m ↦ no_mark text mark m.0 | inr e ↦ no_error e.1 v (only (Err e.1) e.2) ])),
)

pub one_refused : (quantity : Quantity) (text : List ℕ) (r : Refused) → is_mark text ≡ false → IsNumberAt (place_of quantity) text (Err r) →
    IsOnly (place_of quantity) text (Err r) → (refused : Refused) → (◌≡◌ {A = Result ℕ Refused} (Err (refused_as quantity r)) (Err refused)) ↔ RefusesNumber quantity text refused
one_refused quantity text r mark is only refused = (
  (λ h. inr (mark, r, is, sym (err_same (refused_as quantity r) refused h))),
  (λ h. elim h [
    | inl m ↦ absurd (no_mark text mark m.0)
    | inr e ↦ ap Err (ap (refused_as quantity) (sym (err_is e.1 r (only (Err e.1) e.2))) ∙ sym e.3)
  ]),
)

-- ## refusals as one answer and as another

abbrev Refuses_as : (Refused → Type 0) → Option Refused → Type 0
Refuses_as shows o = (other : Refused) → (o ≡ Some other) ↔ shows other

abbrev Told_as : (Refused → Type 0) → Result ℕ Refused → Type 0
Told_as shows r = (other : Refused) → (r ≡ Err other) ↔ shows other

pub as_none : (shows : Refused → Type 0) (n : ℕ) → Told_as shows (Ok n) → Refuses_as shows None
as_none shows n h other = ((λ k. absurd (none_is other k)), (λ k. absurd (ok_err n other ((h other).1 k))))

pub as_some : (shows : Refused → Type 0) (r : Refused) → Told_as shows (Err r) → Refuses_as shows (Some r)
as_some shows r h other = ((λ k. (h other).0 (ap Err (some_is r other k))), (λ k. ap Some (err_same r other ((h other).1 k))))

pub as_ok : (shows : Refused → Type 0) (n : ℕ) → Refuses_as shows None → Told_as shows (Ok n)
as_ok shows n h other = ((λ k. absurd (ok_err n other k)), (λ k. absurd (none_is other ((h other).1 k))))

pub as_err : (shows : Refused → Type 0) (r : Refused) → Refuses_as shows (Some r) → Told_as shows (Err r)
as_err shows r h other = ((λ k. (h other).0 (ap Some (err_same r other k))), (λ k. ap Err (some_is r other ((h other).1 k))))

-- Whether the refusal that is found is that for the form.
pub told_form : (shows : Refused → Type 0) (r : Refused) (b : Bool) → ((other : Refused) → (◌≡◌ {A = Option Refused} (Some r) (Some other)) ↔ shows other) →
    IsTrue b ↔ (r ≡ Syntax) → IsTrue b ↔ shows Syntax
told_form shows r b tells is = ((λ h. (tells Syntax).0 (ap Some (is.0 h))), (λ k. is.1 (some_is r Syntax ((tells Syntax).1 k))))

-- ## lists

pub other_more : (words more all : List (List ℕ)) (word : List ℕ) → words ≡ word ∷ more → IsName word → AnyOtherWord words ↔ AnyOtherWord all →
    AnyOtherWord more ↔ AnyOtherWord all
other_more words more all word e name h = (
  (λ k. h.0 (subst AnyOtherWord (sym e) (inr k))),
  (λ k. elim (subst AnyOtherWord e (h.1 k)) [ inl n ↦ absurd (n name) | inr r ↦ r ]),
)

pub other_here : (words more all : List (List ℕ)) (word : List ℕ) → words ≡ word ∷ more → (IsName word → ⊥) → AnyOtherWord words ↔ AnyOtherWord all → AnyOtherWord all
other_here words more all word e name h = h.0 (subst AnyOtherWord (sym e) (inl name))

pub other_none : (words all : List (List ℕ)) → words ≡ [] → AnyOtherWord words ↔ AnyOtherWord all → AnyOtherWord all → ⊥
other_none words all e h k = subst AnyOtherWord e (h.1 k)

pub syntax_more : (q : Quantity) (words more all : List (List ℕ)) (word : List ℕ) → words ≡ word ∷ more → (RefusesNumber q word Syntax → ⊥) → AnySyntax q words ↔ AnySyntax q all →
    AnySyntax q more ↔ AnySyntax q all
syntax_more q words more all word e fine h = (
  (λ k. h.0 (subst (AnySyntax q) (sym e) (inr k))),
  (λ k. elim (subst (AnySyntax q) e (h.1 k)) [ inl n ↦ absurd (fine n) | inr r ↦ r ]),
)

pub syntax_here : (q : Quantity) (words more all : List (List ℕ)) (word : List ℕ) → words ≡ word ∷ more → RefusesNumber q word Syntax → AnySyntax q words ↔ AnySyntax q all → AnySyntax q all
syntax_here q words more all word e there h = h.0 (subst (AnySyntax q) (sym e) (inl there))

pub syntax_none : (q : Quantity) (words all : List (List ℕ)) → words ≡ [] → AnySyntax q words ↔ AnySyntax q all → AnySyntax q all → ⊥
syntax_none q words all e h k = subst (AnySyntax q) e (h.1 k)

pub first_more : (q : Quantity) (words more all : List (List ℕ)) (word : List ℕ) → words ≡ word ∷ more →
    ((other : Refused) → (◌≡◌ {A = Option Refused} None (Some other)) ↔ RefusesNumber q word other) →
    ((refused : Refused) → FirstRefused q words refused ↔ FirstRefused q all refused) → (refused : Refused) → FirstRefused q more refused ↔ FirstRefused q all refused
first_more q words more all word e none h refused = (
  (λ k. (h refused).0 (subst (λ z. FirstRefused q z refused) (sym e) (inr ((λ other r. none_is other ((none other).1 r)), k)))),
  (λ k. elim (subst (λ z. FirstRefused q z refused) e ((h refused).1 k)) [ inl r ↦ absurd (none_is refused ((none refused).1 r)) | inr r ↦ r.1 ]),
)

pub first_here : (q : Quantity) (words more all : List (List ℕ)) (word : List ℕ) (found : Refused) → words ≡ word ∷ more →
    ((other : Refused) → (◌≡◌ {A = Option Refused} (Some found) (Some other)) ↔ RefusesNumber q word other) →
    ((refused : Refused) → FirstRefused q words refused ↔ FirstRefused q all refused) → (refused : Refused) → (◌≡◌ {A = Option Refused} (Some found) (Some refused)) ↔ FirstRefused q all refused
first_here q words more all word found e tells h refused = (
  (λ k. (h refused).0 (subst (λ z. FirstRefused q z refused) (sym e) (inl ((tells refused).0 k)))),
  (λ k. elim (subst (λ z. FirstRefused q z refused) e ((h refused).1 k)) [ inl r ↦ (tells refused).1 r | inr r ↦ absurd (r.0 found ((tells found).0 refl)) ]),
)

pub first_none : (q : Quantity) (words all : List (List ℕ)) → words ≡ [] → ((refused : Refused) → FirstRefused q words refused ↔ FirstRefused q all refused) →
    (refused : Refused) → (◌≡◌ {A = Option Refused} None (Some refused)) ↔ FirstRefused q all refused
first_none q words all e h refused = ((λ k. absurd (none_is refused k)), (λ k. absurd (subst (λ z. FirstRefused q z refused) e ((h refused).1 k))))

-- Where nothing is refused, nothing is refused for its form.
pub told_none : (shows : Refused → Type 0) → ((other : Refused) → (◌≡◌ {A = Option Refused} None (Some other)) ↔ shows other) → IsTrue false ↔ shows Syntax
told_none shows tells = ((λ h. absurd (let t : false ≡ true = h in cc)), (λ k. absurd (none_is Syntax ((tells Syntax).1 k))))

-- A word that is no name is refused for its form.
pub not_named : (result : Option Refused) (named : Bool) (text : List ℕ) → IsTrue named ↔ IsName text →
    ((refused : Refused) → (result ≡ Some refused) ↔ ((refused ≡ Syntax) × (IsTrue named → ⊥))) →
    (refused : Refused) → (result ≡ Some refused) ↔ ((refused ≡ Syntax) × (IsName text → ⊥))
not_named result named text tells h refused = (
  (λ k. (((h refused).0 k).0, λ n. ((h refused).0 k).1 (tells.1 n))),
  (λ k. (h refused).1 (k.0, λ b. k.1 (tells.0 b))),
)

-- What holds where nothing is refused.
pub none_then : {A B : Type 0} (r : Option Refused) → (A → B) → IfNone r A → IfNone r B
none_then None f a = f a
none_then (Some x) f a = tt
