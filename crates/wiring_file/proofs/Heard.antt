-- Words that were heard, by their places in their unit, and what they say.
use Rattle.std.proofs.Common.{◌≡◌, ◌≢◌, ◌↔◌, ◌⊎◌, ℕ, zero, suc, ◌+◌, ◌-◌, ◌<◌, ◌≤◌, ◌^◌, ℤ, pos, Bool, true, false, List, [], ◌∷◌, ◌++◌, length, get_or, map, Option, Some, None, Ok, Err, Result, refl, sym, ◌∙◌, ap, subst, arith, inl, inr, append_assoc, to_z, of_z}
use Rattle.std.specs.Prelude.{IsTrue, unsigned_abs, slice_get}
use Rattle.std.specs.Int.{w64}
use Rattle.std.proofs.lemmas.Int.{to_z-of_z, fits_signed_from_abs}
use Rattle.number_place.specs.Place.{IsNumberAt}
use Rattle.reading.specs.declared.word.Heard.{Heard}
use Rattle.reading.specs.Fault.{FindsValue}
use Rattle.reading.specs.Grammar.{AreHeard}
use Rattle.reading.specs.Word.{Token, heard_token}
use Rattle.wiring_file.specs.declared.error.WiringKind.{WiringKind}
use Rattle.wiring_file.specs.declared.number.Quantity.{Quantity}
use Rattle.wiring_file.specs.declared.number.Quantity.TheVariants.{Coordinate, NotNegative, Positive, Microns}
use Rattle.wiring_file.specs.declared.section.Section.{Section}
use Rattle.wiring_file.specs.declared.section.Section.TheVariants.{Line}
use Rattle.std.proofs.lemmas.List.{length-map}
use Rattle.wiring_file.specs.declared.sort.Sort.{Sort}
use Rattle.wiring_file.specs.declared.sort.Sort.TheVariants.{Stripe, Open, Minus}
use Rattle.wiring_file.specs.Fault.{Says, IsRefusedAs, IsNumberFault, IsFlat, HasNoWidth, HasWidth, HasCount, IsMiscounted, IsUnfitLine}
use Rattle.wiring_file.specs.Number.{place_of, numbers_in, quantity_at}
use Rattle.wiring_file.specs.Sort.{the, sort_of}
use Rattle.wiring_file.specs.Unit.{text_at, sort_at}
use Rattle.wiring_file.specs.inside.Value.{IsRefusedAt, SaysAt, says}
use Rattle.wiring_file.specs.Standing.{Standing}
use Rattle.wiring_file.proofs.Numbers.{HasOne, ok_is, to_miscounted, from_miscounted}

-- ## the last word

last_text : (before : List Token) (word : Token) → text_at (length before) (before ++ word ∷ []) ≡ word.text
last_text [] word = refl
last_text (b ∷ before) word = last_text before word

last_sort : (before : List Token) (word : Token) → sort_at (length before) (before ++ word ∷ []) ≡ sort_of word
last_sort [] word = refl
last_sort (b ∷ before) word = last_sort before word

pub more : (before : List Token) (word : Token) → length (before ++ word ∷ []) ≡ suc (length before)
more [] word = refl
more (b ∷ before) word = ap suc (more before word)

last_place : (before : List Token) (word : Token) → length (before ++ word ∷ []) - 1 ≡ length before
last_place before word = omega (arith, more before word)

-- What holds of the last word's place and text holds of this word.
last_word : (P : ℕ → List ℕ → Type 0) (before : List Token) (word : Token) → P (length before) word.text →
    P (length (before ++ word ∷ []) - 1) (text_at (length (before ++ word ∷ []) - 1) (before ++ word ∷ []))
last_word P before word h =
    let part = before ++ word ∷ [] in
    subst (λ n. P n (text_at n part)) (sym (last_place before word)) (subst (P (length before)) (sym (last_text before word)) h)

of_last : (P : ℕ → List ℕ → Type 0) (before : List Token) (word : Token) →
    P (length (before ++ word ∷ []) - 1) (text_at (length (before ++ word ∷ []) - 1) (before ++ word ∷ [])) → P (length before) word.text
of_last P before word h =
    let part = before ++ word ∷ [] in
    subst (P (length before)) (last_text before word) (subst (λ n. P n (text_at n part)) (last_place before word) h)

-- What is told of a word as a number of the quantity that its place asks for.
some_is : (a b : Quantity) → ◌≡◌ {A = Option Quantity} (Some a) (Some b) → a ≡ b
some_is a b h = cc

nothing : (q : Quantity) → ◌≡◌ {A = Option Quantity} None (Some q) → ⊥
nothing q h = cc

pub tells_number : (section : Section) (n : ℕ) (text : List ℕ) (quantity : Quantity) (result : Result ℤ WiringKind) → Some quantity ≡ quantity_at n (numbers_in section) →
    FindsValue (IsRefusedAs quantity text) (λ v. IsNumberAt (place_of quantity) text (Ok v)) result → FindsValue (IsRefusedAt section n text) (SaysAt section n text) result
tells_number section n text quantity (Ok v) at h = (
  λ kind k. h.0 kind (subst (λ q. IsRefusedAs q text kind) (some_is k.0 quantity (sym (at ∙ k.1))) k.2),
  λ q there. subst (λ q. IsNumberAt (place_of q) text (Ok v)) (some_is quantity q (at ∙ there)) h.1,
)
tells_number section n text quantity (Err kind) at h = (quantity, sym at, h)

pub tells_none : (section : Section) (n : ℕ) (text : List ℕ) (v : ℤ) → None ≡ quantity_at n (numbers_in section) → FindsValue (IsRefusedAt section n text) (SaysAt section n text) (Ok v)
tells_none section n text v none = (λ kind k. nothing k.0 (none ∙ k.1), λ q there. absurd (nothing q (none ∙ there)))

-- ## a word by its place

heard_in : (section : Section) (before : List Token) (unit : List (Heard ℤ)) (n : ℕ) (heard : Heard ℤ) → AreHeard (says section) before unit → n < length unit → heard ≡ get_or unit n heard →
    SaysAt section (length before + n) (heard_token heard).text heard.value
heard_in section before [] n heard h within is = absurd (omega arith)
heard_in section before (x ∷ xs) zero heard h within is =
    let here : SaysAt section (length before) (heard_token x).text x.value = of_last (λ n text. SaysAt section n text x.value) before (heard_token x) h.0 in
    let place : length before ≡ length before + 0 = omega arith in
    subst (λ (z : Heard ℤ). SaysAt section (length before + 0) (heard_token z).text z.value) (sym is) (subst (λ n. SaysAt section n (heard_token x).text x.value) place here)
heard_in section before (x ∷ xs) (suc n) heard h within is =
    let there = heard_in section (before ++ heard_token x ∷ []) xs n heard h.1 (omega arith) is in
    let place : length (before ++ heard_token x ∷ []) + n ≡ length before + suc n = omega (arith, more before (heard_token x)) in
    subst (λ k. SaysAt section k (heard_token heard).text heard.value) place there

pub text_is : (unit : List (Heard ℤ)) (n : ℕ) (heard : Heard ℤ) → n < length unit → heard ≡ get_or unit n heard → text_at n (map heard_token unit) ≡ (heard_token heard).text
text_is [] n heard within is = absurd (omega arith)
text_is (x ∷ xs) zero heard within is = ap (λ (z : Heard ℤ). (heard_token z).text) (sym is)
text_is (x ∷ xs) (suc n) heard within is = text_is xs n heard (omega arith) is

-- A number is near.
pub near : (quantity : Quantity) (text : List ℕ) (v : ℤ) → IsNumberAt (place_of quantity) text (Ok v) → unsigned_abs v ≤ 2 ^ 61
near Coordinate text v h = h.1.2.within
near NotNegative text v h = h.1.2.within
near Positive text v h = h.1.2.within
near Microns text v h = let w = h.1.2.within in omega arith

-- It is kept as it is.
pub kept_text : (quantity : Quantity) (text : List ℕ) (v : ℤ) → IsNumberAt (place_of quantity) text (Ok v) → IsNumberAt (place_of quantity) text (Ok (to_z w64 (of_z w64 v)))
kept_text quantity text v h =
    let small = near quantity text v h in
    subst (λ z. IsNumberAt (place_of quantity) text (Ok z)) (sym (to_z-of_z w64 v (fits_signed_from_abs w64 v (omega arith)))) h

pub kept : (quantity : Quantity) (n : ℕ) (part : List Token) (v : ℤ) → Says quantity n part v → Says quantity n part (to_z w64 (of_z w64 v))
kept quantity n part v h = kept_text quantity (text_at n part) v h

-- The word that has n words before it says its number.
pub heard_at : (section : Section) (quantity : Quantity) (unit : List (Heard ℤ)) (n : ℕ) (heard : Heard ℤ) → AreHeard (says section) [] unit → quantity_at n (numbers_in section) ≡ Some quantity →
    n < length unit → heard ≡ get_or unit n heard → Says quantity n (map heard_token unit) heard.value
heard_at section quantity unit n heard h there within is =
    let none : 0 + n ≡ n = omega arith in
    let said : SaysAt section n (heard_token heard).text heard.value = subst (λ k. SaysAt section k (heard_token heard).text heard.value) none (heard_in section [] unit n heard h within is) in
    subst (λ text. IsNumberAt (place_of quantity) text (Ok heard.value)) (sym (text_is unit n heard within is)) (said quantity there)

-- ## what one more word does not change

text_before : (n : ℕ) (before : List Token) (word : Token) → n < length before → text_at n (before ++ word ∷ []) ≡ text_at n before
text_before n [] word within = absurd (omega arith)
text_before zero (b ∷ before) word within = refl
text_before (suc n) (b ∷ before) word within = text_before n before word (omega arith)

pub says_before : (quantity : Quantity) (n : ℕ) (before : List Token) (word : Token) (v : ℤ) → n < length before → Says quantity n before v → Says quantity n (before ++ word ∷ []) v
says_before quantity n before word v within h = subst (λ text. IsNumberAt (place_of quantity) text (Ok v)) (sym (text_before n before word within)) h

-- ## words that do not fit

module _ (one : HasOne) (part : List Token) where
  pub the_number : (quantity : Quantity) (n : ℕ) (v w : ℤ) → Says quantity n part v → Says quantity n part w → v ≡ w
  the_number quantity n v w h k = ok_is w v (one (place_of quantity) (text_at n part) (Ok v) (Ok w) h k)

  same_number : (n m : ℕ) (v w : ℤ) → Says Coordinate n part v → Says Coordinate m part w → (v ≡ w) ↔ ((x : ℤ) × Says Coordinate n part x × Says Coordinate m part x)
  same_number n m v w h k = (λ e. (v, h, subst (Says Coordinate m part) (sym e) k), λ x. the_number Coordinate n v x.0 h x.1 ∙ the_number Coordinate m x.0 w x.2 k)

  pub flat_is : (a b c d : ℤ) → Says Coordinate 2 part a → Says Coordinate 3 part b → Says Coordinate 6 part c → Says Coordinate 7 part d → ((a ≡ c) ⊎ (b ≡ d)) ↔ IsFlat part
  flat_is a b c d ha hb hc hd =
      let x = same_number 2 6 a c ha hc in
      let y = same_number 3 7 b d hb hd in
      (λ h. elim h [ inl e ↦ inl (x.0 e) | inr e ↦ inr (y.0 e) ], λ h. elim h [ inl e ↦ inl (x.1 e) | inr e ↦ inr (y.1 e) ])

  module _ (width : ℤ) (says_width : Says NotNegative 1 part width) where
    pub no_width_is : (width ≡ pos 0) ↔ HasNoWidth part
    no_width_is = (λ e. subst (Says NotNegative 1 part) e says_width, λ h. the_number NotNegative 1 width (pos 0) says_width h)

    pub width_is : (width ≢ pos 0) ↔ HasWidth part
    width_is = (λ some. (width, says_width, some), λ h e. h.2 (the_number NotNegative 1 h.0 width h.1 says_width ∙ e))

    -- The width, the shape and the end of a line.
    pub unfit_width : (placed : Bool) → length part ≡ 2 → ((placed ≡ true) × (width ≢ pos 0)) ↔ IsUnfitLine placed part
    unfit_width placed many = (
      λ h. inl (many, h.0, width_is.0 h.1),
      λ h. elim h [ inl k ↦ (k.1, width_is.1 k.2) | inr k ↦ elim k [ inl l ↦ absurd (omega (arith, l.0)) | inr l ↦ absurd (omega (arith, l.0)) ] ],
    )

    pub unfit_shape : (placed : Bool) → length part ≡ 5 → ((width ≡ pos 0) × (the Stripe (sort_at 4 part) ≡ false)) ↔ IsUnfitLine placed part
    unfit_shape placed many = (
      λ h. inr (inl (many, (no_width_is.0 h.0, h.1))),
      λ h. elim h [ inl k ↦ absurd (omega (arith, k.0)) | inr k ↦ elim k [ inl l ↦ (no_width_is.1 l.1.0, l.1.1) | inr l ↦ absurd (omega (arith, l.0)) ] ],
    )

    pub unfit_end : (placed : Bool) → length part ≡ 10 →
        (((width ≡ pos 0) × (the Open (sort_at 9 part) ≡ true)) ⊎ ((width ≢ pos 0) × (the Open (sort_at 9 part) ≡ false))) ↔ IsUnfitLine placed part
    unfit_end placed many = (
      λ h. inr (inr (many, elim h [ inl k ↦ inl (no_width_is.0 k.0, k.1) | inr k ↦ inr (width_is.0 k.0, k.1) ])),
      λ h. elim h [
        | inl k ↦ absurd (omega (arith, k.0))
        | inr k ↦ elim k [ inl l ↦ absurd (omega (arith, l.0)) | inr l ↦ elim l.1 [ inl m ↦ inl (no_width_is.1 m.0, m.1) | inr m ↦ inr (width_is.1 m.0, m.1) ] ]
      ],
    )

  pub fits : (placed : Bool) → length part ≢ 2 → length part ≢ 5 → length part ≢ 10 → IsUnfitLine placed part → ⊥
  fits placed a b c h = elim h [ inl k ↦ a k.0 | inr k ↦ elim k [ inl l ↦ b l.0 | inr l ↦ c l.0 ] ]

-- ## the last word of a line, of an entry, and of a die

pub compose : {A B C : Type 0} → A ↔ B → B ↔ C → A ↔ C
compose h k = (λ a. k.0 (h.0 a), λ c. h.1 (k.1 c))

pub words_more : (before : List (Heard ℤ)) (word : Token) → length (map heard_token before ++ word ∷ []) ≡ suc (length before)
words_more before word = omega (arith, more (map heard_token before) word, length-map before heard_token)

pub width_last : (before : List (Heard ℤ)) (word : Token) (v : ℤ) → length before ≡ 1 → SaysAt Line (length before) word.text v → Says NotNegative 1 (map heard_token before ++ word ∷ []) v
width_last [] word v e h = absurd (omega arith)
width_last (x ∷ []) word v e h = h NotNegative refl
width_last (x ∷ y ∷ before) word v e h = absurd (omega arith)

pub sort_last : (before : List (Heard ℤ)) (word : Token) (n : ℕ) → length before ≡ n → sort_at n (map heard_token before ++ word ∷ []) ≡ sort_of word
sort_last before word n e =
    let part = map heard_token before ++ word ∷ [] in
    let same : length (map heard_token before) ≡ n = length-map before heard_token ∙ e in
    ap (λ k. sort_at k part) (sym same) ∙ last_sort (map heard_token before) word

-- The width that a word before says.
pub width_before : (before : List (Heard ℤ)) (word : Token) (v : ℤ) → 1 < length before → Says NotNegative 1 (map heard_token before) v →
    Says NotNegative 1 (map heard_token before ++ word ∷ []) (to_z w64 (of_z w64 v))
width_before before word v long h =
    let many : 1 < length (map heard_token before) = omega (arith, length-map before heard_token) in
    kept NotNegative 1 (map heard_token before ++ word ∷ []) v (says_before NotNegative 1 (map heard_token before) word v many h)

pub coordinate_before : (before : List (Heard ℤ)) (word : Token) (n : ℕ) (v : ℤ) → n < length before → Says Coordinate n (map heard_token before) v →
    Says Coordinate n (map heard_token before ++ word ∷ []) (to_z w64 (of_z w64 v))
coordinate_before before word n v long h =
    let many : n < length (map heard_token before) = omega (arith, length-map before heard_token) in
    kept Coordinate n (map heard_token before ++ word ∷ []) v (says_before Coordinate n (map heard_token before) word v many h)

pub kept_at : (section : Section) (n : ℕ) (text : List ℕ) (v : ℤ) → SaysAt section n text v → SaysAt section n text (to_z w64 (of_z w64 v))
kept_at section n text v h = λ quantity there. kept_text quantity text v (h quantity there)

abbrev pub DiffersBy : ℕ → ℕ → Bool → Type 0
DiffersBy count entries entry = ((entry ≡ true) × (count ≡ entries)) ⊎ ((entry ≡ false) × (count ≢ entries))

pub begun_badly : HasOne → (s : Standing) (before : List (Heard ℤ)) (word : Token) (sort : Sort) (count entries : ℕ) → HasCount s (pos count) → entries ≡ s.entries → sort ≡ sort_of word →
    ((length before ≡ 0) × DiffersBy count entries (the Minus sort)) ↔ ((length (map heard_token before ++ word ∷ []) ≡ 1) × IsMiscounted s (map heard_token before ++ word ∷ []))
begun_badly one s [] word sort count entries known many same = (
  λ h. (refl, to_miscounted one s (word ∷ []) count entries known many (subst (λ z. DiffersBy count entries (the Minus z)) same h.1)),
  λ h. (refl, subst (λ z. DiffersBy count entries (the Minus z)) (sym same) (from_miscounted one s (word ∷ []) count entries known many h.1)),
)
begun_badly one s (x ∷ before) word sort count entries known many same =
    (λ h. let e = h.0 in absurd (omega arith), λ h. let e = h.0 in absurd (omega (arith, words_more (x ∷ before) word)))

-- What is told of the last word.
pub refused_last : (section other : Section) (before : List (Heard ℤ)) (word : Token) (kind : WiringKind) → section ≡ other → IsRefusedAt section (length before) word.text kind →
    IsNumberFault other (map heard_token before ++ word ∷ []) kind
refused_last section other before word kind e h =
    subst (λ z. IsNumberFault z (map heard_token before ++ word ∷ []) kind) e
    (last_word (λ n text. IsRefusedAt section n text kind) (map heard_token before) word
    (subst (λ n. IsRefusedAt section n word.text kind) (sym (length-map before heard_token)) h))

pub said_last : (section other : Section) (before : List (Heard ℤ)) (word : Token) (v : ℤ) → section ≡ other → SaysAt section (length before) word.text v →
    says other (map heard_token before ++ word ∷ []) v
said_last section other before word v e h =
    subst (λ z. says z (map heard_token before ++ word ∷ []) v) e
    (last_word (λ n text. SaysAt section n text v) (map heard_token before) word
    (subst (λ n. SaysAt section n word.text v) (sym (length-map before heard_token)) h))

pub not_refused_last : (section other : Section) (before : List (Heard ℤ)) (word : Token) → section ≡ other → ((kind : WiringKind) → IsRefusedAt section (length before) word.text kind → ⊥) →
    (kind : WiringKind) → IsNumberFault other (map heard_token before ++ word ∷ []) kind → ⊥
not_refused_last section other before word e h kind fault =
    h kind (subst (λ n. IsRefusedAt section n word.text kind) (length-map before heard_token)
    (of_last (λ n text. IsRefusedAt section n text kind) (map heard_token before) word
    (subst (λ z. IsNumberFault z (map heard_token before ++ word ∷ []) kind) (sym e) fault)))
