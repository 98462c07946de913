-- Names and numbers as words of units.
use Rattle.std.proofs.Common.{◌≡◌, ℕ, zero, suc, ◌^◌, ◌<◌, ◌≤◌, ◌&&◌, Bool, true, false, ℤ, List, [], ◌∷◌, length, take, Ok, refl, sym, ◌∙◌, subst, arith, inl, inr}
use Rattle.std.specs.Prelude.{slice_index, unsigned_abs}
use Rattle.std.specs.Fmt.{signed_decimal}
use Rattle.std.specs.List.{list_all}
use Rattle.std.proofs.lemmas.List.{length-take-le}
use Rattle.text_lex.specs.declared.word.Mode.TheVariants.{LefDef}
use Rattle.text_lex.specs.Bytes.{is_plain, begins_bare}
use Rattle.text_lex.specs.Name.{IsName}
use Rattle.number_place.specs.declared.place.NumberSign.{NumberSign}
use Rattle.number_place.specs.Place.{IsNumberAt, HasSign}
use Rattle.reading.specs.Word.{Token}
use Rattle.wiring_file.specs.declared.sort.Sort.{Sort}
use Rattle.wiring_file.specs.declared.sort.Sort.TheVariants.{Open}
use Rattle.wiring_file.specs.Sort.{the, sort_of_text}
use Rattle.wiring_file.specs.Rule.{is_name, is_number, is_via}
use Rattle.wiring_file.specs.Number.{limit}
use Rattle.wiring_file.specs.Standing.{Standing}
use Rattle.wiring_file.specs.Fault.{IsMiscounted, IsUnfitLine, HasWidth, HasOtherShape, HasOtherEnd}
use Rattle.wiring_file.proofs.Digits.{Laws, number_is, number_word, number_bare, IsNumberWord}
use Rattle.written_words.specs.Numbers.{whole}
use Rattle.wiring_file.proofs.Sorts.{number_sort, name_sort}
use Rattle.wiring_file.proofs.Spelled.{is_bare}
use Rattle.written_words.specs.Spelled.{bare, IsWritten}

-- ## words

two : (a b : Bool) → (a && b) ≡ true → (a ≡ true) × (b ≡ true)
two true true h = (refl, refl)
two true false h = absurd (let t : false ≡ true = h in cc)
two false b h = absurd (let t : false ≡ true = h in cc)

abbrev pub has_some : List ℕ → Bool
has_some [] = false
has_some (byte ∷ bytes) = true

-- The bytes are one bare word.
abbrev pub is_word : List ℕ → Bool
is_word text = has_some text && (begins_bare LefDef true (slice_index text 0) && list_all (is_plain LefDef) text)

some_of : (text : List ℕ) → has_some text ≡ true → 0 < length text
some_of [] h = absurd (let t : false ≡ true = h in cc)
some_of (byte ∷ bytes) h = omega arith

-- A word that is known.
pub known : (text : List ℕ) → is_word text ≡ true → IsWritten (bare text)
known text h =
    let some = two (has_some text) (begins_bare LefDef true (slice_index text 0) && list_all (is_plain LefDef) text) h in
    let rest = two (begins_bare LefDef true (slice_index text 0)) (list_all (is_plain LefDef) text) some.1 in
    is_bare text (record { some = some_of text some.0; begins = rest.0; plain = rest.1; ends = refl })

-- A name as a word of a unit.
pub record IsNameWord (text : List ℕ) : Type 0 where
  pub sort : is_name (sort_of_text text) ≡ true
  pub word : IsWritten (bare text)

pub name_word : (text : List ℕ) → IsName text → IsNameWord text
name_word text h = record { sort = name_sort text h.1; word = is_bare text h.0 }

-- A number as a word of a unit.
pub record IsNumber (sign : NumberSign) (v : ℤ) : Type 0 where
  pub is : IsNumberAt (whole limit sign) (signed_decimal v) (Ok v)
  pub sort : is_number (sort_of_text (signed_decimal v)) ≡ true
  pub word : IsWritten (bare (signed_decimal v))

limit_few : limit < 10 ^ 64
limit_few = omega arith

pub number : Laws → (sign : NumberSign) (v : ℤ) → HasSign sign v → unsigned_abs v ≤ limit → IsNumber sign v
number laws sign v has near =
    let is : IsNumberAt (whole limit sign) (signed_decimal v) (Ok v) = number_is laws sign v limit has near limit_few in
    let word : IsNumberWord (signed_decimal v) = number_word limit sign (signed_decimal v) v is in
    record { is = is; sort = number_sort (signed_decimal v) word; word = is_bare (signed_decimal v) (number_bare (signed_decimal v) word) }

-- ## words that do not fit

length_taken : (u : List Token) (n : ℕ) → n < length u → length (take (suc n) u) ≡ suc n
length_taken u n within = length-take-le (suc n) u (omega arith)

-- An entry is asked about its count at its first word.
pub counted_fit : (s : Standing) (t : Token) (ts : List Token) → (IsMiscounted s (t ∷ []) → ⊥) →
    (n : ℕ) → n < length (t ∷ ts) → (length (take (suc n) (t ∷ ts)) ≡ 1) × IsMiscounted s (take (suc n) (t ∷ ts)) → ⊥
counted_fit s t ts none zero within h = none h.1
counted_fit s t ts none (suc n) within h =
    let count : length (take (suc (suc n)) (t ∷ ts)) ≡ suc (suc n) = length_taken (t ∷ ts) (suc n) within in
    let one = h.0 in
    let few : suc (suc n) ≡ 1 = sym count ∙ one in
    omega arith

-- A line of wiring is asked about its width, its shape and its end.
pub line_fit : (placed : Bool) (u : List Token) → (placed ≡ true → HasWidth (take 2 u) → ⊥) → (HasOtherShape (take 5 u) → ⊥) → (HasOtherEnd (take 10 u) → ⊥) →
    (n : ℕ) → n < length u → IsUnfitLine placed (take (suc n) u) → ⊥
line_fit placed u two five ten n within h =
    let count : length (take (suc n) u) ≡ suc n = length_taken u n within in
    elim h [
      | inl width ↦ two width.1 (subst (λ z. HasWidth (take z u)) (sym count ∙ width.0) width.2)
      | inr other ↦
          (elim other [
            | inl shape ↦ five (subst (λ z. HasOtherShape (take z u)) (sym count ∙ shape.0) shape.1)
            | inr end ↦ ten (subst (λ z. HasOtherEnd (take z u)) (sym count ∙ end.0) end.1)
          ])
    ]

-- The name of a via is no `(`.
pub not_open : (sort : Sort) → is_via sort ≡ true → the Open sort ≡ false
not_open Open h = absurd (let t : false ≡ true = h in cc)
not_open sort h = refl
