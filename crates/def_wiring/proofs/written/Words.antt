-- Names and numbers as words of a text of wiring.
use Rattle.std.proofs.Common.{◌≡◌, ℕ, ◌^◌, ◌<◌, ◌≤◌, ◌&&◌, ◌||◌, Bool, true, false, if◌then◌else◌, ltb, ℤ, List, [], ◌∷◌, length, codes, Result, Ok, Err, refl, sym, ◌∙◌, ap, arith, inl, inr}
use Rattle.std.proofs.lemmas.Bool.{le-ltb}
use Rattle.std.specs.Prelude.{◌⊎◌, slice_index, unsigned_abs}
use Rattle.std.specs.Fmt.{signed_decimal}
use Rattle.std.specs.List.{list_all}
use Rattle.std.specs.Str.{bytes_eq}
use Rattle.std.proofs.lemmas.Slice.Eq.{bytes_eq-Decides}
use Rattle.text_lex.specs.declared.word.Mode.TheVariants.{LefDef}
use Rattle.text_lex.specs.Bytes.{is_plain, begins_bare}
use Rattle.text_lex.specs.Piece.{IsBare}
use Rattle.text_lex.specs.Name.{IsName}
use Rattle.number_place.specs.declared.place.NumberPlace.{NumberPlace}
use Rattle.number_place.specs.declared.place.NumberSign.{NumberSign}
use Rattle.number_place.specs.declared.place.Refused.{Refused}
use Rattle.number_place.specs.Place.{IsNumberAt, HasSign}
use Rattle.reading.specs.Keyword.{keyword_or}
use Rattle.def_wiring.specs.declared.error.WiresKind.{WiresKind}
use Rattle.def_wiring.specs.declared.number.Quantity.{Quantity}
use Rattle.def_wiring.specs.declared.number.Quantity.TheVariants.{Any, NotNegative, Positive}
use Rattle.def_wiring.specs.declared.sort.Sort.{Sort}
use Rattle.def_wiring.specs.declared.sort.Sort.TheVariants.{Other}
use Rattle.def_wiring.specs.Number.{place_of, IsNumber, NumberFault}
use Rattle.def_wiring.specs.Rule.{is_name}
use Rattle.def_wiring.specs.Sort.{marks, statements, parts, sort_of_part, sort_of_statement, sort_of_text}
use Rattle.written_words.specs.Numbers.{whole, IsNumeric}
use Rattle.written_words.specs.Spelled.{bare, IsWritten}

-- What is known of the numbers of texts.
pub record Laws : Type 0 where
  pub one : (place : NumberPlace) (text : List ℕ) (r s : Result ℤ Refused) → IsNumberAt place text r → IsNumberAt place text s → r ≡ s
  pub value : (sign : NumberSign) (v : ℤ) (limit : ℕ) → HasSign sign v → unsigned_abs v ≤ limit → limit < 10 ^ 64 → IsNumberAt (whole limit sign) (signed_decimal v) (Ok v)
  pub word : (v : ℤ) → unsigned_abs v < 10 ^ 64 → IsNumeric (signed_decimal v)

pub no_true : true ≡ false → ⊥
no_true h = cc

pub no_false : false ≡ true → ⊥
no_false h = cc

two : (a b : Bool) → (a && b) ≡ true → (a ≡ true) × (b ≡ true)
two true true h = (refl, refl)
two true false h = absurd (no_false h)
two false b h = absurd (no_false h)

-- ## words that are known

abbrev has_some : List ℕ → Bool
has_some [] = false
has_some (byte ∷ bytes) = true

-- The bytes are one bare word.
abbrev is_word : List ℕ → Bool
is_word text = has_some text && (begins_bare LefDef true (slice_index text 0) && list_all (is_plain LefDef) text)

some_of : (text : List ℕ) → has_some text ≡ true → 0 < length text
some_of [] h = absurd (no_false h)
some_of (byte ∷ bytes) h = omega arith

is_bare : (text : List ℕ) → IsBare LefDef true text [] → IsWritten (bare text)
is_bare text h b more ends = record { some = h.some; begins = h.begins; plain = h.plain; ends = ends }

pub known : (text : List ℕ) → is_word text ≡ true → IsWritten (bare text)
known text h =
    let some = two (has_some text) (begins_bare LefDef true (slice_index text 0) && list_all (is_plain LefDef) text) h in
    let rest = two (begins_bare LefDef true (slice_index text 0)) (list_all (is_plain LefDef) text) some.1 in
    is_bare text (record { some = some_of text some.0; begins = rest.0; plain = rest.1; ends = refl })

-- ## sorts of names

other_by : (a b : List ℕ) (is : Bool) → bytes_eq a b ≡ is → (a ≡ b → ⊥) → bytes_eq a b ≡ false
other_by a b true e h = absurd (h ((bytes_eq-Decides a b).0 e))
other_by a b false e h = e

pub other_word : (text word : List ℕ) → (text ≡ word → ⊥) → bytes_eq text word ≡ false
other_word text word h = other_by text word (bytes_eq text word) refl h

-- The text is not this keyword, or the keyword's sort is that of a name.
abbrev Passes : List ℕ → List (List ℕ × Sort) → Type 0
Passes text [] = Unit {0}
Passes text (k ∷ ks) = ((bytes_eq text k.0 ≡ false) ⊎ (is_name k.1 ≡ true)) × Passes text ks

choose : (b : Bool) (x y : Sort) → (b ≡ false) ⊎ (is_name x ≡ true) → is_name y ≡ true → is_name (if b then x else y) ≡ true
choose true x y (inl e) k = absurd (no_true e)
choose true x y (inr e) k = e
choose false x y h k = k

keyword_all : (text : List ℕ) (kws : List (List ℕ × Sort)) (last : Sort) → is_name last ≡ true → Passes text kws → is_name (keyword_or kws last text) ≡ true
keyword_all text [] last o h = o
keyword_all text (k ∷ ks) last o h = choose (bytes_eq text k.0) k.1 (keyword_or ks last text) h.0 (keyword_all text ks last o h.1)

abbrev all_names : List (List ℕ × Sort) → Bool
all_names [] = true
all_names (k ∷ ks) = is_name k.1 && all_names ks

all_pass : (text : List ℕ) (kws : List (List ℕ × Sort)) → all_names kws ≡ true → Passes text kws
all_pass text [] h = tt
all_pass text (k ∷ ks) h = let t = two (is_name k.1) (all_names ks) h in (inr t.0, all_pass text ks t.1)

abbrev tail_of : List (List ℕ × Sort) → List (List ℕ × Sort)
tail_of [] = []
tail_of (k ∷ ks) = ks

pub name_sort : (text : List ℕ) → (text ≡ codes ";" → ⊥) → is_name (sort_of_text text) ≡ true
name_sort text other =
    keyword_all text marks (sort_of_statement text)
    (keyword_all text statements (sort_of_part text) (keyword_all text parts Other refl (all_pass text parts refl)) (all_pass text statements refl))
    (inl (other_word text (codes ";") other), all_pass text (tail_of marks) refl)

-- A name as a word.
pub record IsNameWord (text : List ℕ) : Type 0 where
  pub sort : is_name (sort_of_text text) ≡ true
  pub word : IsWritten (bare text)
  pub no_end : bytes_eq text (codes ";") ≡ false

pub name_word : (text : List ℕ) → IsName text → IsNameWord text
name_word text h = record { sort = name_sort text h.1; word = is_bare text h.0; no_end = other_word text (codes ";") h.1 }

-- ## sorts of numbers

-- A number begins with no byte of this kind.
abbrev is_apart : ℕ → Bool
is_apart c = ltb c 45 || ltb 57 c

or_false : (a b : Bool) → a ≡ false → b ≡ false → (a || b) ≡ false
or_false false b e f = f
or_false true b e f = absurd (no_true e)

apart : (text word : List ℕ) → is_apart (slice_index word 0) ≡ true → 45 ≤ slice_index text 0 → slice_index text 0 ≤ 57 → text ≡ word → ⊥
apart text word h low high e =
    let c : ℕ = slice_index text 0 in
    let none : is_apart c ≡ false = or_false (ltb c 45) (ltb 57 c) (le-ltb c 45 low) (le-ltb 57 c high) in
    no_true (sym h ∙ ap is_apart (sym (ap (λ z. slice_index z 0) e)) ∙ none)

abbrev all_apart : List (List ℕ × Sort) → Bool
all_apart [] = true
all_apart (k ∷ ks) = is_apart (slice_index k.0 0) && all_apart ks

pass_by : (b : Bool) (x y z : Sort) → b ≡ false → y ≡ z → (if b then x else y) ≡ z
pass_by false x y z e f = f
pass_by true x y z e f = absurd (no_true e)

no_keyword : (text : List ℕ) (kws : List (List ℕ × Sort)) (last z : Sort) → 45 ≤ slice_index text 0 → slice_index text 0 ≤ 57 → all_apart kws ≡ true → last ≡ z →
    keyword_or kws last text ≡ z
no_keyword text [] last z low high h e = e
no_keyword text (k ∷ ks) last z low high h e =
    let t = two (is_apart (slice_index k.0 0)) (all_apart ks) h in
    pass_by (bytes_eq text k.0) k.1 (keyword_or ks last text) z (other_word text k.0 (apart text k.0 t.0 low high)) (no_keyword text ks last z low high t.1 e)

-- What stands after the marks `;`, `(`, `)`, `+` and `-`.
abbrev more_marks : List (List ℕ × Sort)
more_marks = tail_of (tail_of (tail_of (tail_of (tail_of marks))))

number_sort : (text : List ℕ) → IsNumeric text → sort_of_text text ≡ Other
number_sort text is =
    let low : 45 ≤ slice_index text 0 = is.low in
    let high : slice_index text 0 ≤ 57 = is.high in
    let rest : sort_of_statement text ≡ Other = no_keyword text statements (sort_of_part text) Other low high refl (no_keyword text parts Other Other low high refl refl) in
    let marked : keyword_or more_marks (sort_of_statement text) text ≡ Other = no_keyword text more_marks (sort_of_statement text) Other low high refl rest in
    pass_by (bytes_eq text (codes ";")) _ _ Other (other_word text (codes ";") (apart text (codes ";") refl low high))
    (pass_by (bytes_eq text (codes "(")) _ _ Other (other_word text (codes "(") (apart text (codes "(") refl low high))
    (pass_by (bytes_eq text (codes ")")) _ _ Other (other_word text (codes ")") (apart text (codes ")") refl low high))
    (pass_by (bytes_eq text (codes "+")) _ _ Other (other_word text (codes "+") (apart text (codes "+") refl low high))
    (pass_by (bytes_eq text (codes "-")) _ _ Other (other_word text (codes "-") is.no_mark) marked))))

-- A written number as a word.
pub record IsNumberWord (v : ℤ) : Type 0 where
  pub sort : sort_of_text (signed_decimal v) ≡ Other
  pub word : IsWritten (bare (signed_decimal v))
  pub no_end : bytes_eq (signed_decimal v) (codes ";") ≡ false

pub number_word : Laws → (v : ℤ) → unsigned_abs v ≤ 2 ^ 61 → IsNumberWord v
number_word laws v near =
    let is : IsNumeric (signed_decimal v) = laws.word v (omega arith) in
    record {
      sort = number_sort (signed_decimal v) is;
      word = is.word;
      no_end = other_word (signed_decimal v) (codes ";") (apart (signed_decimal v) (codes ";") refl is.low is.high);
    }

-- ## values of numbers

abbrev pub sign_of : Quantity → NumberSign
sign_of quantity = (place_of quantity).sign

pub number_is : Laws → (q : Quantity) (v : ℤ) → HasSign (sign_of q) v → unsigned_abs v ≤ 2 ^ 30 → IsNumber q (signed_decimal v) v
number_is laws Any v has near = laws.value (sign_of Any) v (2 ^ 30) has near (omega arith)
number_is laws NotNegative v has near = laws.value (sign_of NotNegative) v (2 ^ 30) has near (omega arith)
number_is laws Positive v has near = laws.value (sign_of Positive) v (2 ^ 30) has near (omega arith)

not_refused : (v : ℤ) (r : Refused) → ◌≡◌ {A = Result ℤ Refused} (Ok v) (Err r) → ⊥
not_refused v r h = cc

pub same_number : (v w : ℤ) → ◌≡◌ {A = Result ℤ Refused} (Ok v) (Ok w) → v ≡ w
same_number v w h = cc

-- A number is not refused.
pub no_fault : Laws → (q : Quantity) (text : List ℕ) (v : ℤ) → IsNumber q text v → (kind : WiresKind) → NumberFault q text kind → ⊥
no_fault laws q text v is kind (refused, bad, e) = not_refused v refused (laws.one (place_of q) text (Ok v) (Err refused) is bad)
