-- What begins as a number is no keyword.
use Rattle.std.proofs.Common.{◌≡◌, ℕ, Bool, true, false, not, ◌&&◌, List, [], ◌∷◌, if◌then◌else◌, codes, inl, inr, refl, sym, ◌∙◌, ap}
use Rattle.std.specs.Str.{bytes_eq}
use Rattle.std.proofs.lemmas.Bool.{cases_Bool}
use Rattle.std.proofs.lemmas.Slice.Eq.{bytes_eq-Decides}
use Rattle.macro_blocks.specs.declared.sort.Sort.{Sort}
use Rattle.macro_blocks.specs.declared.sort.Sort.TheVariants.{Other, Semicolon}
use Rattle.macro_blocks.specs.inside.Number.{begins_number}
use Rattle.macro_blocks.specs.Sort.{keywords, sort_of_text, sort_with, sort_of, the}
use Rattle.lef_statements.specs.Word.{is_word_with, is_word}
use Rattle.reading.specs.declared.word.Form.{Form}
use Rattle.reading.specs.declared.word.Form.TheVariants as forms
use Rattle.reading.specs.Keyword.{keyword_or}
use Rattle.reading.specs.Word.{Token}

-- None of the keywords begins as a number does.
are_words : List (List ℕ × Sort) → Bool
are_words [] = true
are_words (keyword ∷ rest) = not (begins_number keyword.0) && are_words rest

first_is : (a b : Bool) → (not a && b) ≡ true → a ≡ false
first_is false b h = refl
first_is true b h = absurd (let t : false ≡ true = h in cc)

rest_are : (a b : Bool) → (not a && b) ≡ true → b ≡ true
rest_are false b h = h
rest_are true b h = absurd (let t : false ≡ true = h in cc)

no_keyword : (words : List (List ℕ × Sort)) (none : Sort) (text : List ℕ) → begins_number text ≡ true → are_words words ≡ true →
    keyword_or words none text ≡ none
unfolding are_words
no_keyword [] none text number fine = refl
no_keyword (keyword ∷ rest) none text number fine = elim (cases_Bool (bytes_eq text keyword.0)) [
  | inl same ↦
      let is = ap begins_number ((bytes_eq-Decides text keyword.0).0 same) in
      let no = first_is (begins_number keyword.0) (are_words rest) fine in
      absurd (cc)
  | inr apart ↦
      ap (λ b. if b then keyword.1 else keyword_or rest none text) apart
      ∙ no_keyword rest none text number (rest_are (begins_number keyword.0) (are_words rest) fine)
]

pub number_sort : (text : List ℕ) → begins_number text ≡ true → sort_of_text text ≡ Other
unfolding are_words
number_sort text number = no_keyword keywords Other text number refl

-- ## `;`

-- None of the keywords is `;`.
rest_of : List (List ℕ × Sort) → List (List ℕ × Sort)
rest_of [] = []
rest_of (keyword ∷ rest) = rest

are_no_stops : List (List ℕ × Sort) → Bool
are_no_stops [] = true
are_no_stops (keyword ∷ rest) = not (the Semicolon keyword.1) && are_no_stops rest

no_stop : (words : List (List ℕ × Sort)) (text : List ℕ) → are_no_stops words ≡ true → the Semicolon (keyword_or words Other text) ≡ false
unfolding are_no_stops
no_stop [] text fine = refl
no_stop (keyword ∷ rest) text fine =
    by (bytes_eq text keyword.0) (no_stop rest text (rest_are (the Semicolon keyword.1) (are_no_stops rest) fine))
  where
    by : (b : Bool) → the Semicolon (keyword_or rest Other text) ≡ false → the Semicolon (if b then keyword.1 else keyword_or rest Other text) ≡ false
    by true none = first_is (the Semicolon keyword.1) (are_no_stops rest) fine
    by false none = none

stop_text : (text : List ℕ) → the Semicolon (sort_of_text text) ≡ bytes_eq text (codes ";")
unfolding are_no_stops rest_of
stop_text text = by (bytes_eq text (codes ";"))
  where
    by : (b : Bool) → the Semicolon (if b then Semicolon else keyword_or (rest_of keywords) Other text) ≡ b
    by true = refl
    by false = no_stop (rest_of keywords) text refl

stop_with : (form : Form) (text : List ℕ) → the Semicolon (sort_with form text) ≡ is_word_with (codes ";") form text
stop_with forms.Bare text = stop_text text
stop_with forms.Quoted text = refl
stop_with forms.Braced text = refl
stop_with forms.Break text = refl
stop_with forms.Semicolon text = refl
stop_with forms.End text = refl

pub stop_word : (word : Token) → the Semicolon (sort_of word) ≡ is_word (codes ";") word
stop_word word = stop_with word.form word.text
