-- Why a word is refused as the value of an option.
use Rattle.std.specs.Prelude.{◌≡◌, ◌⊎◌, ◌==◌, ℕ, Bool, true, false, IsTrue, ◌||◌, List, [], ◌∷◌, length, codes}
use Rattle.std.specs.List.{AllByRecursion}
use Rattle.std.specs.Str.{bytes_eq}
use Rattle.number_place.specs.declared.place.Refused.{Refused}
use Rattle.number_place.specs.declared.place.Refused.TheVariants.{Syntax}
use Rattle.script_options.specs.declared.number.Quantity.{Quantity}
use Rattle.script_options.specs.declared.table.Counts.{Counts}
use Rattle.script_options.specs.declared.table.Counts.TheVariants as counts
use Rattle.script_options.specs.declared.table.ValueForm.{ValueForm}
use Rattle.script_options.specs.declared.table.ValueForm.TheVariants.{Nothing, Name, Start, Number, Names, Numbers}
use Rattle.script_options.specs.ListWords.{words_of}
use Rattle.script_options.specs.Number.{RefusesNumber, IsNumberIn, HasNumber}
use Rattle.text_lex.specs.Name.{IsName}

-- The word is `POWER` or `GROUND`.
abbrev pub is_start : List ℕ → Bool
is_start text = bytes_eq text (codes "POWER") || bytes_eq text (codes "GROUND")

-- A list may have so many values.
abbrev pub fits : Counts → ℕ → Bool
fits counts.Any count = true
fits counts.Two count = count == 2
fits counts.OneOrTwo count = count == 1 || count == 2
fits counts.OneTwoOrFour count = count == 1 || count == 2 || count == 4

-- One of the words is no name.
abbrev pub AnyOtherWord : List (List ℕ) → Type 0
AnyOtherWord [] = ⊥
AnyOtherWord (word ∷ words) = (¬ IsName word) ⊎ AnyOtherWord words

-- One of the words is refused for its form.
abbrev pub AnySyntax : Quantity → List (List ℕ) → Type 0
AnySyntax quantity [] = ⊥
AnySyntax quantity (word ∷ words) = RefusesNumber quantity word Syntax ⊎ AnySyntax quantity words

-- The first of the words that is refused is refused for this reason.
abbrev pub FirstRefused : Quantity → List (List ℕ) → Refused → Type 0
FirstRefused quantity [] refused = ⊥
FirstRefused quantity (word ∷ words) refused =
    RefusesNumber quantity word refused
    ⊎ (((other : Refused) → ¬ RefusesNumber quantity word other) × FirstRefused quantity words refused)

-- A list of names is refused where it has another number of words, or one that is no name.
abbrev pub RefusesNames : Counts → List (List ℕ) → Refused → Type 0
RefusesNames counts words refused =
    (refused ≡ Syntax) × ((fits counts (length words) ≡ false) ⊎ AnyOtherWord words)

-- A list of numbers is refused where it has another number of words, or one that is refused for its form; otherwise for the
-- first number that is refused.
abbrev pub RefusesNumbers : Quantity → Counts → List (List ℕ) → Refused → Type 0
RefusesNumbers quantity counts words refused =
    ((refused ≡ Syntax) × ((fits counts (length words) ≡ false) ⊎ AnySyntax quantity words))
    ⊎ ((fits counts (length words) ≡ true) × (¬ AnySyntax quantity words) × FirstRefused quantity words refused)

-- The word is refused as a value of this form, and this is why. A word that stands for one thing is no list of one.
abbrev pub Refuses : ValueForm → List ℕ → Refused → Type 0
Refuses Nothing text refused = ⊥
Refuses Name text refused = (refused ≡ Syntax) × (¬ IsName text)
Refuses Start text refused = (refused ≡ Syntax) × (¬ IsTrue (is_start text))
Refuses (Number quantity) text refused = RefusesNumber quantity text refused
Refuses (Names counts) text refused = RefusesNames counts (words_of text) refused
Refuses (Numbers quantity counts) text refused = RefusesNumbers quantity counts (words_of text) refused

-- A word that is not refused as a value of this form: a name, a number, or a list of so many names or numbers.
abbrev pub Suits : ValueForm → List ℕ → Type 0
Suits Name text = IsName text
Suits (Number quantity) text = HasNumber quantity text
Suits (Names counts) text = (fits counts (length (words_of text)) ≡ true) × AllByRecursion IsName (words_of text)
Suits (Numbers quantity counts) text =
    (fits counts (length (words_of text)) ≡ true) × AllByRecursion (HasNumber quantity) (words_of text)
Suits _ text = Unit {0}

-- The number that a word says as a value of this form, where it is one number.
abbrev pub SaysNumber : ValueForm → List ℕ → ℕ → Type 0
SaysNumber (Number quantity) text value = IsNumberIn quantity text value
SaysNumber _ text value = Unit {0}
