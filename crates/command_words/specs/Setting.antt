-- Options and their values among the words of a command line. A word is a list of bytes.
use Rattle.std.specs.Prelude.{◌≡◌, ◌≢◌, ◌⊎◌, ℕ, List, [], ◌∷◌, ◌++◌, length, Contains, Option, None, Some, if◌then◌else◌}
use Rattle.std.specs.Str.{bytes_eq}

-- What may stand as an option's value: a word that is not empty, does not begin with `-`, and has no line feed in it,
-- so that an answer that names a file is one line.
abbrev pub IsValue : List ℕ → Type 0
IsValue [] = ⊥
IsValue (first ∷ rest) = (first ≢ 45) × ¬ Contains (first ∷ rest) 10

-- The first of the words set the option to the value, as `--x v` or as `--x=v`, and the others follow them.
pub record Sets (option value : List ℕ) (words others : List (List ℕ)) : Type 0 where
  pub is_value : IsValue value
  pub spelled : (words ≡ option ∷ value ∷ others) ⊎ (words ≡ (option ++ (61 ∷ value)) ∷ others)

-- The words are these settings, one after the other: each sets one of the options to a value.
abbrev pub AreSettings : List (List ℕ) → List (List ℕ × List ℕ) → List (List ℕ) → Type 0
AreSettings options [] words = words ≡ []
AreSettings options (setting ∷ settings) words =
    (others : List (List ℕ)) × Contains options setting.0 × Sets setting.0 setting.1 words others
    × AreSettings options settings others

-- The value to which the option is set first.
abbrev pub value_of : List (List ℕ × List ℕ) → List ℕ → Option (List ℕ)
value_of [] option = None
value_of (setting ∷ settings) option = if bytes_eq setting.0 option then Some setting.1 else value_of settings option

abbrev pub with_value : Option (List ℕ) → Option (List (List ℕ)) → Option (List (List ℕ))
with_value (Some value) (Some values) = Some (value ∷ values)
with_value _ _ = None

-- The values of these options, in their order, or none where one of them is not set.
abbrev pub values_of : List (List ℕ × List ℕ) → List (List ℕ) → Option (List (List ℕ))
values_of settings [] = Some []
values_of settings (option ∷ options) = with_value (value_of settings option) (values_of settings options)

-- The words set each of the options once, in any order, and nothing else, and these are the values in the options'
-- order.
pub record SetsEach (options words values : List (List ℕ)) : Type 0 where
  pub settings : List (List ℕ × List ℕ)
  pub are : AreSettings options settings words
  pub as_many : length settings ≡ length options
  pub values_are : values_of settings options ≡ Some values
