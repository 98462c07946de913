-- The sorts of a unit's words, by how many there are. No unit of a technology has more than six.
use Rattle.std.specs.Prelude.{ℕ, List, [], ◌∷◌, map, slice_get, Option, Some, None}
use Rattle.lef_tech.specs.declared.shape.Shape.{Shape}
use Rattle.lef_tech.specs.declared.shape.Shape.TheVariants.{One, Two, Three, Four, Five, Six, Other}
use Rattle.lef_tech.specs.declared.sort.Sort.{Sort}
use Rattle.lef_tech.specs.Sort.{sort_of}
use Rattle.reading.specs.Word.{Token}

abbrev pub shape_of : List Sort → Shape
shape_of (a ∷ []) = One a
shape_of (a ∷ b ∷ []) = Two a b
shape_of (a ∷ b ∷ c ∷ []) = Three a b c
shape_of (a ∷ b ∷ c ∷ d ∷ []) = Four a b c d
shape_of (a ∷ b ∷ c ∷ d ∷ e ∷ []) = Five a b c d e
shape_of (a ∷ b ∷ c ∷ d ∷ e ∷ f ∷ []) = Six a b c d e f
shape_of _ = Other

-- The sorts of these words.
abbrev pub shape_in : List Token → Shape
shape_in unit = shape_of (map sort_of unit)

-- The text of a word; none where there is no word.
abbrev pub text_or : Option Token → List ℕ
text_or None = []
text_or (Some word) = word.text

-- The text of the word that has n words of its unit before it.
abbrev pub text_at : List Token → ℕ → List ℕ
text_at unit n = text_or (slice_get unit n)
