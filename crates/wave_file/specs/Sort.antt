-- The sorts of the words of a wave file: the first word of a line, the words that are never a number, others, and the
-- ends.
use Rattle.std.specs.Prelude.{◌≡◌, ℕ, ◌≤◌, ◌==◌, Bool, List, [], ◌∷◌, length, slice_get, Some, codes}
use Rattle.std.proofs.Common.{refl, arith}
use Rattle.wave_file.specs.declared.sort.Sort.{Sort}
use Rattle.wave_file.specs.declared.sort.Sort.TheVariants.{At, Mark, Other, LineEnd, TextEnd}
use Rattle.reading.specs.declared.word.Form.{Form}
use Rattle.reading.specs.declared.word.Form.TheVariants.{Break, End}
use Rattle.reading.specs.Keyword.{keyword_or}
use Rattle.reading.specs.Word.{Token}

abbrev pub number_of : Sort → ℕ
number_of At = 0
number_of Mark = 1
number_of Other = 2
number_of LineEnd = 3
number_of TextEnd = 4

abbrev pub all_sorts : List Sort
all_sorts = At ∷ Mark ∷ Other ∷ LineEnd ∷ TextEnd ∷ []

-- The sort is this one.
abbrev pub the : Sort → Sort → Bool
the this sort = number_of sort == number_of this

-- The first word of a line, and the words that never stand for a number.
abbrev pub keywords : List (List ℕ × Sort)
keywords = (codes "at", At) ∷ (codes ";", Mark) ∷ (codes "(", Mark) ∷ (codes ")", Mark) ∷ []

-- The sort of a word that stands within a line.
abbrev pub sort_of_text : List ℕ → Sort
sort_of_text text = keyword_or keywords Other text

-- The sort of a word of this form. In lines each word is bare or an end; the other forms never come.
abbrev pub sort_with : Form → List ℕ → Sort
sort_with Break text = LineEnd
sort_with End text = TextEnd
sort_with _ text = sort_of_text text

abbrev pub sort_of : Token → Sort
sort_of word = sort_with word.form word.text

-- Each sort stands in the list at its number, and there are few.
pub listed : (sort : Sort) → slice_get all_sorts (number_of sort) ≡ Some sort
listed At = refl
listed Mark = refl
listed Other = refl
listed LineEnd = refl
listed TextEnd = refl

pub few : length all_sorts ≤ 64
few = omega arith
