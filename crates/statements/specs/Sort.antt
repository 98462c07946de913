-- The sorts of the words of a text.
use Rattle.std.specs.Prelude.{◌≡◌, ℕ, ◌≤◌, List, [], ◌∷◌, length, slice_get, Some, codes}
use Rattle.std.proofs.Common.{refl, arith}
use Rattle.reading.specs.declared.word.Form.{Form}
use Rattle.reading.specs.declared.word.Form.TheVariants.{Bare, End}
use Rattle.reading.specs.Keyword.{keyword_or}
use Rattle.reading.specs.Word.{Token}
use Rattle.statements.specs.declared.sort.Sort.{Sort}
use Rattle.statements.specs.declared.sort.Sort.TheVariants.{Set, Semicolon, Bracket, Other, TextEnd}

abbrev pub number_of : Sort → ℕ
number_of Set = 0
number_of Semicolon = 1
number_of Bracket = 2
number_of Other = 3
number_of TextEnd = 4

abbrev pub all_sorts : List Sort
all_sorts = Set ∷ Semicolon ∷ Bracket ∷ Other ∷ TextEnd ∷ []

-- The sort of a bare word.
abbrev pub sort_of_text : List ℕ → Sort
sort_of_text text =
    keyword_or ((codes "SET", Set) ∷ (codes ";", Semicolon) ∷ (codes "(", Bracket) ∷
    (codes ")", Bracket) ∷ []) Other text

-- The sort of a word of this form. A word in quotes is no keyword and no mark.
abbrev pub sort_with : Form → List ℕ → Sort
sort_with Bare text = sort_of_text text
sort_with End text = TextEnd
sort_with form text = Other

abbrev pub sort_of : Token → Sort
sort_of word = sort_with word.form word.text

-- Each sort stands in the list at its number, and there are few.
pub listed : (sort : Sort) → slice_get all_sorts (number_of sort) ≡ Some sort
listed Set = refl
listed Semicolon = refl
listed Bracket = refl
listed Other = refl
listed TextEnd = refl

pub few : length all_sorts ≤ 64
few = omega arith
