-- The sorts of the words of a bias file: the first words of lines, the words that are never a number, comments, others,
-- and the ends.
use Rattle.std.specs.Prelude.{◌≡◌, ℕ, ◌≤◌, ◌==◌, Bool, false, List, [], ◌∷◌, length, slice_get, Some, codes, if◌then◌else◌}
use Rattle.std.proofs.Common.{refl, arith}
use Rattle.bias_file.specs.declared.sort.Sort.{Sort}
use Rattle.bias_file.specs.declared.sort.Sort.TheVariants.{Supply, DropLimit, Pad, Cell, Instance, Mark, Comment, Other, LineEnd, TextEnd}
use Rattle.reading.specs.declared.word.Form.{Form}
use Rattle.reading.specs.declared.word.Form.TheVariants.{Break, End}
use Rattle.reading.specs.Keyword.{keyword_or}
use Rattle.reading.specs.Word.{Token}

abbrev pub number_of : Sort → ℕ
number_of Supply = 0
number_of DropLimit = 1
number_of Pad = 2
number_of Cell = 3
number_of Instance = 4
number_of Mark = 5
number_of Comment = 6
number_of Other = 7
number_of LineEnd = 8
number_of TextEnd = 9

abbrev pub all_sorts : List Sort
all_sorts = Supply ∷ DropLimit ∷ Pad ∷ Cell ∷ Instance ∷ Mark ∷ Comment ∷ Other ∷ LineEnd ∷ TextEnd ∷ []

-- The sort is this one.
abbrev pub the : Sort → Sort → Bool
the this sort = number_of sort == number_of this

-- A word that begins with `#` (byte 35) makes a comment.
abbrev pub begins_comment : List ℕ → Bool
begins_comment [] = false
begins_comment (c ∷ cs) = c == 35

-- The first words of lines, and the words that never stand for a number.
abbrev pub keywords : List (List ℕ × Sort)
keywords =
    (codes "supply", Supply) ∷ (codes "droplimit", DropLimit) ∷ (codes "pad", Pad) ∷ (codes "cell", Cell)
    ∷ (codes "instance", Instance) ∷ (codes ";", Mark) ∷ (codes "(", Mark) ∷ (codes ")", Mark) ∷ []

-- The sort of a word that stands within a line.
abbrev pub sort_of_text : List ℕ → Sort
sort_of_text text =
    keyword_or keywords (if begins_comment text then Comment else Other) text

-- The sort of a word of this form. In lines each word is bare or an end; the other forms never come.
abbrev pub sort_with : Form → List ℕ → Sort
sort_with Break text = LineEnd
sort_with End text = TextEnd
sort_with _ text = sort_of_text text

abbrev pub sort_of : Token → Sort
sort_of word = sort_with word.form word.text

-- Each sort stands in the list at its number, and there are few.
pub listed : (sort : Sort) → slice_get all_sorts (number_of sort) ≡ Some sort
listed Supply = refl
listed DropLimit = refl
listed Pad = refl
listed Cell = refl
listed Instance = refl
listed Mark = refl
listed Comment = refl
listed Other = refl
listed LineEnd = refl
listed TextEnd = refl

pub few : length all_sorts ≤ 64
few = omega arith
