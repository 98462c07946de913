-- The sorts of the words of a netlist: the letters of cards, the words that are never a value, dot lines, others, and the ends.
use Rattle.std.specs.Prelude.{◌≡◌, ℕ, ◌≤◌, ◌==◌, Bool, List, [], ◌∷◌, length, slice_get, Some, codes}
use Rattle.std.proofs.Common.{refl, arith}
use Rattle.netlist_words.specs.declared.letter.Letter.{Letter}
use Rattle.netlist_words.specs.declared.letter.Letter.TheVariants as letters
use Rattle.netlist_words.specs.Letter.{letter_of}
use Rattle.spice_cards.specs.declared.sort.Sort.{Sort}
use Rattle.spice_cards.specs.declared.sort.Sort.TheVariants.{Resistor, Source, Load, Capacitor, Dc, Mark, Dot, End, Other, CardEnd, Range, Stray, TextEnd}
use Rattle.reading.specs.declared.word.Form.{Form}
use Rattle.reading.specs.declared.word.Form.TheVariants as forms
use Rattle.reading.specs.Keyword.{keyword_or}
use Rattle.reading.specs.Word.{Token}

abbrev pub number_of : Sort → ℕ
number_of Resistor = 0
number_of Source = 1
number_of Load = 2
number_of Capacitor = 3
number_of Dc = 4
number_of Mark = 5
number_of Dot = 6
number_of End = 7
number_of Other = 8
number_of CardEnd = 9
number_of Range = 10
number_of Stray = 11
number_of TextEnd = 12

abbrev pub all_sorts : List Sort
all_sorts =
    Resistor ∷ Source ∷ Load ∷ Capacitor ∷ Dc ∷ Mark ∷ Dot ∷ End ∷ Other ∷ CardEnd ∷ Range ∷ Stray ∷ TextEnd ∷ []

-- The sort is this one.
abbrev pub the : Sort → Sort → Bool
the this sort = number_of this == number_of sort

-- `DC`, the words that never stand for a value, `.end`, and the dot lines that are passed over.
abbrev pub keywords : List (List ℕ × Sort)
keywords =
    (codes "DC", Dc) ∷ (codes ";", Mark) ∷ (codes "(", Mark) ∷ (codes ")", Mark) ∷ (codes ".end", End)
    ∷ (codes ".op", Dot) ∷ (codes ".option", Dot) ∷ (codes ".options", Dot) ∷ (codes ".print", Dot) ∷ (codes ".plot", Dot)
    ∷ (codes ".title", Dot) ∷ (codes ".width", Dot) ∷ []

-- The sort of a word with this letter that is no keyword.
abbrev pub sort_of_letter : Letter → Sort
sort_of_letter letters.Resistor = Resistor
sort_of_letter letters.Source = Source
sort_of_letter letters.Load = Load
sort_of_letter letters.Capacitor = Capacitor
sort_of_letter letters.Other = Other

-- The sort of a word within a card or a dot line.
abbrev pub sort_of_text : List ℕ → Sort
sort_of_text text = keyword_or keywords (sort_of_letter (letter_of text)) text

-- The sort of a word that ends what stands before it: the end of a card has no text, a range line's first word is `*range`, and any other
-- is that of a `+` line with no card before it.
abbrev pub sort_of_end : List ℕ → Sort
sort_of_end [] = CardEnd
sort_of_end (byte ∷ bytes) = keyword_or ((codes "*range", Range) ∷ []) Stray (byte ∷ bytes)

-- The sort of a word of this form. Words of netlists are bare or ends.
abbrev pub sort_with : Form → List ℕ → Sort
sort_with forms.Break text = sort_of_end text
sort_with forms.End text = TextEnd
sort_with _ text = sort_of_text text

abbrev pub sort_of : Token → Sort
sort_of word = sort_with word.form word.text

-- Each sort stands in the list at its number, and there are few.
pub listed : (sort : Sort) → slice_get all_sorts (number_of sort) ≡ Some sort
listed Resistor = refl
listed Source = refl
listed Load = refl
listed Capacitor = refl
listed Dc = refl
listed Mark = refl
listed Dot = refl
listed End = refl
listed Other = refl
listed CardEnd = refl
listed Range = refl
listed Stray = refl
listed TextEnd = refl

pub few : length all_sorts ≤ 64
few = omega arith
