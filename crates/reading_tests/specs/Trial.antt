-- The format of the engine's own tests: lists of any number of words between one in quotes and one in braces. The sort
-- of a word is told by its form, there is one section, and no word shows a fault.
use Rattle.std.specs.Prelude.{◌≡◌, ℕ, ◌≤◌, Bool, true, false, List, [], ◌∷◌, length, slice_get, Some}
use Rattle.std.proofs.Common.{refl, ap, arith, inr}
use Rattle.reading.specs.declared.word.Form.{Form}
use Rattle.reading.specs.declared.word.Form.TheVariants as forms
use Rattle.reading_tests.specs.declared.lists.Sort.{Sort}
use Rattle.reading_tests.specs.declared.lists.Sort.TheVariants.{First, Middle, Last, Other, End}
use Rattle.reading.specs.Pattern.{Pattern, One, Then, Or, Many}
use Rattle.reading.specs.Reading.{Format}
use Rattle.reading.specs.Word.{Token}
use Rattle.reading.specs.Grammar.{IsRegular}
use Rattle.reading.specs.Laws.{IsImmediate, immediate}

abbrev pub sort_number : Sort → ℕ
sort_number First = 0
sort_number Middle = 1
sort_number Last = 2
sort_number Other = 3
sort_number End = 4

abbrev pub all_sorts : List Sort
all_sorts = First ∷ Middle ∷ Last ∷ Other ∷ End ∷ []

-- Each sort stands in the list at its number, and there are few.
pub listed : (sort : Sort) → slice_get all_sorts (sort_number sort) ≡ Some sort
listed First = refl
listed Middle = refl
listed Last = refl
listed Other = refl
listed End = refl

pub few : length all_sorts ≤ 64
few = omega arith

abbrev pub sort_of : Form → Sort
sort_of forms.Quoted = First
sort_of forms.Bare = Middle
sort_of forms.Braced = Last
sort_of forms.Break = Other
sort_of forms.Semicolon = Other
sort_of forms.End = End

abbrev pub is_first : Sort → Bool
is_first First = true
is_first sort = false

abbrev pub is_middle : Sort → Bool
is_middle Middle = true
is_middle sort = false

abbrev pub is_last : Sort → Bool
is_last Last = true
is_last sort = false

abbrev pub is_end : Sort → Bool
is_end End = true
is_end sort = false

-- A first word, any number of others, and a last one; or the end of the text.
abbrev pub unit : Pattern Sort
unit = Or (Then (One is_first) (Then (Many (One is_middle)) (One is_last))) (One is_end)

-- What may stand in the one section.
abbrev pub pattern_of : Sort → Pattern Sort
pattern_of section = unit

abbrev pub trial_format : Format Token Sort ℕ
trial_format = record {
  sort = λ units word. sort_of word.form;
  follow = λ units. unit;
  fault = λ units part found. ⊥;
  ends = λ units. false;
}

-- A form of each sort.
abbrev pub form_of : Sort → Form
form_of First = forms.Quoted
form_of Middle = forms.Bare
form_of Last = forms.Braced
form_of Other = forms.Break
form_of End = forms.End

pub form_kept : (sort : Sort) → sort_of (form_of sort) ≡ sort
form_kept First = refl
form_kept Middle = refl
form_kept Last = refl
form_kept Other = refl
form_kept End = refl

-- A word of this sort.
abbrev pub word_of : Sort → Token
word_of sort = record { text = []; place = record { line = 1; word = 1 }; form = form_of sort }

abbrev pub every : Sort → Sort → Bool
every section sort = true

faults : IsImmediate trial_format
faults = record { last = λ units part a h. absurd h; one = λ units part a b h k. absurd h }

-- The laws that the format owes.
pub trial-regular : IsRegular all_sorts pattern_of trial_format
trial-regular = record {
  usable = every;
  place = λ units. Middle;
  follow = λ units. refl;
  samples = λ units sort usable. (word_of sort, form_kept sort);
  begun = refl;
  end = End;
  ends = λ units w h. ap (λ form. sort_of form) h;
  units = λ c. record { solid = inr refl; closes = refl; comes_last = refl };
  orderly = immediate trial_format faults;
}
