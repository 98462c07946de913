-- Units by the number of their words.
use Rattle.std.proofs.Common.{◌≡◌, ◌≤◌, List, [], ◌∷◌, length, refl, arith}
use Rattle.def_wiring.specs.declared.section.Section.{Section}
use Rattle.def_wiring.specs.declared.standing.Standing.{Standing}
use Rattle.def_wiring.specs.Standing.{after_words}
use Rattle.def_wiring.specs.declared.sort.Sort.{Sort}
use Rattle.def_wiring.specs.declared.sort.Sort.TheVariants.{Semicolon}
use Rattle.reading.specs.declared.word.Heard.{Heard}
use Rattle.reading.specs.Word.{Token}
use Rattle.reading.specs.declared.word.Form.TheVariants.{Bare}

abbrev pub no_word : Heard Sort
no_word = record { word = record { text = record { ref_ptr = (0, 0); now = [] }; place = record { line = 0; word = 0 }; form = Bare }; value = Semicolon }

-- A longer unit leads nowhere else.
pub stays_long : (section : Section) (unit : List Token) (standing : Standing) → 4 ≤ length unit → standing ≡ after_words section unit standing
stays_long section [] standing h = absurd (omega arith)
stays_long section (a ∷ []) standing h = absurd (omega arith)
stays_long section (a ∷ b ∷ []) standing h = absurd (omega arith)
stays_long section (a ∷ b ∷ c ∷ []) standing h = absurd (omega arith)
stays_long section (a ∷ b ∷ c ∷ d ∷ unit) standing h = refl
