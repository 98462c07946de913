-- Units by the number of their words.
use Rattle.std.proofs.Common.{◌≡◌, false, sym, ◌∙◌, ◌<◌, ◌≤◌, List, [], ◌∷◌, Option, length, refl, ap, arith}
use Rattle.macro_blocks.specs.declared.section.Section.{Section}
use Rattle.macro_blocks.specs.declared.standing.OpenPin.{OpenPin}
use Rattle.macro_blocks.specs.declared.standing.Standing.{Standing}
use Rattle.macro_blocks.specs.Record.{act_of, act_of_more}
use Rattle.macro_blocks.specs.declared.section.Section.TheVariants as places
use Rattle.macro_blocks.specs.declared.sort.Sort.{Sort}
use Rattle.macro_blocks.specs.declared.sort.Sort.TheVariants.{Macro}
use Rattle.macro_blocks.specs.Standing.{after_more, after_words, is_rect, last_in, section_in, with_last}
use Rattle.macro_blocks.specs.declared.value.Value.{Value}
use Rattle.macro_blocks.specs.declared.value.Value.TheVariants.{First}
use Rattle.reading.specs.declared.word.Heard.{Heard}
use Rattle.reading.specs.Word.{Token, last_of}
use Rattle.reading.specs.declared.word.Form.TheVariants.{Bare}

-- The default of a slice's accesses.
abbrev pub no_word : Heard Value
no_word = record { word = record { text = record { ref_ptr = (0, 0); now = [] }; place = record { line = 0; word = 0 }; form = Bare }; value = First Macro }

-- Fewer words than six are no RECT, and neither are more.
pub few_words : (unit : List Token) → length unit < 6 → false ≡ is_rect unit
few_words [] h = refl
few_words (a ∷ []) h = refl
few_words (a ∷ b ∷ []) h = refl
few_words (a ∷ b ∷ c ∷ []) h = refl
few_words (a ∷ b ∷ c ∷ d ∷ []) h = refl
few_words (a ∷ b ∷ c ∷ d ∷ e ∷ []) h = refl
few_words (a ∷ b ∷ c ∷ d ∷ e ∷ f ∷ unit) h = absurd (omega arith)

pub many_words : (unit : List Token) → 7 ≤ length unit → false ≡ is_rect unit
many_words [] h = refl
many_words (a ∷ []) h = refl
many_words (a ∷ b ∷ []) h = refl
many_words (a ∷ b ∷ c ∷ []) h = refl
many_words (a ∷ b ∷ c ∷ d ∷ []) h = refl
many_words (a ∷ b ∷ c ∷ d ∷ e ∷ []) h = refl
many_words (a ∷ b ∷ c ∷ d ∷ e ∷ f ∷ []) h = absurd (omega arith)
many_words (a ∷ b ∷ c ∷ d ∷ e ∷ f ∷ g ∷ unit) h = refl

-- A unit of three words and more does what those do.
pub long_act : (section : Section) (pin : Option OpenPin) (unit : List Token) → 3 ≤ length unit → act_of section pin unit ≡ act_of_more section
long_act section pin [] h = absurd (omega arith)
long_act section pin (a ∷ []) h = absurd (omega arith)
long_act section pin (a ∷ b ∷ []) h = absurd (omega arith)
long_act section pin (a ∷ b ∷ c ∷ unit) h = refl

-- It leads where those lead.
pub long_leads : (section : Section) (unit : List Token) (standing : Standing) → 3 ≤ length unit →
    after_words section unit standing ≡ after_more section (is_rect unit) standing
long_leads section [] standing h = absurd (omega arith)
long_leads section (a ∷ []) standing h = absurd (omega arith)
long_leads section (a ∷ b ∷ []) standing h = absurd (omega arith)
long_leads section (a ∷ b ∷ c ∷ unit) standing h = refl

-- The last word is kept where a word could not stand, and nowhere else.
other_last : (section : Section) → (section ≡ places.Unfit → ⊥) → (word : Option Token) (last : Sort) → last ≡ last_in section word last
other_last places.Unfit other word last = absurd (other refl)
other_last section other word last = refl

pub last_kept : (unit : List Token) (standing new : Standing) (section : Section) → section ≡ section_in standing → section ≡ places.Unfit →
    new ≡ (record standing { last = last_in places.Unfit (last_of unit) standing.last }) → new ≡ with_last unit standing
last_kept unit standing new section is unfit keeps =
    keeps ∙ ap (λ (z : Section). record standing { last = last_in z (last_of unit) standing.last }) (sym unfit ∙ is)

pub last_stays : (unit : List Token) (standing : Standing) (section : Section) → section ≡ section_in standing → (section ≡ places.Unfit → ⊥) →
    standing ≡ with_last unit standing
last_stays unit standing section is other =
    ap (λ (z : Sort). record standing { last = z }) (other_last (section_in standing) (λ e. other (is ∙ e)) (last_of unit) standing.last)
