-- The laws that the format owes, and that lines say one pair of lists.
use Rattle.std.proofs.Common.{◌≡◌, ℕ, ◌+◌, ◌^◌, Bool, true, ℤ, List, [], ◌∷◌, length, codes, Result, Ok, Err, refl, sym, ◌∙◌, ap, inr}
use Rattle.fixed_decimal.specs.declared.error.DecimalError.{DecimalError}
use Rattle.fixed_decimal.specs.Integer.{IsInteger}
use Rattle.fixed_decimal.specs.Value.{IsAnswer}
use Rattle.entry_list.specs.Laws.{in-turn-one}
use Rattle.certificate_file.specs.declared.error.CertKind.{CertKind}
use Rattle.certificate_file.specs.declared.error.CertKind.TheVariants.{Number}
use Rattle.certificate_file.specs.declared.lists.Lists.{Lists}
use Rattle.certificate_file.specs.declared.section.Section.{Section}
use Rattle.certificate_file.specs.declared.section.Section.TheVariants.{Head, Row, Close, Ended}
use Rattle.certificate_file.specs.declared.sort.Sort.{Sort}
use Rattle.certificate_file.specs.declared.sort.Sort.TheVariants.{Pdn, Certificate, Version, Last, Mark, Other, LineEnd, TextEnd}
use Rattle.certificate_file.specs.Sort.{all_sorts, sort_of, sort_with}
use Rattle.certificate_file.specs.Section.{section_after}
use Rattle.certificate_file.specs.Rule.{pattern, rows}
use Rattle.certificate_file.specs.Voltage.{IsVoltage}
use Rattle.certificate_file.specs.Fault.{VoltageFault, fault_after}
use Rattle.certificate_file.specs.Record.{SaysHigh, SaysLow, IsLists}
use Rattle.certificate_file.specs.Format.{format}
use Rattle.reading.specs.declared.refusal.Found.{Found}
use Rattle.reading.specs.declared.word.Form.{Form}
use Rattle.reading.specs.declared.word.Form.TheVariants.{Bare, Break, End}
use Rattle.reading.specs.Grammar.{IsUnit, IsRegular}
use Rattle.reading.specs.Laws.{immediate}
use Rattle.reading.specs.Word.{Token}

abbrev pub HasOne : Type 0
HasOne = (places limit : ℕ) (text : List ℕ) (r s : Result ℤ DecimalError) → IsAnswer IsInteger places limit text r → IsAnswer IsInteger places limit text s → r ≡ s

word : List ℕ → Form → Token
word text form = record { text = text; place = record { line = 1; word = 1 }; form = form }

sample : (sort : Sort) → (w : Token) × (sort_of w ≡ sort)
unfolding word
sample Pdn = (word (codes "pdn") Bare, refl)
sample Certificate = (word (codes "certificate") Bare, refl)
sample Version = (word (codes "1") Bare, refl)
sample Last = (word (codes "end") Bare, refl)
sample Mark = (word (codes ";") Bare, refl)
sample Other = (word [] Bare, refl)
sample LineEnd = (word [] Break, refl)
sample TextEnd = (word [] End, refl)

usable : Section → Sort → Bool
usable section sort = true

units_end : (section : Section) → IsUnit all_sorts (usable section) TextEnd (pattern section)
unfolding usable
units_end Head = record { solid = inr refl; closes = refl; comes_last = refl }
units_end Row = record { solid = inr refl; closes = refl; comes_last = refl }
units_end Close = record { solid = inr refl; closes = refl; comes_last = refl }
units_end Ended = record { solid = inr refl; closes = refl; comes_last = refl }

last : (names : List (List ℕ)) (lines : ℕ) (part : List Token) (a : Found CertKind) → fault_after names lines part a → a.at + 1 ≡ length part
last names lines (name ∷ []) a h = ap (λ z. z + 1) h.0
last names lines (name ∷ high ∷ []) a h = ap (λ z. z + 1) h.0
last names lines (name ∷ high ∷ low ∷ []) a h = ap (λ z. z + 1) h.0
last names lines part a h = absurd h

pub error_is : (a b : DecimalError) → ◌≡◌ {A = Result ℤ DecimalError} (Err a) (Err b) → a ≡ b
error_is a b h = cc

pub value_is : (a b : ℤ) → ◌≡◌ {A = Result ℤ DecimalError} (Ok a) (Ok b) → a ≡ b
value_is a b h = cc

pub not_both : (a : ℤ) (b : DecimalError) → ◌≡◌ {A = Result ℤ DecimalError} (Ok a) (Err b) → ⊥
not_both a b h = cc

pub one_voltage : HasOne → (text : List ℕ) (r s : Result ℤ DecimalError) → IsVoltage text r → IsVoltage text s → r ≡ s
one_voltage one text r s h k = one 0 (10 ^ 37) text r s h k

voltage_kind : HasOne → (names : List (List ℕ)) (lines : ℕ) (text : List ℕ) (k l : CertKind) → VoltageFault names lines text k → VoltageFault names lines text l → l ≡ k
voltage_kind one names lines text k l h i = i.1 ∙ ap (λ z. Number z) (error_is i.0 h.0 (one_voltage one text (Err i.0) (Err h.0) i.3 h.3)) ∙ sym h.1

kind : HasOne → (names : List (List ℕ)) (lines : ℕ) (part : List Token) (a b : Found CertKind) → fault_after names lines part a → fault_after names lines part b → b.kind ≡ a.kind
kind one names lines (name ∷ []) a b h i = i.1.0 ∙ sym h.1.0
kind one names lines (name ∷ high ∷ []) a b h i = voltage_kind one names lines high.text a.kind b.kind h.1 i.1
kind one names lines (name ∷ high ∷ low ∷ []) a b h i = voltage_kind one names lines low.text a.kind b.kind h.1 i.1
kind one names lines part a b h i = absurd h

pub regular : HasOne → (names : List (List ℕ)) → IsRegular all_sorts pattern (format names)
regular one names = record {
  usable = usable;
  place = λ lines. section_after (length names) (length lines);
  follow = λ lines. refl;
  samples = λ lines sort h. sample sort;
  end = TextEnd;
  ends = λ lines w e. ap (λ z. sort_with z w.text) e;
  begun = refl;
  units = units_end;
  orderly = immediate (format names) (record { last = λ lines part a h. last names (length lines) part a h; one = λ lines part a b h i. kind one names (length lines) part a b h i });
}

-- ## one pair of lists

one_high : HasOne → (line : List Token) (v w : ℤ) → SaysHigh line v → SaysHigh line w → v ≡ w
one_high one (name ∷ high ∷ low ∷ stop ∷ []) v w h k = value_is v w (one_voltage one high.text (Ok v) (Ok w) h k)
one_high one line v w h k = absurd h

one_low : HasOne → (line : List Token) (v w : ℤ) → SaysLow line v → SaysLow line w → v ≡ w
one_low one (name ∷ high ∷ low ∷ stop ∷ []) v w h k = value_is v w (one_voltage one low.text (Ok v) (Ok w) h k)
one_low one line v w h k = absurd h

abbrev the_lists : Lists → Lists
the_lists a = a

same_lists : (a b : Lists) → a.high ≡ b.high → a.low ≡ b.low → a ≡ b
same_lists a b e f = ap (λ z. the_lists (record { high = z; low = a.low })) e ∙ ap (λ z. the_lists (record { high = b.high; low = z })) f

pub one_lists : HasOne → (names : List (List ℕ)) (lines : List (List Token)) (a b : Lists) → IsLists names lines a → IsLists names lines b → a ≡ b
one_lists one names lines a b h k = same_lists a b
    (in-turn-one SaysHigh (one_high one) (rows (length names) lines) a.high b.high h.high k.high)
    (in-turn-one SaysLow (one_low one) (rows (length names) lines) a.low b.low h.low k.low)
