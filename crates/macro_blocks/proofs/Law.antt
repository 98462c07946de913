-- The laws that the format owes.
use Rattle.std.proofs.Common.{◌≡◌, ℕ, ◌+◌, Bool, true, false, List, [], ◌∷◌, inl, inr, length, codes, refl, sym, ◌∙◌, ap}
use Rattle.macro_blocks.specs.declared.error.Shown.{Shown}
use Rattle.macro_blocks.specs.declared.error.Shown.TheVariants as kinds
use Rattle.macro_blocks.specs.declared.section.Section.{Section}
use Rattle.macro_blocks.specs.declared.section.Section.TheVariants as places
use Rattle.macro_blocks.specs.declared.sort.Sort.{Sort}
use Rattle.macro_blocks.specs.declared.sort.Sort.TheVariants.{Macro, NamedSection, Layer, WordSection, BeginExt, End, Library, Origin, Pin, Port, Use, Power, Ground, Rect, Obs, Density, Semicolon, Bracket, Quoted, Other, TextEnd}
use Rattle.macro_blocks.specs.declared.standing.Standing.{Standing}
use Rattle.macro_blocks.specs.Fault.{Unless, Misplaced, NoCoordinate, OtherOrigin, OriginFault, CornerBy, CornerFault, EarlierFault, UseFault, UnfitFault, is_supply, StrayFault, FirstFault, SecondFault, ThirdFault, LaterFault, StopFault, fault_in}
use Rattle.macro_blocks.specs.Format.{format, section_of}
use Rattle.macro_blocks.specs.Record.{heard_of}
use Rattle.macro_blocks.specs.Rule.{is_name, is_number, pattern}
use Rattle.macro_blocks.specs.Sort.{all_sorts, the, sort_of, sort_with, number_of, listed}
use Rattle.macro_blocks.specs.Standing.{is_known, is_own, section_in}
use Rattle.macro_blocks.proofs.Numbers.{HasOne, not_both, one_error, one_bad, none_bad}
use Rattle.lef_statements.specs.Word.{is_word}
use Rattle.reading.specs.declared.refusal.Found.{Found}
use Rattle.reading.specs.declared.word.Form.{Form}
use Rattle.reading.specs.declared.word.Form.TheVariants.{Bare, Quoted as QuotedForm, End as EndForm}
use Rattle.reading.specs.Grammar.{IsUnit, IsRegular}
use Rattle.reading.specs.Laws.{immediate, sampled}
use Rattle.reading.specs.Word.{Token}

abbrev word : List ℕ → Form → Token
word text form = record { text = text; place = record { line = 1; word = 1 }; form = form }

abbrev samples : List Token
samples =
    word (codes "MACRO") Bare ∷ word (codes "SITE") Bare ∷ word (codes "LAYER") Bare ∷ word (codes "UNITS") Bare ∷
    word (codes "BEGINEXT") Bare ∷ word (codes "END") Bare ∷ word (codes "LIBRARY") Bare ∷
    word (codes "ORIGIN") Bare ∷ word (codes "PIN") Bare ∷ word (codes "PORT") Bare ∷ word (codes "USE") Bare ∷
    word (codes "POWER") Bare ∷ word (codes "GROUND") Bare ∷ word (codes "RECT") Bare ∷ word (codes "OBS") Bare ∷
    word (codes "DENSITY") Bare ∷ word (codes ";") Bare ∷ word (codes "(") Bare ∷ word [] QuotedForm ∷ word [] Bare ∷
    word [] EndForm ∷ []

sample : (sort : Sort) → (w : Token) × (sort_of w ≡ sort)
sample sort = sampled sort_of samples all_sorts (number_of sort) sort refl (listed sort)

usable : Section → Sort → Bool
usable section this = true

units_end : (section : Section) → IsUnit all_sorts (usable section) TextEnd (pattern section)
unfolding usable
units_end = elim [ places.Top ↦ record { solid = inr refl; closes = refl; comes_last = refl } | _ ↦ record { solid = inr refl; closes = refl; comes_last = refl } ]

last : (section : Section) (standing : Standing) (numbers part : List Token) (a : Found Shown) → fault_in section standing numbers part a → a.at + 1 ≡ length part
last section standing numbers (first ∷ []) a h = ap (λ z. z + 1) h.0
last section standing numbers (first ∷ second ∷ []) a h = ap (λ z. z + 1) h.0
last section standing numbers (first ∷ x ∷ y ∷ []) a h = ap (λ z. z + 1) h.0
last section standing numbers (first ∷ x ∷ y ∷ z ∷ []) a h = ap (λ z. z + 1) h.0
last section standing numbers (first ∷ x ∷ y ∷ z ∷ w ∷ []) a h = ap (λ z. z + 1) h.0
last section standing numbers (first ∷ x ∷ y ∷ z ∷ w ∷ stop ∷ []) a h = ap (λ z. z + 1) h.0
last section standing numbers part a h = absurd h

-- ## a word shows one fault

-- There is at most one kind.
abbrev IsOne : (Shown → Type 0) → Type 0
IsOne shows = (k l : Shown) → shows k → shows l → l ≡ k

none_one : IsOne (λ kind. ⊥)
none_one k l h i = absurd h

unless_one : (fits : Bool) → IsOne (Unless fits)
unless_one true k l h i = absurd h
unless_one false k l h i = i ∙ sym h

misplaced_one : (known fits : Bool) → IsOne (Misplaced known fits)
misplaced_one false fits k l h i = absurd h
misplaced_one true fits k l h i = unless_one fits k l h i

coordinate_one : HasOne → (w : Token) → IsOne (NoCoordinate w)
coordinate_one one w k l h i = i.2 ∙ ap kinds.Number (one_error one w i.0 h.0 i.1 h.1) ∙ sym h.2

other_one : (has_origin : Bool) (w : Token) → IsOne (OtherOrigin has_origin w)
other_one true w k l h i = absurd h
other_one false w k l h i = i.3 ∙ sym h.3

not_other : HasOne → (has_origin : Bool) (w : Token) (k l : Shown) → NoCoordinate w k → OtherOrigin has_origin w l → ⊥
not_other one true w k l h i = i
not_other one false w k l h i = not_both one w i.0 h.0 i.1 h.1

origin_one : HasOne → (has_origin : Bool) (w : Token) → IsOne (OriginFault has_origin w)
origin_one one has_origin w k l (inl h) (inl i) = coordinate_one one w k l h i
origin_one one has_origin w k l (inl h) (inr i) = absurd (not_other one has_origin w k l h i)
origin_one one has_origin w k l (inr h) (inl i) = absurd (not_other one has_origin w l k i h)
origin_one one has_origin w k l (inr h) (inr i) = other_one has_origin w k l h i

corner_by : HasOne → (may : Bool) (w : Token) → IsOne (CornerBy may w)
corner_by one true w k l h i = coordinate_one one w k l h i
corner_by one false w k l h i = i ∙ sym h

corner_one : HasOne → (known : Bool) (w : Token) → IsOne (CornerFault known w)
corner_one one false w k l h i = absurd h
corner_one one true w k l h i = corner_by one (is_number (sort_of w)) w k l h i

earlier_one : HasOne → (numbers : List Token) → IsOne (EarlierFault numbers)
earlier_one one numbers k l h i = i.2 ∙ ap kinds.Earlier (one_bad one numbers i.0 h.0 i.1 h.1) ∙ sym h.2

use_one : HasOne → (supply known : Bool) (numbers : List Token) → IsOne (UseFault supply known numbers)
use_one one true false numbers k l h i = earlier_one one numbers k l h i
use_one one true true numbers k l h i = absurd h
use_one one false known numbers k l h i = absurd h

unfit_one : HasOne → (supply after : Bool) (numbers : List Token) → IsOne (UnfitFault supply after numbers)
unfit_one one true true numbers k l (inl h) (inl i) = earlier_one one numbers k l h i
unfit_one one true true numbers k l (inl h) (inr i) = absurd (none_bad one numbers h.0 i.0 h.1)
unfit_one one true true numbers k l (inr h) (inl i) = absurd (none_bad one numbers i.0 h.0 i.1)
unfit_one one true true numbers k l (inr h) (inr i) = i.1 ∙ sym h.1
unfit_one one true false numbers k l h i = absurd h
unfit_one one false after numbers k l h i = absurd h

stray_one : (known : Bool) (first : Sort) → IsOne (StrayFault known first)
stray_one known Semicolon k l h i = misplaced_one known false k l h i
stray_one known first k l h i = absurd h

first_one : HasOne → (section : Section) (standing : Standing) (numbers : List Token) (first : Sort) → IsOne (FirstFault section standing numbers first)
first_one one places.Pin standing numbers first = stray_one (is_known standing.pin) first
first_one one places.Port standing numbers first = stray_one (is_known standing.pin) first
first_one one places.Layered standing numbers first = stray_one (is_known standing.pin) first
first_one one places.Unfit standing numbers first = unfit_one one (is_supply first) (the Use standing.last) numbers
first_one one section standing numbers first = none_one

second_one : HasOne → (section : Section) (standing : Standing) (numbers : List Token) (first : Sort) (second : Token) →
    IsOne (SecondFault section standing numbers first second)
second_one one places.Macro standing numbers End second = unless_one (is_word standing.cell second)
second_one one places.Macro standing numbers Origin second = origin_one one standing.has_origin second
second_one one places.Pin standing numbers End second = misplaced_one (is_known standing.pin) (is_own standing.pin second)
second_one one places.Pin standing numbers Use second = use_one one (is_supply (sort_of second)) (is_known standing.pin) numbers
second_one one places.Port standing numbers Layer second = misplaced_one (is_known standing.pin) (is_name (sort_of second))
second_one one places.Layered standing numbers Layer second = misplaced_one (is_known standing.pin) (is_name (sort_of second))
second_one one places.Layered standing numbers Rect second = corner_one one (is_known standing.pin) second
second_one one section standing numbers first second = none_one

third_one : HasOne → (section : Section) (standing : Standing) (third : Token) → IsOne (ThirdFault section standing third)
third_one one places.Macro standing third = origin_one one standing.has_origin third
third_one one places.Layered standing third = corner_one one (is_known standing.pin) third
third_one one section standing third = none_one

later_one : HasOne → (section : Section) (standing : Standing) (later : Token) → IsOne (LaterFault section standing later)
later_one one places.Layered standing later = corner_one one (is_known standing.pin) later
later_one one section standing later = none_one

stop_one : (section : Section) (standing : Standing) (stop : Token) → IsOne (StopFault section standing stop)
stop_one places.Layered standing stop = misplaced_one (is_known standing.pin) (the Semicolon (sort_of stop))
stop_one section standing stop = none_one

one_fault : HasOne → (section : Section) (standing : Standing) (numbers part : List Token) (a b : Found Shown) →
    fault_in section standing numbers part a → fault_in section standing numbers part b → b.kind ≡ a.kind
one_fault n section standing numbers (first ∷ []) a b h i = first_one n section standing numbers (sort_of first) a.kind b.kind h.1 i.1
one_fault n section standing numbers (first ∷ second ∷ []) a b h i =
    second_one n section standing numbers (sort_of first) second a.kind b.kind h.1 i.1
one_fault n section standing numbers (first ∷ x ∷ y ∷ []) a b h i = third_one n section standing y a.kind b.kind h.1 i.1
one_fault n section standing numbers (first ∷ x ∷ y ∷ z ∷ []) a b h i = later_one n section standing z a.kind b.kind h.1 i.1
one_fault n section standing numbers (first ∷ x ∷ y ∷ z ∷ w ∷ []) a b h i = later_one n section standing w a.kind b.kind h.1 i.1
one_fault n section standing numbers (first ∷ x ∷ y ∷ z ∷ w ∷ stop ∷ []) a b h i = stop_one section standing stop a.kind b.kind h.1 i.1
one_fault n section standing numbers part a b h i = absurd h

pub regular : HasOne → IsRegular all_sorts pattern format
regular n = record {
  usable = usable;
  place = section_of;
  follow = λ units. refl;
  samples = λ units sort h. sample sort;
  end = TextEnd;
  ends = λ units w e. ap (λ z. sort_with z w.text) e;
  begun = refl;
  units = units_end;
  orderly = immediate format (record {
    last = λ units part a h. let heard = heard_of units in last (section_in heard.standing) heard.standing heard.said.numbers part a h;
    one = λ units part a b h i. let heard = heard_of units in
        one_fault n (section_in heard.standing) heard.standing heard.said.numbers part a b h i;
  });
}
