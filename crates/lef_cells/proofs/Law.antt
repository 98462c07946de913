-- The laws that the format owes.
use Rattle.std.proofs.Common.{◌≡◌, ℕ, ◌+◌, Bool, true, List, [], ◌∷◌, length, codes, refl, sym, ◌∙◌, ap, inr}
use Rattle.lef_cells.specs.declared.error.CellsKind.{CellsKind}
use Rattle.lef_cells.specs.declared.section.Section.{Section}
use Rattle.lef_cells.specs.declared.section.Section.TheVariants as places
use Rattle.lef_cells.specs.declared.sort.Sort.{Sort}
use Rattle.lef_cells.specs.declared.sort.Sort.TheVariants.{Site, Macro, End, Size, TextEnd}
use Rattle.lef_cells.specs.Sort.{all_sorts, sort_of, sort_with, number_of, listed}
use Rattle.lef_cells.specs.Section.{section_of, standing_of}
use Rattle.lef_cells.specs.Rule.{pattern}
use Rattle.lef_cells.specs.Fault.{SecondFault, fault}
use Rattle.lef_cells.specs.Format.{format}
use Rattle.lef_cells.proofs.Numbers.{HasOne, length_one}
use Rattle.reading.specs.declared.refusal.Found.{Found}
use Rattle.reading.specs.declared.word.Form.{Form}
use Rattle.reading.specs.declared.word.Form.TheVariants.{Bare, Quoted as QuotedForm, End as EndForm}
use Rattle.reading.specs.Grammar.{IsUnit, IsRegular}
use Rattle.reading.specs.Laws.{immediate, sampled}
use Rattle.reading.specs.Word.{Token}

abbrev word : List ℕ → Form → Token
word text form = record { text = text; place = record { line = 1; word = 1 }; form = form }

abbrev samples : List Token
samples =
    word (codes "SITE") Bare ∷ word (codes "MACRO") Bare ∷ word (codes "LAYER") Bare ∷ word (codes "UNITS") Bare ∷
    word (codes "BEGINEXT") Bare ∷ word (codes "END") Bare ∷ word (codes "LIBRARY") Bare ∷ word (codes "SIZE") Bare ∷
    word (codes "BY") Bare ∷ word (codes "CLASS") Bare ∷ word (codes "PIN") Bare ∷ word (codes "OBS") Bare ∷
    word (codes ";") Bare ∷ word (codes "(") Bare ∷ word [] QuotedForm ∷ word [] Bare ∷ word [] EndForm ∷ []

sample : (sort : Sort) → (w : Token) × (sort_of w ≡ sort)
sample sort = sampled sort_of samples all_sorts (number_of sort) sort refl (listed sort)

usable : Section → Sort → Bool
usable section sort = true

units_end : (section : Section) → IsUnit all_sorts (usable section) TextEnd (pattern section)
unfolding usable
units_end = elim [ places.Top ↦ record { solid = inr refl; closes = refl; comes_last = refl } | _ ↦ record { solid = inr refl; closes = refl; comes_last = refl } ]

last : (units : List (List Token)) (part : List Token) (a : Found CellsKind) → fault units part a → a.at + 1 ≡ length part
last units (first ∷ second ∷ []) a h = ap (λ z. z + 1) h.0
last units (size ∷ width ∷ by ∷ height ∷ []) a h = ap (λ z. z + 1) h.0
last units part a h = absurd h

second_one : HasOne → (first : Sort) (section : Section) (units : List (List Token)) (text : List ℕ) (k l : CellsKind) →
    SecondFault first section units text k → SecondFault first section units text l → l ≡ k
second_one one Site places.Top units text k l h i = i.0 ∙ sym h.0
second_one one Macro places.Top units text k l h i = i.0 ∙ sym h.0
second_one one End places.SizedSite units text k l h i = i.0 ∙ sym h.0
second_one one End places.SizedMacro units text k l h i = i.0 ∙ sym h.0
second_one one Size section units text k l h i = length_one one text k l h i
second_one one first section units text k l h i = absurd h

one : HasOne → (units : List (List Token)) (part : List Token) (a b : Found CellsKind) →
    fault units part a → fault units part b → b.kind ≡ a.kind
one n units (first ∷ second ∷ []) a b h i =
    second_one n (sort_of first) (standing_of units).section units second.text a.kind b.kind h.1 i.1
one n units (size ∷ width ∷ by ∷ height ∷ []) a b h i = length_one n height.text a.kind b.kind h.1 i.1
one n units part a b h i = absurd h

pub regular : HasOne → IsRegular all_sorts pattern format
regular n = record {
  usable = usable;
  place = section_of;
  follow = λ units. refl;
  samples = λ units sort h. sample sort;
  end = TextEnd;
  ends = λ units w e. ap (λ z. sort_with z w.text) e;
  begun = refl;
  units = units_end;
  orderly = immediate format (record { last = last; one = one n });
}
