-- The laws that the format owes.
use Rattle.std.proofs.Common.{◌≡◌, ℕ, ◌+◌, Bool, true, List, [], ◌∷◌, length, codes, Option, Some, None, refl, sym, ◌∙◌, ap, inr, arith}
use Rattle.def_design.specs.declared.error.DefKind.{DefKind}
use Rattle.def_design.specs.declared.error.Item.{Item}
use Rattle.def_design.specs.declared.question.Question.{Question}
use Rattle.def_design.specs.declared.question.Question.TheVariants as questions
use Rattle.def_design.specs.Fault.{DieEndFault, MissingFault, missing_of, LastFault, fault}
use Rattle.def_design.specs.Format.{format}
use Rattle.def_design.specs.Question.{question_of}
use Rattle.def_design.proofs.Numbers.{HasOne, number_one, apart_one, count_one}
use Rattle.def_statements.specs.declared.section.Section.{Section}
use Rattle.def_statements.specs.declared.section.Section.TheVariants as places
use Rattle.def_statements.specs.declared.sort.Sort.{Sort}
use Rattle.def_statements.specs.declared.sort.Sort.TheVariants as sorts
use Rattle.def_statements.specs.Pattern.{pattern}
use Rattle.def_statements.specs.Sort.{all_sorts, sort_of, sort_with, number_of, listed}
use Rattle.def_statements.specs.Standing.{section_of}
use Rattle.def_statements.specs.Unit.{last_text, last_sort}
use Rattle.reading.specs.declared.refusal.Found.{Found}
use Rattle.reading.specs.declared.word.Form.{Form}
use Rattle.reading.specs.declared.word.Form.TheVariants.{Bare, Quoted as QuotedForm, End as EndForm}
use Rattle.reading.specs.Grammar.{IsUnit, IsRegular}
use Rattle.reading.specs.Laws.{immediate, sampled}
use Rattle.reading.specs.Word.{Token}

abbrev word : List ℕ → Form → Token
word text form = record { text = text; place = record { line = 1; word = 1 }; form = form }

abbrev samples : List Token
samples =
    word (codes ";") Bare ∷ word (codes "(") Bare ∷ word (codes ")") Bare ∷ word (codes "+") Bare ∷
    word (codes "-") Bare ∷ word (codes "N") Bare ∷ word (codes "FS") Bare ∷ word (codes "S") Bare ∷
    word (codes "FN") Bare ∷ word (codes "W") Bare ∷ word (codes "E") Bare ∷ word (codes "FW") Bare ∷
    word (codes "FE") Bare ∷ word (codes "PLACED") Bare ∷ word (codes "FIXED") Bare ∷ word (codes "END") Bare ∷
    word (codes "DESIGN") Bare ∷ word (codes "UNITS") Bare ∷ word (codes "DISTANCE") Bare ∷
    word (codes "MICRONS") Bare ∷ word (codes "DIEAREA") Bare ∷ word (codes "ROW") Bare ∷ word (codes "DO") Bare ∷
    word (codes "BY") Bare ∷ word (codes "STEP") Bare ∷ word (codes "COMPONENTS") Bare ∷
    word (codes "BLOCKAGES") Bare ∷ word (codes "REGIONS") Bare ∷ word (codes "SPECIALNETS") Bare ∷
    word (codes "VIAS") Bare ∷ word (codes "FILLS") Bare ∷ word (codes "BEGINEXT") Bare ∷ word (codes "LAYER") Bare ∷
    word (codes "PLACEMENT") Bare ∷ word (codes "SPACING") Bare ∷ word (codes "PUSHDOWN") Bare ∷
    word (codes "COMPONENT") Bare ∷ word (codes "DESIGNRULEWIDTH") Bare ∷ word (codes "EXCEPTPGNET") Bare ∷
    word (codes "RECT") Bare ∷ word (codes "POLYGON") Bare ∷ word (codes "ROUTED") Bare ∷ word [] QuotedForm ∷
    word [] Bare ∷ word [] EndForm ∷ []

sample : (sort : Sort) → (w : Token) × (sort_of w ≡ sort)
sample sort = sampled sort_of samples all_sorts (number_of sort) sort refl (listed sort)

usable : Section → Sort → Bool
usable section sort = true

units_end : (section : Section) → IsUnit all_sorts (usable section) sorts.TextEnd (pattern section)
unfolding usable
units_end = elim [ places.Top ↦ record { solid = inr refl; closes = refl; comes_last = refl } | _ ↦ record { solid = inr refl; closes = refl; comes_last = refl } ]

-- ## faults stand at the last word, one at most

last : (wiring : Bool) (units : List (List Token)) (part : List Token) (a : Found DefKind) → fault wiring units part a → a.at + 1 ≡ length part
last wiring units [] a h = absurd h
last wiring units (first ∷ words) a h = omega (arith, h.0)

die_end_one : (unit : List Token) (sort : Sort) (k l : DefKind) → DieEndFault unit sort k → DieEndFault unit sort l → l ≡ k
die_end_one unit sorts.Open k l h i = i ∙ sym h
die_end_one unit sort k l h i = i.0 ∙ sym h.0

missing_one : (item : Option Item) (k l : DefKind) → MissingFault item k → MissingFault item l → l ≡ k
missing_one None k l h i = absurd h
missing_one (Some item) k l h i = i ∙ sym h

last_one : HasOne → (wiring : Bool) (units : List (List Token)) (unit : List Token) (asked : Question) (k l : DefKind) →
    LastFault wiring units unit asked k → LastFault wiring units unit asked l → l ≡ k
last_one n wiring units unit questions.Nothing k l h i = absurd h
last_one n wiring units unit (questions.Number quantity) k l h i = number_one n quantity (last_text unit) k l h i
last_one n wiring units unit questions.Apart k l h i = apart_one n _ (last_text unit) k l h i
last_one n wiring units unit questions.FirstDesign k l h i = i.0 ∙ sym h.0
last_one n wiring units unit questions.FirstUnits k l h i = i.0 ∙ sym h.0
last_one n wiring units unit questions.FirstDie k l h i = i.0 ∙ sym h.0
last_one n wiring units unit questions.DieEnd k l h i = die_end_one unit (last_sort unit) k l h i
last_one n wiring units unit questions.RowTurn k l h i = i.0 ∙ sym h.0
last_one n wiring units unit questions.OneRow k l h i = count_one n (last_text unit) k l h i
last_one n wiring units unit questions.NewComponent k l h i = i.0 ∙ sym h.0
last_one n wiring units unit questions.NewRegion k l h i = i.0 ∙ sym h.0
last_one n wiring units unit questions.NoPolygon k l h i = i ∙ sym h
last_one n wiring units unit questions.NoWire k l h i = i.0 ∙ sym h.0
last_one n wiring units unit questions.AllStands k l h i = missing_one (missing_of units) k l h i

one : HasOne → (wiring : Bool) (units : List (List Token)) (part : List Token) (a b : Found DefKind) →
    fault wiring units part a → fault wiring units part b → b.kind ≡ a.kind
one n wiring units [] a b h i = absurd h
one n wiring units (first ∷ words) a b h i =
    last_one n wiring units (first ∷ words) (question_of (section_of units) (first ∷ words)) a.kind b.kind h.1 i.1

pub regular : HasOne → (wiring : Bool) → IsRegular all_sorts pattern (format wiring)
regular n wiring = record {
  usable = usable;
  place = section_of;
  follow = λ units. refl;
  samples = λ units sort h. sample sort;
  end = sorts.TextEnd;
  ends = λ units w e. ap (λ z. sort_with z w.text) e;
  begun = refl;
  units = units_end;
  orderly = immediate (format wiring) (record { last = last wiring; one = one n wiring });
}
