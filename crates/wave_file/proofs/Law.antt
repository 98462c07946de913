-- The laws that the format owes.
use Rattle.std.proofs.Common.{◌≡◌, ℕ, ◌+◌, Bool, true, List, [], ◌∷◌, length, codes, refl, sym, ◌∙◌, ap, inl, inr}
use Rattle.wave_file.specs.declared.error.WavesKind.{WavesKind}
use Rattle.wave_file.specs.declared.section.Section.{Section}
use Rattle.wave_file.specs.declared.section.Section.TheVariants.{Lines}
use Rattle.wave_file.specs.declared.sort.Sort.{Sort}
use Rattle.wave_file.specs.declared.sort.Sort.TheVariants.{At, Mark, Other, LineEnd, TextEnd}
use Rattle.wave_file.specs.Sort.{all_sorts, sort_of, sort_with}
use Rattle.wave_file.specs.Rule.{pattern}
use Rattle.wave_file.specs.Fault.{fault, StepFault, NodeFault}
use Rattle.wave_file.specs.Format.{format}
use Rattle.wave_file.proofs.Numbers.{HasOne, number_one, range_one}
use Rattle.reading.specs.declared.refusal.Found.{Found}
use Rattle.reading.specs.declared.word.Form.{Form}
use Rattle.reading.specs.declared.word.Form.TheVariants.{Bare, Break, End}
use Rattle.reading.specs.Grammar.{IsUnit, IsRegular}
use Rattle.reading.specs.Laws.{immediate}
use Rattle.reading.specs.Word.{Token}

word : List ℕ → Form → Token
word text form = record { text = text; place = record { line = 1; word = 1 }; form = form }

sample : (sort : Sort) → (w : Token) × (sort_of w ≡ sort)
unfolding word
sample At = (word (codes "at") Bare, refl)
sample Mark = (word (codes ";") Bare, refl)
sample Other = (word [] Bare, refl)
sample LineEnd = (word [] Break, refl)
sample TextEnd = (word [] End, refl)

usable : Section → Sort → Bool
usable section sort = true

units_end : (section : Section) → IsUnit all_sorts (usable section) TextEnd (pattern section)
unfolding usable
units_end Lines = record { solid = inr refl; closes = refl; comes_last = refl }

last : (names : List (List ℕ)) (units : List (List Token)) (part : List Token) (a : Found WavesKind) → fault names units part a → a.at + 1 ≡ length part
last names units (first ∷ step ∷ []) a h = ap (λ z. z + 1) h.0
last names units (first ∷ step ∷ name ∷ []) a h = ap (λ z. z + 1) h.0
last names units (first ∷ step ∷ name ∷ low ∷ []) a h = ap (λ z. z + 1) h.0
last names units (first ∷ step ∷ name ∷ low ∷ high ∷ []) a h = ap (λ z. z + 1) h.0
last names units part a h = absurd h

step_one : (units : List (List Token)) (text : List ℕ) (k l : WavesKind) → StepFault units text k → StepFault units text l → l ≡ k
step_one units text k l (inl a) (inl b) = b.0 ∙ sym a.0
step_one units text k l (inl a) (inr b) = absurd (a.1 b.1.0 b.1.1)
step_one units text k l (inr a) (inl b) = absurd (b.1 a.1.0 a.1.1)
step_one units text k l (inr a) (inr b) = b.0 ∙ sym a.0

node_one : (names : List (List ℕ)) (units : List (List Token)) (text name : List ℕ) (k l : WavesKind) → NodeFault names units text name k → NodeFault names units text name l → l ≡ k
node_one names units text name k l (inl a) (inl b) = b.0 ∙ sym a.0
node_one names units text name k l (inl a) (inr b) = absurd (a.1 b.1)
node_one names units text name k l (inr a) (inl b) = absurd (b.1 a.1)
node_one names units text name k l (inr a) (inr b) = b.0 ∙ sym a.0

one : HasOne → (names : List (List ℕ)) (units : List (List Token)) (part : List Token) (a b : Found WavesKind) → fault names units part a → fault names units part b → b.kind ≡ a.kind
one n names units (first ∷ step ∷ []) a b h i = step_one units step.text a.kind b.kind h.1 i.1
one n names units (first ∷ step ∷ name ∷ []) a b h i = node_one names units step.text name.text a.kind b.kind h.1 i.1
one n names units (first ∷ step ∷ name ∷ low ∷ []) a b h i = number_one n low.text a.kind b.kind h.1 i.1
one n names units (first ∷ step ∷ name ∷ low ∷ high ∷ []) a b h i = range_one n low high a.kind b.kind h.1 i.1
one n names units part a b h i = absurd h

pub regular : HasOne → (names : List (List ℕ)) → IsRegular all_sorts pattern (format names)
regular n names = record {
  usable = usable;
  place = λ units. Lines;
  follow = λ units. refl;
  samples = λ units sort h. sample sort;
  end = TextEnd;
  ends = λ units w e. ap (λ z. sort_with z w.text) e;
  begun = refl;
  units = units_end;
  orderly = immediate (format names) (record { last = last names; one = one n names });
}
