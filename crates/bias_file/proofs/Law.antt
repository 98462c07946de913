-- The laws that the format owes.
use Rattle.std.proofs.Common.{◌≡◌, ℕ, ◌+◌, Bool, true, List, [], ◌∷◌, length, codes, refl, sym, ◌∙◌, ap, inl, inr}
use Rattle.bias_file.specs.declared.error.BiasKind.{BiasKind}
use Rattle.bias_file.specs.declared.section.Section.{Section}
use Rattle.bias_file.specs.declared.section.Section.TheVariants.{LineStart, Remark, Nothing}
use Rattle.bias_file.specs.declared.sort.Sort.{Sort}
use Rattle.bias_file.specs.declared.sort.Sort.TheVariants.{Supply, DropLimit, Pad, Cell, Instance, Mark, Comment, Other, LineEnd, TextEnd}
use Rattle.bias_file.specs.Sort.{all_sorts, sort_of, sort_with}
use Rattle.bias_file.specs.Section.{section_of}
use Rattle.bias_file.specs.Rule.{pattern}
use Rattle.bias_file.specs.Fault.{fault}
use Rattle.bias_file.specs.Format.{format}
use Rattle.bias_file.proofs.Numbers.{HasOne, value_one, fourth_one, fifth_one}
use Rattle.reading.specs.declared.refusal.Found.{Found}
use Rattle.reading.specs.declared.word.Form.{Form}
use Rattle.reading.specs.declared.word.Form.TheVariants.{Bare, Break, End}
use Rattle.reading.specs.Grammar.{IsUnit, IsRegular}
use Rattle.reading.specs.Laws.{immediate}
use Rattle.reading.specs.Word.{Token}

word : List ℕ → Form → Token
word text form = record { text = text; place = record { line = 1; word = 1 }; form = form }

sample : (sort : Sort) → (w : Token) × (sort_of w ≡ sort)
unfolding word
sample Supply = (word (codes "supply") Bare, refl)
sample DropLimit = (word (codes "droplimit") Bare, refl)
sample Pad = (word (codes "pad") Bare, refl)
sample Cell = (word (codes "cell") Bare, refl)
sample Instance = (word (codes "instance") Bare, refl)
sample Mark = (word (codes ";") Bare, refl)
sample Comment = (word (codes "#") Bare, refl)
sample Other = (word [] Bare, refl)
sample LineEnd = (word [] Break, refl)
sample TextEnd = (word [] End, refl)

usable : Section → Sort → Bool
usable section sort = true

units_end : (section : Section) → IsUnit all_sorts (usable section) TextEnd (pattern section)
unfolding usable
units_end LineStart = record { solid = inr refl; closes = refl; comes_last = refl }
units_end Remark = record { solid = inr refl; closes = refl; comes_last = refl }
units_end Nothing = record { solid = inl refl; closes = refl; comes_last = refl }

last : (units : List (List Token)) (part : List Token) (a : Found BiasKind) → fault units part a → a.at + 1 ≡ length part
last units (first ∷ name ∷ []) a h = ap (λ z. z + 1) h.0
last units (first ∷ name ∷ value ∷ []) a h = ap (λ z. z + 1) h.0
last units (first ∷ name ∷ third ∷ fourth ∷ []) a h = ap (λ z. z + 1) h.0
last units (first ∷ net ∷ layer ∷ x ∷ y ∷ []) a h = ap (λ z. z + 1) h.0
last units part a h = absurd h

one : HasOne → (units : List (List Token)) (part : List Token) (a b : Found BiasKind) → fault units part a → fault units part b → b.kind ≡ a.kind
one n units (first ∷ name ∷ []) a b h i = i.1.0 ∙ sym h.1.0
one n units (first ∷ name ∷ value ∷ []) a b h i = value_one n (sort_of first) value.text a.kind b.kind h.1 i.1
one n units (first ∷ name ∷ third ∷ fourth ∷ []) a b h i = fourth_one n (sort_of first) third fourth a.kind b.kind h.1 i.1
one n units (first ∷ net ∷ layer ∷ x ∷ y ∷ []) a b h i = fifth_one n (sort_of first) y.text a.kind b.kind h.1 i.1
one n units part a b h i = absurd h

pub regular : HasOne → IsRegular all_sorts pattern format
regular n = record {
  usable = usable;
  place = section_of;
  follow = λ units. refl;
  samples = λ units sort h. sample sort;
  end = TextEnd;
  ends = λ units w e. ap (λ z. sort_with z w.text) e;
  begun = refl;
  units = units_end;
  orderly = immediate format (record { last = last; one = one n });
}
