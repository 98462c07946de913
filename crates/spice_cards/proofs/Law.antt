-- The laws that the format owes.
use Rattle.std.proofs.Common.{◌≡◌, ℕ, Bool, true, List, [], codes, refl, ap, inr}
use Rattle.spice_cards.specs.declared.section.Section.{Section}
use Rattle.spice_cards.specs.declared.section.Section.TheVariants.{Cards, Passing, Ended}
use Rattle.spice_cards.specs.declared.sort.Sort.{Sort}
use Rattle.spice_cards.specs.declared.sort.Sort.TheVariants.{Resistor, Source, Load, Capacitor, Dc, Mark, Dot, End, Other, CardEnd, Range, Stray, TextEnd}
use Rattle.spice_cards.specs.Sort.{all_sorts, sort_of, sort_with}
use Rattle.spice_cards.specs.Section.{section_of}
use Rattle.spice_cards.specs.Rule.{pattern}
use Rattle.spice_cards.specs.Format.{format}
use Rattle.spice_cards.proofs.Faults.{HasOne, last, one_kind}
use Rattle.reading.specs.declared.word.Form.{Form}
use Rattle.reading.specs.declared.word.Form.TheVariants as forms
use Rattle.reading.specs.Grammar.{IsUnit, IsRegular}
use Rattle.reading.specs.Laws.{immediate}
use Rattle.reading.specs.Word.{Token}

word : List ℕ → Form → Token
word text form = record { text = text; place = record { line = 1; word = 1 }; form = form }

sample : (sort : Sort) → (w : Token) × (sort_of w ≡ sort)
unfolding word
sample Resistor = (word (codes "R") forms.Bare, refl)
sample Source = (word (codes "V") forms.Bare, refl)
sample Load = (word (codes "I") forms.Bare, refl)
sample Capacitor = (word (codes "C") forms.Bare, refl)
sample Dc = (word (codes "DC") forms.Bare, refl)
sample Mark = (word (codes ";") forms.Bare, refl)
sample Dot = (word (codes ".op") forms.Bare, refl)
sample End = (word (codes ".end") forms.Bare, refl)
sample Other = (word [] forms.Bare, refl)
sample CardEnd = (word [] forms.Break, refl)
sample Range = (word (codes "*range") forms.Break, refl)
sample Stray = (word (codes "+") forms.Break, refl)
sample TextEnd = (word [] forms.End, refl)

usable : Section → Sort → Bool
usable section sort = true

units_end : (section : Section) → IsUnit all_sorts (usable section) TextEnd (pattern section)
unfolding usable
units_end Cards = record { solid = inr refl; closes = refl; comes_last = refl }
units_end Passing = record { solid = inr refl; closes = refl; comes_last = refl }
units_end Ended = record { solid = inr refl; closes = refl; comes_last = refl }

pub regular : HasOne → IsRegular all_sorts pattern format
regular n = record {
  usable = usable;
  place = section_of;
  follow = λ units. refl;
  samples = λ units sort h. sample sort;
  end = TextEnd;
  ends = λ units w e. ap (λ z. sort_with z w.text) e;
  begun = refl;
  units = units_end;
  orderly = immediate format (record { last = last; one = one_kind n });
}
