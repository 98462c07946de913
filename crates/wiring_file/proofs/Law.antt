-- The laws that the format owes, and that units say one wiring.
use Rattle.std.proofs.Common.{◌≡◌, ◌≢◌, ◌⊎◌, ℕ, ◌+◌, ◌-◌, Bool, true, ℤ, List, [], ◌∷◌, length, filter, codes, Option, Some, None, Ok, Err, refl, sym, ◌∙◌, ap, subst, inl, inr}
use Rattle.number_place.specs.declared.place.Refused.{Refused}
use Rattle.number_place.specs.Place.{IsNumberAt}
use Rattle.wiring_file.specs.declared.error.WiringKind.{WiringKind}
use Rattle.wiring_file.specs.declared.number.Quantity.{Quantity}
use Rattle.wiring_file.specs.declared.number.Quantity.TheVariants.{Coordinate, NotNegative, Positive}
use Rattle.wiring_file.specs.declared.section.Section.{Section}
use Rattle.wiring_file.specs.declared.section.Section.TheVariants as sections
use Rattle.wiring_file.specs.declared.sort.Sort.{Sort}
use Rattle.wiring_file.specs.declared.sort.Sort.TheVariants as sorts
use Rattle.wiring_file.specs.Fault.{Says, kind_of, IsRefusedAs, IsNumberFault, IsUnfit, LastFault, fault_at}
use Rattle.entry_list.specs.Laws.{in-turn-one}
use Rattle.wiring_file.specs.declared.record.ViaText.{ViaText}
use Rattle.wiring_file.specs.declared.record.WireText.{WireText}
use Rattle.wiring_file.specs.declared.record.PlaceText.{PlaceText}
use Rattle.wiring_file.specs.declared.record.Wiring.{Wiring}
use Rattle.wiring_file.specs.Record.{is_via, is_wire, is_stacked, SaysVia, SaysWire, SaysPlace, IsWiring}
use Rattle.wiring_file.specs.Format.{format}
use Rattle.wiring_file.specs.Number.{place_of, numbers_in, quantity_at}
use Rattle.wiring_file.specs.Rule.{pattern}
use Rattle.wiring_file.specs.Sort.{all_sorts, sort_of, sort_with, number_of as number_of_sort, listed}
use Rattle.wiring_file.specs.Standing.{Standing, standing, placed}
use Rattle.wiring_file.specs.Unit.{text_at}
use Rattle.wiring_file.proofs.Numbers.{HasOne, Answer, ok_is, err_is, not_both}
use Rattle.reading.specs.declared.refusal.Found.{Found}
use Rattle.reading.specs.declared.word.Form.{Form}
use Rattle.reading.specs.declared.word.Form.TheVariants.{Bare, Quoted, End}
use Rattle.reading.specs.Grammar.{IsUnit, IsRegular}
use Rattle.reading.specs.Laws.{immediate, sampled}
use Rattle.reading.specs.Word.{Token}

abbrev word : List ℕ → Form → Token
word text form = record { text = text; place = record { line = 1; word = 1 }; form = form }

abbrev samples : List Token
samples =
    word (codes ";") Bare ∷ word (codes "(") Bare ∷ word (codes ")") Bare ∷ word (codes "+") Bare ∷
    word (codes "-") Bare ∷ word (codes "VERSION") Bare ∷ word (codes "5.8") Bare ∷ word (codes "DIVIDERCHAR") Bare ∷
    word (codes "BUSBITCHARS") Bare ∷ word (codes "DESIGN") Bare ∷ word (codes "UNITS") Bare ∷
    word (codes "DISTANCE") Bare ∷ word (codes "MICRONS") Bare ∷ word (codes "DIEAREA") Bare ∷
    word (codes "VIAS") Bare ∷ word (codes "VIARULE") Bare ∷ word (codes "CUTSIZE") Bare ∷
    word (codes "LAYERS") Bare ∷ word (codes "CUTSPACING") Bare ∷ word (codes "ENCLOSURE") Bare ∷
    word (codes "ROWCOL") Bare ∷ word (codes "END") Bare ∷ word (codes "SPECIALNETS") Bare ∷ word (codes "USE") Bare ∷
    word (codes "POWER") Bare ∷ word (codes "ROUTED") Bare ∷ word (codes "NEW") Bare ∷ word (codes "SHAPE") Bare ∷
    word (codes "STRIPE") Bare ∷ word (codes "RING") Bare ∷ word (codes "/") Quoted ∷ word (codes "[]") Quoted ∷
    word [] Quoted ∷ word [] Bare ∷ word [] End ∷ []

sample : (sort : Sort) → (w : Token) × (sort_of w ≡ sort)
sample sort = sampled sort_of samples all_sorts (number_of_sort sort) sort refl (listed sort)

usable : Section → Sort → Bool
usable section sort = true

units_end : (section : Section) → IsUnit all_sorts (usable section) sorts.TextEnd (pattern section)
unfolding usable
units_end = elim [ sections.Version ↦ record { solid = inr refl; closes = refl; comes_last = refl } | _ ↦ record { solid = inr refl; closes = refl; comes_last = refl } ]

-- ## faults

some_is : (a b : Quantity) → ◌≡◌ {A = Option Quantity} (Some a) (Some b) → a ≡ b
some_is a b h = cc

nothing : (q : Quantity) → ◌≡◌ {A = Option Quantity} None (Some q) → ⊥
nothing q h = cc

-- A number at the last of so many words.
number_of : (X : Section) (part : List Token) (n : ℕ) (q : Quantity) → length part ≡ n → quantity_at (length part - 1) (numbers_in X) ≡ Some q → quantity_at (n - 1) (numbers_in X) ≡ Some q
number_of X part n q e h = sym (ap (λ k. quantity_at (k - 1) (numbers_in X)) e) ∙ h

-- A number that is refused is no number that fits badly.
not_also : HasOne → (X : Section) (s : Standing) (part : List Token) (kind : WiringKind) → IsNumberFault X part kind → IsUnfit X s part → ⊥
not_also one sections.Die s part kind a b = nothing a.0 (number_of sections.Die part 10 a.0 b.0 a.1)
not_also one sections.Vias s part kind a b = nothing a.0 (number_of sections.Vias part 1 a.0 b.0 a.1)
not_also one sections.Nets s part kind a b = nothing a.0 a.1
not_also one sections.Line s part kind a (inl b) =
    let is : NotNegative ≡ a.0 = some_is NotNegative a.0 (number_of sections.Line part 2 a.0 b.0 a.1) in
    let width = b.2 in
    let refused : IsRefusedAs NotNegative (text_at 1 part) kind = subst (λ q. IsRefusedAs q (text_at 1 part) kind) (sym is) (subst (λ k. IsRefusedAs a.0 (text_at (k - 1) part) kind) b.0 a.2) in
    not_both width.0 refused.0 (one (place_of NotNegative) (text_at 1 part) (Ok width.0) (Err refused.0) width.1 refused.1)
not_also one sections.Line s part kind a (inr (inl b)) = nothing a.0 (number_of sections.Line part 5 a.0 b.0 a.1)
not_also one sections.Line s part kind a (inr (inr b)) = nothing a.0 (number_of sections.Line part 10 a.0 b.0 a.1)
not_also one X s part kind a b = absurd b

one_kind : HasOne → (s : Standing) (part : List Token) (k l : WiringKind) → LastFault s part k → LastFault s part l → l ≡ k
one_kind one s part k l (inl a) (inl b) =
    let same : b.0 ≡ a.0 = some_is b.0 a.0 (sym b.1 ∙ a.1) in
    let other : IsRefusedAs a.0 (text_at (length part - 1) part) l = subst (λ q. IsRefusedAs q (text_at (length part - 1) part) l) same b.2 in
    let it = a.2 in
    other.2 ∙ ap (kind_of a.0) (err_is other.0 it.0 (one (place_of a.0) (text_at (length part - 1) part) (Err other.0) (Err it.0) other.1 it.1)) ∙ sym it.2
one_kind one s part k l (inr a) (inr b) = b.0 ∙ sym a.0
one_kind one s part k l (inl a) (inr b) = absurd (not_also one s.section s part k a b.1)
one_kind one s part k l (inr a) (inl b) = absurd (not_also one s.section s part l b a.1)

pub regular : HasOne → IsRegular all_sorts pattern format
regular one = record {
  usable = usable;
  place = λ units. (standing units).section;
  follow = λ units. refl;
  samples = λ units sort h. sample sort;
  end = sorts.TextEnd;
  ends = λ units w e. ap (λ z. sort_with z w.text) e;
  begun = refl;
  units = units_end;
  orderly = immediate format (record { last = λ units part a h. h.0; one = λ units part a b h i. one_kind one (standing units) part a.kind b.kind h.1 i.1 });
}

-- ## one wiring

says_one : HasOne → (q : Quantity) (n : ℕ) (part : List Token) (v w : ℤ) → Says q n part v → Says q n part w → v ≡ w
says_one one q n part v w h k = ok_is w v (one (place_of q) (text_at n part) (Ok v) (Ok w) h k)

one_via : HasOne → (at : Standing × List Token) (a b : ViaText) → SaysVia at a → SaysVia at b → a ≡ b
one_via one at a b h k = λ i. record {
  name = (h.name ∙ sym k.name) i;
  rule = (h.rule ∙ sym k.rule) i;
  cut_x = says_one one Positive 7 at.1 a.cut_x b.cut_x h.cut_x k.cut_x i;
  cut_y = says_one one Positive 8 at.1 a.cut_y b.cut_y h.cut_y k.cut_y i;
  lower = (h.lower ∙ sym k.lower) i;
  cut = (h.cut ∙ sym k.cut) i;
  upper = (h.upper ∙ sym k.upper) i;
  gap_x = says_one one NotNegative 16 at.1 a.gap_x b.gap_x h.gap_x k.gap_x i;
  gap_y = says_one one NotNegative 17 at.1 a.gap_y b.gap_y h.gap_y k.gap_y i;
  lower_x = says_one one NotNegative 20 at.1 a.lower_x b.lower_x h.lower_x k.lower_x i;
  lower_y = says_one one NotNegative 21 at.1 a.lower_y b.lower_y h.lower_y k.lower_y i;
  upper_x = says_one one NotNegative 22 at.1 a.upper_x b.upper_x h.upper_x k.upper_x i;
  upper_y = says_one one NotNegative 23 at.1 a.upper_y b.upper_y h.upper_y k.upper_y i;
  rows = says_one one Positive 26 at.1 a.rows b.rows h.rows k.rows i;
  columns = says_one one Positive 27 at.1 a.columns b.columns h.columns k.columns i;
}

one_wire : HasOne → (at : Standing × List Token) (a b : WireText) → SaysWire at a → SaysWire at b → a ≡ b
one_wire one at a b h k = λ i. record {
  net = (h.net ∙ sym k.net) i;
  layer = (h.layer ∙ sym k.layer) i;
  width = says_one one NotNegative 1 at.1 a.width b.width h.width k.width i;
  shape = (h.shape ∙ sym k.shape) i;
  x1 = says_one one Coordinate 6 at.1 a.x1 b.x1 h.x1 k.x1 i;
  y1 = says_one one Coordinate 7 at.1 a.y1 b.y1 h.y1 k.y1 i;
  x2 = says_one one Coordinate 10 at.1 a.x2 b.x2 h.x2 k.x2 i;
  y2 = says_one one Coordinate 11 at.1 a.y2 b.y2 h.y2 k.y2 i;
}

one_place : HasOne → (at : Standing × List Token) (a b : PlaceText) → SaysPlace at a → SaysPlace at b → a ≡ b
one_place one at a b h k = λ i. record {
  net = (h.net ∙ sym k.net) i;
  layer = (h.layer ∙ sym k.layer) i;
  x = says_one one Coordinate 6 at.1 a.x b.x h.x k.x i;
  y = says_one one Coordinate 7 at.1 a.y b.y h.y k.y i;
  via = (h.via ∙ sym k.via) i;
}

pub one_wiring : HasOne → (units : List (List Token)) (a b : Wiring) → IsWiring units a → IsWiring units b → a ≡ b
one_wiring one units a b h k = λ i. record {
  vias = in-turn-one SaysVia (one_via one) (filter is_via (placed units)) a.vias b.vias h.vias k.vias i;
  wires = in-turn-one SaysWire (one_wire one) (filter is_wire (placed units)) a.wires b.wires h.wires k.wires i;
  places = in-turn-one SaysPlace (one_place one) (filter is_stacked (placed units)) a.places b.places h.places k.places i;
}
