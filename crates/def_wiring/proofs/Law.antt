-- The laws that the format owes.
use Rattle.std.proofs.Common.{◌≡◌, ◌⊎◌, ℕ, ◌+◌, Bool, true, false, List, [], ◌∷◌, Option, Some, None, inl, inr, length, codes, refl, sym, ◌∙◌, ap}
use Rattle.outside.specs.declared.place.Place.{Place}
use Rattle.def_wiring.specs.declared.act.Act.{Act}
use Rattle.def_wiring.specs.declared.act.Act.TheVariants as acts
use Rattle.def_wiring.specs.declared.error.Late.{Late}
use Rattle.def_wiring.specs.declared.error.Shown.{Shown}
use Rattle.def_wiring.specs.declared.error.Shown.TheVariants.{Here, Earlier}
use Rattle.def_wiring.specs.declared.error.WiresKind.{WiresKind}
use Rattle.def_wiring.specs.declared.number.Quantity.TheVariants as quantities
use Rattle.def_wiring.specs.declared.path.Path.{Path}
use Rattle.def_wiring.specs.declared.path.Point.{Point}
use Rattle.def_wiring.specs.declared.section.Section.{Section}
use Rattle.def_wiring.specs.declared.section.Section.TheVariants as places
use Rattle.def_wiring.specs.declared.sort.Sort.{Sort}
use Rattle.def_wiring.specs.declared.sort.Sort.TheVariants.{Semicolon, Open, Close, Plus, Minus, Star, North, Turn, Do, End, Design, Vias, SpecialNets, PassedSection, BeginExt, ViaRule, CutSize, Layers, CutSpacing, Enclosure, RowCol, Unread, Use, Power, Ground, Routed, New, ShapeWord, Ring, FollowPin, Unwired, Via, Quoted, Other, TextEnd}
use Rattle.def_wiring.specs.declared.standing.Standing.{Standing}
use Rattle.def_wiring.specs.Fault.{CoordinateFault, SlantFault, UnknownFault, WordFault, AskedFault, IsFirstLate, shown_as, LateFault, AtWord, ViaEndFault, ViaPartFault, ViaFault, NetFault, FirstFault, TwiceFault, CountFault, SecondFault, fault_in}
use Rattle.def_wiring.specs.Format.{format, section_of}
use Rattle.def_wiring.specs.Path.{last_y, coordinate}
use Rattle.def_wiring.specs.Record.{Asked, Said, known_vias, heard_of}
use Rattle.def_wiring.specs.Rule.{pattern}
use Rattle.def_wiring.specs.Sort.{all_sorts, sort_of, sort_with, number_of, listed}
use Rattle.def_wiring.specs.Standing.{act_in, section_in, told}
use Rattle.def_wiring.proofs.Late.{none_late}
use Rattle.def_wiring.proofs.Numbers.{HasOne, number_one, not_both}
use Rattle.reading.specs.declared.refusal.Found.{Found}
use Rattle.reading.specs.declared.word.Form.{Form}
use Rattle.reading.specs.declared.word.Form.TheVariants.{Bare, Quoted as QuotedForm, End as EndForm}
use Rattle.reading.specs.Grammar.{IsUnit, IsRegular}
use Rattle.reading.specs.Laws.{immediate, sampled}
use Rattle.reading.specs.Word.{Token}

abbrev word : List ℕ → Form → Token
word text form = record { text = text; place = record { line = 1; word = 1 }; form = form }

abbrev samples : List Token
samples =
    word (codes ";") Bare ∷ word (codes "(") Bare ∷ word (codes ")") Bare ∷ word (codes "+") Bare ∷
    word (codes "-") Bare ∷ word (codes "*") Bare ∷ word (codes "N") Bare ∷ word (codes "S") Bare ∷
    word (codes "DO") Bare ∷ word (codes "END") Bare ∷ word (codes "DESIGN") Bare ∷ word (codes "VIAS") Bare ∷
    word (codes "SPECIALNETS") Bare ∷ word (codes "PROPERTYDEFINITIONS") Bare ∷ word (codes "BEGINEXT") Bare ∷
    word (codes "VIARULE") Bare ∷ word (codes "CUTSIZE") Bare ∷ word (codes "LAYERS") Bare ∷
    word (codes "CUTSPACING") Bare ∷ word (codes "ENCLOSURE") Bare ∷ word (codes "ROWCOL") Bare ∷
    word (codes "ORIGIN") Bare ∷ word (codes "USE") Bare ∷ word (codes "POWER") Bare ∷ word (codes "GROUND") Bare ∷
    word (codes "ROUTED") Bare ∷ word (codes "NEW") Bare ∷ word (codes "SHAPE") Bare ∷ word (codes "RING") Bare ∷
    word (codes "FOLLOWPIN") Bare ∷ word (codes "RECT") Bare ∷ word (codes "VIA") Bare ∷ word [] QuotedForm ∷
    word [] Bare ∷ word [] EndForm ∷ []

sample : (sort : Sort) → (w : Token) × (sort_of w ≡ sort)
sample sort = sampled sort_of samples all_sorts (number_of sort) sort refl (listed sort)

usable : Section → Sort → Bool
usable section this = true

units_end : (section : Section) → IsUnit all_sorts (usable section) TextEnd (pattern section)
unfolding usable
units_end = elim [ places.Top ↦ record { solid = inr refl; closes = refl; comes_last = refl } | _ ↦ record { solid = inr refl; closes = refl; comes_last = refl } ]

last : (section : Section) (standing : Standing) (said : Said) (part : List Token) (a : Found Shown) → fault_in section standing said part a → a.at + 1 ≡ length part
last section standing said (first ∷ []) a h = ap (λ z. z + 1) h.0
last section standing said (first ∷ second ∷ []) a h = ap (λ z. z + 1) h.0
last section standing said part a h = absurd h

-- ## a word shows one fault

-- There is at most one kind.
abbrev IsOne : {K : Type 0} → (K → Type 0) → Type 0
IsOne {K} shows = (k l : K) → shows k → shows l → l ≡ k

none_one : {K : Type 0} → IsOne {K = K} (λ kind. ⊥)
none_one k l h i = absurd h

coordinate_one : HasOne → (last : Option Point) (sort : Sort) (text : List ℕ) → IsOne (CoordinateFault last sort text)
coordinate_one one None Star text k l h i = i ∙ sym h
coordinate_one one (Some point) Star text k l h i = absurd h
coordinate_one one last sort text k l h i = number_one one quantities.Any text k l h i

slant_one : (last : Option Point) (x y : List ℕ) → IsOne (SlantFault last x y)
slant_one None x y k l h i = absurd h
slant_one (Some point) x y k l h i = i.2 ∙ sym h.2

not_slant : HasOne → (last : Option Point) (sort : Sort) (x text : List ℕ) (k l : WiresKind) → CoordinateFault last sort text k →
    SlantFault last x (coordinate sort (last_y last) text) l → ⊥
not_slant one None sort x text k l h i = i
not_slant one (Some point) Star x text k l h i = h
not_slant one (Some point) sort x text k l h i = not_both one quantities.Any text k i.1.1 h i.1.3

second_one : HasOne → (path : Path) (sort : Sort) (text : List ℕ) → IsOne (λ kind. CoordinateFault path.last sort text kind
    ⊎ SlantFault path.last path.x (coordinate sort (last_y path.last) text) kind)
second_one one path sort text k l (inl h) (inl i) = coordinate_one one path.last sort text k l h i
second_one one path sort text k l (inl h) (inr i) = absurd (not_slant one path.last sort path.x text k l h i)
second_one one path sort text k l (inr h) (inl i) = absurd (not_slant one path.last sort path.x text l k i h)
second_one one path sort text k l (inr h) (inr i) = slant_one path.last path.x (coordinate sort (last_y path.last) text) k l h i

word_one : HasOne → (vias : List (List ℕ)) (act : Act) (path : Path) (w : Token) → IsOne (WordFault vias act path w)
word_one one vias acts.Misplaced path w k l h i = i ∙ sym h
word_one one vias acts.Breaks path w k l h i = i ∙ sym h
word_one one vias acts.NoWire path w k l h i = i ∙ sym h
word_one one vias acts.NoVia path w k l h i = i ∙ sym h
word_one one vias acts.Number path w k l h i = number_one one quantities.Any w.text k l h i
word_one one vias acts.Width path w k l h i = number_one one quantities.NotNegative w.text k l h i
word_one one vias acts.Reach path w k l h i = number_one one quantities.NotNegative w.text k l h i
word_one one vias acts.X path w k l h i = coordinate_one one path.last (sort_of w) w.text k l h i
word_one one vias acts.Y path w k l h i = second_one one path (sort_of w) w.text k l h i
word_one one vias acts.Place path w k l h i = i.1 ∙ sym h.1
word_one one vias act path w k l h i = absurd h

asked_one : HasOne → (vias : List (List ℕ)) (asked : Asked) → IsOne (AskedFault vias asked)
asked_one one vias asked = word_one one vias asked.act asked.path asked.word

-- ## words before

abbrev the_late : Place → WiresKind → Late
the_late place kind = record { place = place; kind = kind }

same_late : (a b : Late) → b.place ≡ a.place → b.kind ≡ a.kind → b ≡ a
same_late a b e f = ap (λ z. the_late z b.kind) e ∙ ap (λ z. the_late a.place z) f

first_late_one : HasOne → (vias : List (List ℕ)) (asked : List Asked) → IsOne (IsFirstLate vias asked)
first_late_one one vias [] a b h i = absurd h
first_late_one one vias (w ∷ ws) a b (inl h) (inl i) = same_late a b (i.1 ∙ sym h.1) (asked_one one vias w a.kind b.kind h.0 i.0)
first_late_one one vias (w ∷ ws) a b (inl h) (inr i) = absurd (i.0 a.kind h.0)
first_late_one one vias (w ∷ ws) a b (inr h) (inl i) = absurd (h.0 b.kind i.0)
first_late_one one vias (w ∷ ws) a b (inr h) (inr i) = first_late_one one vias ws a b h.1 i.1

late_one : HasOne → (vias : List (List ℕ)) (asked : List Asked) → IsOne (LateFault vias asked)
late_one one vias asked k l h i =
    i.2 ∙ ap (λ (z : Late). shown_as z.kind z) (first_late_one one vias asked h.0 i.0 h.1 i.1) ∙ sym h.2

via_end_one : HasOne → (vias : List (List ℕ)) (asked : List Asked) (words : List Token) → IsOne (ViaEndFault vias asked words)
via_end_one one vias asked words k l (inl h) (inl i) = late_one one vias asked k l h i
via_end_one one vias asked words k l (inl h) (inr i) = absurd (none_late vias asked h.0 i.0 h.1)
via_end_one one vias asked words k l (inr h) (inl i) = absurd (none_late vias asked i.0 h.0 i.1)
via_end_one one vias asked words k l (inr h) (inr i) = i.2 ∙ sym h.2

via_part_one : HasOne → (vias : List (List ℕ)) (asked : List Asked) (words : List Token) → IsOne (ViaPartFault vias asked words)
via_part_one one vias asked words k l (inl h) (inl i) = via_end_one one vias asked words k l h i
via_part_one one vias asked words k l (inl (inl h)) (inr i) = absurd (none_late vias asked h.0 i.0 h.1)
via_part_one one vias asked words k l (inl (inr h)) (inr i) = absurd (h.1 i.1)
via_part_one one vias asked words k l (inr h) (inl (inl i)) = absurd (none_late vias asked i.0 h.0 i.1)
via_part_one one vias asked words k l (inr h) (inl (inr i)) = absurd (i.1 h.1)
via_part_one one vias asked words k l (inr h) (inr i) = i.2 ∙ sym h.2

at_word_one : (shows : WiresKind → Type 0) → IsOne shows → IsOne (AtWord shows)
at_word_one shows one (Here k) (Here l) h i = ap Here (one k l h i)
at_word_one shows one (Earlier k) l h i = absurd h
at_word_one shows one (Here k) (Earlier l) h i = absurd i

-- ## units

via_one : HasOne → (act : Act) (vias : List (List ℕ)) (asked : List Asked) (words : List Token) → IsOne (ViaFault act vias asked words)
via_one one acts.EndsVia vias asked words = via_end_one one vias asked words
via_one one acts.NoVia vias asked words = via_part_one one vias asked words
via_one one act vias asked words = none_one

net_one : HasOne → (power tells : Option Bool) (vias : List (List ℕ)) (before : List Asked) (asked : Asked) → IsOne (NetFault power tells vias before asked)
net_one one (Some power) tells vias before asked = at_word_one (AskedFault vias asked) (asked_one one vias asked)
net_one one None (Some power) vias before asked = late_one one vias before
net_one one None None vias before asked = none_one

first_one : HasOne → (section : Section) (standing : Standing) (said : Said) (w : Token) → IsOne (FirstFault section standing said w)
first_one one places.Via standing said w =
    via_one one (act_in places.Via standing (sort_of w)) (known_vias said) said.asked standing.entry
first_one one places.Net standing said w =
    net_one one standing.power (told standing.cue (sort_of w)) (known_vias said) said.asked
    (record { act = act_in places.Net standing (sort_of w); path = standing.path; word = w })
first_one one section standing said w = none_one

twice_one : (names : List (List ℕ)) (first : Sort) (name : Token) → IsOne (TwiceFault names first name)
twice_one names Minus name k l h i = i.1 ∙ sym h.1
twice_one names first name k l h i = absurd h

count_one : HasOne → (first : Sort) (count : Token) → IsOne (CountFault first count)
count_one one Vias count k l h i = number_one one quantities.NotNegative count.text k l h i
count_one one SpecialNets count k l h i = number_one one quantities.NotNegative count.text k l h i
count_one one first count k l h i = absurd h

second_kind_one : HasOne → (section : Section) (said : Said) (first : Sort) (second : Token) → IsOne (SecondFault section said first second)
second_kind_one one places.Top said first second = count_one one first second
second_kind_one one places.Vias said first second = twice_one said.via_names first second
second_kind_one one places.Nets said first second = twice_one said.net_names first second
second_kind_one one section said first second = none_one

one_fault : HasOne → (section : Section) (standing : Standing) (said : Said) (part : List Token) (a b : Found Shown) →
    fault_in section standing said part a → fault_in section standing said part b → b.kind ≡ a.kind
one_fault n section standing said (first ∷ []) a b h i = first_one n section standing said first a.kind b.kind h.1 i.1
one_fault n section standing said (first ∷ second ∷ []) a b h i =
    at_word_one (SecondFault section said (sort_of first) second) (second_kind_one n section said (sort_of first) second) a.kind b.kind h.1 i.1
one_fault n section standing said part a b h i = absurd h

pub regular : HasOne → IsRegular all_sorts pattern format
regular n = record {
  usable = usable;
  place = section_of;
  follow = λ units. refl;
  samples = λ units sort h. sample sort;
  end = TextEnd;
  ends = λ units w e. ap (λ z. sort_with z w.text) e;
  begun = refl;
  units = units_end;
  orderly = immediate format (record {
    last = λ units part a h. let heard = heard_of units in last (section_in heard.standing) heard.standing heard.said part a h;
    one = λ units part a b h i. let heard = heard_of units in
        one_fault n (section_in heard.standing) heard.standing heard.said part a b h i;
  });
}
