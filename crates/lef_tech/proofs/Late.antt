-- Faults that a later word shows.
use Rattle.std.proofs.Common.{◌≡◌, ℕ, ◌+◌, ◌<◌, ◌⊎◌, List, [], ◌∷◌, ◌++◌, length, inl, inr, refl, sym, ap, subst, arith, length-append}
use Rattle.lef_tech.specs.declared.error.TechKind.{TechKind}
use Rattle.lef_tech.specs.declared.question.Question.{Question}
use Rattle.lef_tech.specs.declared.question.Question.TheVariants.{Nothing, Used}
use Rattle.lef_tech.specs.declared.section.Section.{Section}
use Rattle.lef_tech.specs.declared.section.Section.TheVariants as sections
use Rattle.lef_tech.specs.declared.sort.Sort.{Sort}
use Rattle.lef_tech.specs.declared.sort.Sort.TheVariants as sorts
use Rattle.lef_tech.specs.declared.state.State.{State}
use Rattle.lef_tech.specs.declared.shape.Shape.TheVariants.{One, Two, Three, Four, Five, Six}
use Rattle.lef_tech.specs.Fault.{LastFault, used_found, UsedFault, Asked, fault}
use Rattle.lef_tech.specs.Format.{format}
use Rattle.lef_tech.specs.Question.{ask_head, ask_end, ask_wire_three, ask_wire_four, ask_cut_three, ask_cut_four, ask_rule_two, ask_wire_part_two, ask_wire_part_three, ask_wire_part_four, ask_cut_part_two, ask_corner, ask_cut_part_four, question_of}
use Rattle.lef_tech.specs.Sort.{sort_of}
use Rattle.lef_tech.specs.Turn.{state_of}
use Rattle.lef_tech.proofs.Numbers.{HasOne, last_one, asked_one}
use Rattle.number_place.specs.declared.place.Refused.{Refused}
use Rattle.number_place.specs.declared.place.Refused.TheVariants as refusals
use Rattle.reading.specs.declared.refusal.Found.{Found}
use Rattle.reading.specs.Reading.{IsFine}
use Rattle.reading.specs.Word.{Token}

-- ## where faults stand

found_near : (refused : Refused) (at : ℕ) → (used_found refused at).at < at + 2
found_near refusals.Syntax at = omega arith
found_near (refusals.Number error) at = omega arith

used_near : (before : Token) (at : ℕ) (asked : Question) (a : Found TechKind) → UsedFault before at asked a → a.at < at + 2
used_near before at (Used quantity) a h = subst (λ (z : Found TechKind). z.at < at + 2) (sym h.2) (found_near h.0 at)
used_near before at asked a h = absurd h

asked_near : (state : State) (before last : Token) (at : ℕ) (asked : Question) (a : Found TechKind) → Asked state before last at asked a → a.at < at + 2
asked_near state before last at asked a (inl h) = omega (arith, h.0)
asked_near state before last at asked a (inr h) = used_near before at asked a h

pub near : (units : List (List Token)) (part : List Token) (a : Found TechKind) → fault units part a → a.at < length part
near units (a ∷ []) x h = omega (arith, h.0)
near units (a ∷ b ∷ []) x h = asked_near (state_of units) a b 0 _ x h
near units (a ∷ b ∷ c ∷ []) x h = asked_near (state_of units) b c 1 _ x h
near units (a ∷ b ∷ c ∷ d ∷ []) x h = asked_near (state_of units) c d 2 _ x h
near units (a ∷ b ∷ c ∷ d ∷ e ∷ []) x h = asked_near (state_of units) d e 3 _ x h
near units (a ∷ b ∷ c ∷ d ∷ e ∷ f ∷ []) x h = asked_near (state_of units) e f 4 _ x h
near units part x h = absurd h

-- ## the words that show that a number is used

abbrev pub IsUsed : Question → Type 0
IsUsed (Used quantity) = Unit {0}
IsUsed _ = ⊥

is_used : (before : Token) (n : ℕ) (asked : Question) (a : Found TechKind) → UsedFault before n asked a → IsUsed asked
is_used before n (Used quantity) a h = tt
is_used before n asked a h = absurd h

not_head : (s : Sort) → IsUsed (ask_head s) → ⊥
not_head sorts.Layer h = h
not_head sorts.ViaRule h = h
not_head s h = h

not_end : (s : Sort) → IsUsed (ask_end s) → ⊥
not_end sorts.End h = h
not_end s h = h

not_rule_two : (s : Sort) → IsUsed (ask_rule_two s) → ⊥
not_rule_two sorts.End h = h
not_rule_two sorts.Layer h = h
not_rule_two s h = h

not_wire_part_two : (s : Sort) → IsUsed (ask_wire_part_two s) → ⊥
not_wire_part_two sorts.End h = h
not_wire_part_two sorts.Layer h = h
not_wire_part_two sorts.Enclosure h = h
not_wire_part_two sorts.Width h = h
not_wire_part_two s h = h

not_wire_part_three : (s : Sort) → IsUsed (ask_wire_part_three s) → ⊥
not_wire_part_three sorts.Enclosure h = h
not_wire_part_three s h = h

not_wire_part_four : (s : Sort) → IsUsed (ask_wire_part_four s) → ⊥
not_wire_part_four sorts.Width h = h
not_wire_part_four s h = h

not_cut_part_two : (s : Sort) → IsUsed (ask_cut_part_two s) → ⊥
not_cut_part_two sorts.End h = h
not_cut_part_two sorts.Layer h = h
not_cut_part_two sorts.Rect h = h
not_cut_part_two sorts.Spacing h = h
not_cut_part_two sorts.Resistance h = h
not_cut_part_two s h = h

not_corner : (s : Sort) → IsUsed (ask_corner s) → ⊥
not_corner sorts.Rect h = h
not_corner s h = h

not_cut_part_four : (s : Sort) → IsUsed (ask_cut_part_four s) → ⊥
not_cut_part_four sorts.Rect h = h
not_cut_part_four sorts.Spacing h = h
not_cut_part_four s h = h

two_not : (section : Section) (a b : Sort) → IsUsed (question_of section (Two a b)) → ⊥
two_not sections.Top a b h = not_head a h
two_not sections.Undirected a b h = not_end a h
two_not sections.Directed a b h = not_end a h
two_not sections.Cut a b h = not_end a h
two_not sections.RuleHead a b h = not_rule_two a h
two_not sections.Rule a b h = not_rule_two a h
two_not sections.WirePart a b h = not_wire_part_two a h
two_not sections.CutPart a b h = not_cut_part_two a h
two_not sections.Units a b h = not_end a h
two_not section a b h = h

five_not : (section : Section) (a b c d e : Sort) → IsUsed (question_of section (Five a b c d e)) → ⊥
five_not sections.CutPart a b c d e h = not_corner a h
five_not section a b c d e h = h

six_not : (section : Section) (a b c d e f : Sort) → IsUsed (question_of section (Six a b c d e f)) → ⊥
six_not sections.Top a b c d e f h = h
six_not section a b c d e f h = h

-- `SPACING s ;`: nothing is asked of fewer words.
wire_three : (s t : Sort) → IsUsed (ask_wire_three s t) → ask_end s ≡ Nothing
wire_three sorts.Spacing t h = refl
wire_three sorts.Current sorts.Width h = absurd h
wire_three sorts.Current t h = absurd h
wire_three s t h = absurd h

-- `RESISTANCE v ;` of a cut layer.
cut_three : (s t : Sort) → IsUsed (ask_cut_three s t) → ask_end s ≡ Nothing
cut_three sorts.Resistance t h = refl
cut_three sorts.Current sorts.CutArea h = absurd h
cut_three sorts.Current t h = absurd h
cut_three s t h = absurd h

-- `RESISTANCE RPERSQ v ;`.
wire_four : (s t u v : Sort) → IsUsed (ask_wire_four s t u) → (ask_end s ≡ Nothing) × (ask_wire_three s v ≡ Nothing)
wire_four sorts.Resistance t u v h = (refl, refl)
wire_four sorts.Current sorts.Width u v h = absurd h
wire_four sorts.Current t u v h = absurd h
wire_four s t u v h = absurd h

cut_four : (s t : Sort) → IsUsed (ask_cut_four s t) → ⊥
cut_four sorts.Current sorts.CutArea h = h
cut_four sorts.Current t h = h
cut_four s t h = h

pub record Fewer (section : Section) (a b : Sort) : Type 0 where
  pub one : question_of section (One a) ≡ Nothing
  pub two : question_of section (Two a b) ≡ Nothing

three_fronts : (section : Section) (a b c : Sort) → IsUsed (question_of section (Three a b c)) → Fewer section a b
three_fronts sections.Undirected a b c h = record { one = refl; two = wire_three a c h }
three_fronts sections.Directed a b c h = record { one = refl; two = wire_three a c h }
three_fronts sections.Cut a b c h = record { one = refl; two = cut_three a c h }
three_fronts sections.WirePart a b c h = absurd (not_wire_part_three a h)
three_fronts sections.CutPart a b c h = absurd (not_corner a h)
three_fronts section a b c h = absurd h

four_fronts : (section : Section) (a b c d : Sort) → IsUsed (question_of section (Four a b c d)) →
    Fewer section a b × (question_of section (Three a b c) ≡ Nothing)
four_fronts sections.Undirected a b c d h =
    let t = wire_four a c d c h in (record { one = refl; two = t.0 }, t.1)
four_fronts sections.Directed a b c d h =
    let t = wire_four a c d c h in (record { one = refl; two = t.0 }, t.1)
four_fronts sections.Cut a b c d h = absurd (cut_four a c h)
four_fronts sections.WirePart a b c d h = absurd (not_wire_part_four a h)
four_fronts sections.CutPart a b c d h = absurd (not_cut_part_four a h)
four_fronts section a b c d h = absurd h

-- ## fewer words show no fault

last_none : (state : State) (last : Token) (asked : Question) (k : TechKind) → asked ≡ Nothing → LastFault state last asked k → ⊥
last_none state last asked k e h = subst (λ z. LastFault state last z k) e h

asked_none : (state : State) (before last : Token) (n : ℕ) (asked : Question) (a : Found TechKind) → asked ≡ Nothing → Asked state before last n asked a → ⊥
asked_none state before last n asked a e (inl h) = last_none state last asked a.kind e h.1
asked_none state before last n asked a e (inr h) = subst (λ z. UsedFault before n z a) e h

some_more : (x : List Token) (w : Token) (more : List Token) → 0 < length more → [] ≡ w ∷ more → ⊥
some_more x w more some e = cc

none_left : (more : List Token) → 0 < length more → [] ≡ more → ⊥
none_left [] some e = omega arith
none_left (w ∷ more) some e = cc

front_three : (units : List (List Token)) (a b c : Token) → Fewer (state_of units).place.section (sort_of a) (sort_of b) → (front more : List Token) →
    a ∷ b ∷ c ∷ [] ≡ front ++ more → 0 < length more → IsFine format units front
front_three units a b c few [] more e some = λ found h. h
front_three units a b c few (x ∷ []) more e some =
    let is : a ≡ x = cc in subst (λ z. IsFine format units (z ∷ [])) is (λ found h. last_none (state_of units) a _ found.kind few.one h.1)
front_three units a b c few (x ∷ y ∷ []) more e some =
    let is : a ≡ x = cc in let is_too : b ≡ y = cc in
    subst (λ z. IsFine format units (z ∷ y ∷ [])) is (subst (λ z. IsFine format units (a ∷ z ∷ [])) is_too
    (λ found h. asked_none (state_of units) a b 0 _ found few.two h))
front_three units a b c few (x ∷ y ∷ z ∷ front) more e some = absurd (omega (arith, ap length e, length-append (x ∷ y ∷ z ∷ front) more))

front_four : (units : List (List Token)) (a b c d : Token) → Fewer (state_of units).place.section (sort_of a) (sort_of b) →
    question_of (state_of units).place.section (Three (sort_of a) (sort_of b) (sort_of c)) ≡ Nothing → (front more : List Token) →
    a ∷ b ∷ c ∷ d ∷ [] ≡ front ++ more → 0 < length more → IsFine format units front
front_four units a b c d few three [] more e some = λ found h. h
front_four units a b c d few three (x ∷ []) more e some =
    let is : a ≡ x = cc in subst (λ z. IsFine format units (z ∷ [])) is (λ found h. last_none (state_of units) a _ found.kind few.one h.1)
front_four units a b c d few three (x ∷ y ∷ []) more e some =
    let is : a ≡ x = cc in let is_too : b ≡ y = cc in
    subst (λ z. IsFine format units (z ∷ y ∷ [])) is (subst (λ z. IsFine format units (a ∷ z ∷ [])) is_too
    (λ found h. asked_none (state_of units) a b 0 _ found few.two h))
front_four units a b c d few three (x ∷ y ∷ w ∷ []) more e some =
    let is : a ≡ x = cc in let is_too : b ≡ y = cc in let is_three : c ≡ w = cc in
    subst (λ z. IsFine format units (z ∷ y ∷ w ∷ [])) is (subst (λ z. IsFine format units (a ∷ z ∷ w ∷ [])) is_too
    (subst (λ z. IsFine format units (a ∷ b ∷ z ∷ [])) is_three (λ found h. asked_none (state_of units) b c 1 _ found three h)))
front_four units a b c d few three (x ∷ y ∷ w ∷ z ∷ front) more e some =
    absurd (omega (arith, ap length e, length-append (x ∷ y ∷ w ∷ z ∷ front) more))

-- A fault at the last word, or else a number is used.
at_last : (state : State) (before last : Token) (n : ℕ) (asked : Question) (a : Found TechKind) → Asked state before last n asked a →
    (a.at + 1 ≡ n + 2) ⊎ IsUsed asked
at_last state before last n asked a (inl h) = inl (omega (arith, h.0))
at_last state before last n asked a (inr h) = inr (is_used before n asked a h)

pub alone : (units : List (List Token)) (part : List Token) (a : Found TechKind) → fault units part a →
    (a.at + 1 ≡ length part) ⊎ ((front more : List Token) → part ≡ front ++ more → 0 < length more → IsFine format units front)
alone units (a ∷ []) x h = inl (omega (arith, h.0))
alone units (a ∷ b ∷ []) x h = elim (at_last (state_of units) a b 0 _ x h) [
  | inl e ↦ inl e
  | inr u ↦ absurd (two_not (state_of units).place.section (sort_of a) (sort_of b) u)
]
alone units (a ∷ b ∷ c ∷ []) x h = elim (at_last (state_of units) b c 1 _ x h) [
  | inl e ↦ inl e
  | inr u ↦ inr (front_three units a b c (three_fronts (state_of units).place.section (sort_of a) (sort_of b) (sort_of c) u))
]
alone units (a ∷ b ∷ c ∷ d ∷ []) x h = elim (at_last (state_of units) c d 2 _ x h) [
  | inl e ↦ inl e
  | inr u ↦
      let few = four_fronts (state_of units).place.section (sort_of a) (sort_of b) (sort_of c) (sort_of d) u in
      inr (front_four units a b c d few.0 few.1)
]
alone units (a ∷ b ∷ c ∷ d ∷ e ∷ []) x h = elim (at_last (state_of units) d e 3 _ x h) [
  | inl is ↦ inl is
  | inr u ↦ absurd (five_not (state_of units).place.section (sort_of a) (sort_of b) (sort_of c) (sort_of d) (sort_of e) u)
]
alone units (a ∷ b ∷ c ∷ d ∷ e ∷ f ∷ []) x h = elim (at_last (state_of units) e f 4 _ x h) [
  | inl is ↦ inl is
  | inr u ↦ absurd (six_not (state_of units).place.section (sort_of a) (sort_of b) (sort_of c) (sort_of d) (sort_of e) (sort_of f) u)
]
alone units part x h = absurd h

-- ## one fault

pub one : HasOne → (units : List (List Token)) (part : List Token) (a b : Found TechKind) → fault units part a → fault units part b →
    (b.at ≡ a.at) × (b.kind ≡ a.kind)
one n units (a ∷ []) x y h i = (omega (arith, h.0, i.0), last_one n (state_of units) a _ x.kind y.kind h.1 i.1)
one n units (a ∷ b ∷ []) x y h i = asked_one n (state_of units) a b 0 _ x y h i
one n units (a ∷ b ∷ c ∷ []) x y h i = asked_one n (state_of units) b c 1 _ x y h i
one n units (a ∷ b ∷ c ∷ d ∷ []) x y h i = asked_one n (state_of units) c d 2 _ x y h i
one n units (a ∷ b ∷ c ∷ d ∷ e ∷ []) x y h i = asked_one n (state_of units) d e 3 _ x y h i
one n units (a ∷ b ∷ c ∷ d ∷ e ∷ f ∷ []) x y h i = asked_one n (state_of units) e f 4 _ x y h i
one n units part x y h i = absurd h
