-- The words that the fault of an edge and of the end of a die look at are coordinates.
use Rattle.std.proofs.Common.{◌≡◌, ℕ, zero, suc, ◌-◌, ◌≤◌, Bool, true, false, ◌&&◌, List, [], ◌∷◌, refl, sym, ◌∙◌, ap, subst, arith}
use Rattle.def_design.specs.declared.number.Quantity.TheVariants.{Any}
use Rattle.def_design.specs.declared.question.Question.{Question}
use Rattle.def_design.specs.declared.question.Question.TheVariants.{Nothing, Number, Apart, DieEnd}
use Rattle.def_design.specs.inside.Value.{asks_by}
use Rattle.def_design.specs.Question.{coordinate, question_at, design_words, units_words, die_words, row_words, counted_words, width_words, component_words, placed_words, rect_words, polygon_words, region_words, more_words, wire_words, end_words, top_asks, entry_asks, placed_asks, part_asks, shape_asks, placement_asks, regions_asks, region_asks, wiring_asks, end_asks}
use Rattle.def_design.proofs.Shapes.{both}
use Rattle.def_statements.specs.declared.section.Section.{Section}
use Rattle.def_statements.specs.declared.section.Section.TheVariants as places
use Rattle.def_statements.specs.declared.sort.Sort.{Sort}
use Rattle.def_statements.specs.declared.sort.Sort.TheVariants as sorts

-- Four words before each edge stands a coordinate.
abbrev four_before : Question → Question → Bool
four_before Apart (Number Any) = true
four_before Apart _ = false
four_before _ _ = true

abbrev spaced : Question → Question → Question → Question → List Question → Bool
spaced a b c d [] = true
spaced a b c d (e ∷ asks) = four_before e a && spaced b c d e asks

before_edge : (e a : Question) → four_before e a ≡ true → e ≡ Apart → a ≡ coordinate
before_edge Apart (Number Any) h is = refl
before_edge Apart a h is = absurd (let t : false ≡ true = h in cc)
before_edge e a h is = absurd (cc)

edge_at : (a b c d : Question) (asks : List Question) (n : ℕ) → spaced a b c d asks ≡ true → question_at asks n ≡ Apart → question_at (a ∷ b ∷ c ∷ d ∷ asks) n ≡ coordinate
edge_at a b c d [] n h is = absurd (let t : Nothing ≡ Apart = is in cc)
edge_at a b c d (e ∷ asks) zero h is = before_edge e a (both (four_before e a) (spaced b c d e asks) h).0 is
edge_at a b c d (e ∷ asks) (suc n) h is = edge_at b c d e asks n (both (four_before e a) (spaced b c d e asks) h).1 is

-- An edge stands after four words at least.
four_on : (asks : List Question) (n : ℕ) → question_at (Nothing ∷ Nothing ∷ Nothing ∷ Nothing ∷ asks) n ≡ coordinate → (4 ≤ n) × (question_at asks (n - 4) ≡ coordinate)
four_on asks zero h = absurd (let t : Nothing ≡ Number Any = h in cc)
four_on asks (suc zero) h = absurd (let t : Nothing ≡ Number Any = h in cc)
four_on asks (suc (suc zero)) h = absurd (let t : Nothing ≡ Number Any = h in cc)
four_on asks (suc (suc (suc zero))) h = absurd (let t : Nothing ≡ Number Any = h in cc)
four_on asks (suc (suc (suc (suc n)))) h =
    let at : n ≡ suc (suc (suc (suc n))) - 4 = omega arith in
    (omega arith, subst (λ z. question_at asks z ≡ coordinate) at h)

abbrev IsSpaced : List Question → Type 0
IsSpaced asks = spaced Nothing Nothing Nothing Nothing asks ≡ true

-- The end of a die stands at its tenth word, after two points.
abbrev no_die_end : Question → Bool
no_die_end DieEnd = false
no_die_end _ = true

abbrev all_other : List Question → Bool
all_other [] = true
all_other (ask ∷ asks) = no_die_end ask && all_other asks

abbrev pub AfterPoints : List Question → ℕ → Type 0
AfterPoints asks n = (8 ≤ n) × (question_at asks 2 ≡ coordinate) × (question_at asks 3 ≡ coordinate) × (question_at asks 6 ≡ coordinate) × (question_at asks 7 ≡ coordinate)

abbrev EndsDie : List Question → Type 0
EndsDie asks = (n : ℕ) → question_at asks n ≡ DieEnd → AfterPoints asks n

other_at : (asks : List Question) (n : ℕ) → all_other asks ≡ true → question_at asks n ≡ DieEnd → ⊥
other_at [] n h is = let t : Nothing ≡ DieEnd = is in cc
other_at (ask ∷ asks) zero h is = let t : true ≡ false = sym (both (no_die_end ask) (all_other asks) h).0 ∙ ap no_die_end is in cc
other_at (ask ∷ asks) (suc n) h is = other_at asks n (both (no_die_end ask) (all_other asks) h).1 is

no_end : (asks : List Question) → all_other asks ≡ true → EndsDie asks
no_end asks h = λ n is. absurd (other_at asks n h is)

die_end : EndsDie die_words
die_end (suc (suc (suc (suc (suc (suc (suc (suc n)))))))) is = (omega arith, refl, refl, refl, refl)
die_end zero is = absurd (cc)
die_end (suc zero) is = absurd (cc)
die_end (suc (suc zero)) is = absurd (cc)
die_end (suc (suc (suc zero))) is = absurd (cc)
die_end (suc (suc (suc (suc zero)))) is = absurd (cc)
die_end (suc (suc (suc (suc (suc zero))))) is = absurd (cc)
die_end (suc (suc (suc (suc (suc (suc zero)))))) is = absurd (cc)
die_end (suc (suc (suc (suc (suc (suc (suc zero))))))) is = absurd (cc)

-- Both hold of what is asked of the words of each unit.
pub record IsAsked (asks : List Question) : Type 0 where
  pub apart : IsSpaced asks
  pub ends : EndsDie asks

asked : (asks : List Question) → IsSpaced asks → all_other asks ≡ true → IsAsked asks
asked asks h k = record { apart = h; ends = no_end asks k }

top_asked : (sort : Sort) → IsAsked (top_asks sort)
top_asked sorts.Design = asked design_words refl refl
top_asked sorts.Units = asked units_words refl refl
top_asked sorts.DieArea = record { apart = refl; ends = die_end }
top_asked sorts.Row = asked row_words refl refl
top_asked sorts.Components = asked counted_words refl refl
top_asked sorts.Blockages = asked counted_words refl refl
top_asked sorts.Regions = asked counted_words refl refl
top_asked sorts.SpecialNets = asked counted_words refl refl
top_asked sort = asked [] refl refl

entry_asked : (sort : Sort) → IsAsked (entry_asks sort)
entry_asked sorts.Minus = asked component_words refl refl
entry_asked sort = asked [] refl refl

placed_asked : (sort : Sort) → IsAsked (placed_asks sort)
placed_asked sorts.Placed = asked placed_words refl refl
placed_asked sorts.Fixed = asked placed_words refl refl
placed_asked sort = asked [] refl refl

part_asked : (sort : Sort) → IsAsked (part_asks sort)
part_asked sorts.Spacing = asked counted_words refl refl
part_asked sorts.Width = asked width_words refl refl
part_asked sort = asked [] refl refl

shape_asked : (sort : Sort) → IsAsked (shape_asks sort)
shape_asked sorts.Rect = asked rect_words refl refl
shape_asked sorts.Polygon = asked polygon_words refl refl
shape_asked sort = asked [] refl refl

placement_asked : (sort : Sort) → IsAsked (placement_asks sort)
placement_asked sorts.Polygon = asked polygon_words refl refl
placement_asked sort = asked [] refl refl

regions_asked : (sort : Sort) → IsAsked (regions_asks sort)
regions_asked sorts.Minus = asked region_words refl refl
regions_asked sort = asked [] refl refl

region_asked : (sort : Sort) → IsAsked (region_asks sort)
region_asked sorts.Open = asked more_words refl refl
region_asked sort = asked [] refl refl

wiring_asked : (sort : Sort) → IsAsked (wiring_asks sort)
wiring_asked sorts.Routed = asked wire_words refl refl
wiring_asked sorts.Fixed = asked wire_words refl refl
wiring_asked sorts.Rect = asked wire_words refl refl
wiring_asked sorts.Polygon = asked wire_words refl refl
wiring_asked sort = asked [] refl refl

end_asked : (sort : Sort) → IsAsked (end_asks sort)
end_asked sorts.TextEnd = asked end_words refl refl
end_asked sort = asked [] refl refl

all_asked : (section : Section) (sort : Sort) → IsAsked (asks_by section sort)
all_asked places.Top sort = top_asked sort
all_asked places.Components sort = entry_asked sort
all_asked places.EntryPart sort = placed_asked sort
all_asked places.Part sort = part_asked sort
all_asked places.Parts sort = shape_asked sort
all_asked places.Rects sort = shape_asked sort
all_asked places.Placement sort = placement_asked sort
all_asked places.Regions sort = regions_asked sort
all_asked places.Region sort = region_asked sort
all_asked places.WiringPart sort = wiring_asked sort
all_asked places.Ended sort = end_asked sort
all_asked section sort = asked [] refl refl

-- Four words before an edge a coordinate is asked for.
pub edge_after : (section : Section) (sort : Sort) (n : ℕ) → question_at (asks_by section sort) n ≡ Apart → (4 ≤ n) × (question_at (asks_by section sort) (n - 4) ≡ coordinate)
edge_after section sort n is = four_on (asks_by section sort) n (edge_at Nothing Nothing Nothing Nothing (asks_by section sort) n (all_asked section sort).apart is)

-- Where the end of a die is asked for, two points stand before it.
pub end_after : (section : Section) (sort : Sort) (n : ℕ) → question_at (asks_by section sort) n ≡ DieEnd → AfterPoints (asks_by section sort) n
end_after section sort n is = (all_asked section sort).ends n is
