-- What whole units say: their numbers, that names are new, and that rectangles span an area.
use Rattle.std.proofs.Common.{◌≡◌, ℕ, suc, ◌+◌, ◌-◌, ◌<◌, ◌≤◌, ◌==◌, ℤ, ◌<ℤ◌, Bool, true, false, List, length, map, take, Contains, Option, Some, ◌⊎◌, inl, inr, refl, sym, ◌∙◌, ap, subst, arith, to_z, of_z}
use Rattle.std.specs.Prelude.{◌||◌, nat_lt}
use Rattle.std.specs.Int.{int_min, int_max, w64}
use Rattle.std.proofs.lemmas.Int.{ints, clamps}
use Rattle.std.proofs.lemmas.List.{length-map, length-take-le}
use Rattle.geom_rect.specs.declared.rect.Rect.{Rect}
use Rattle.def_design.specs.declared.error.DefKind.{DefKind}
use Rattle.def_design.specs.declared.error.DefKind.TheVariants as kinds
use Rattle.def_design.specs.declared.number.Quantity.{Quantity}
use Rattle.def_design.specs.declared.number.Quantity.TheVariants.{Any, NotNegative, Positive, Microns}
use Rattle.def_design.specs.declared.question.Question.{Question}
use Rattle.def_design.specs.declared.question.Question.TheVariants as questions
use Rattle.def_design.specs.declared.value.Value.{Value}
use Rattle.def_design.specs.Fault.{NoArea, DieEndFault, LastFault, names_of}
use Rattle.def_design.specs.inside.Held.{IsWhole}
use Rattle.def_design.specs.inside.Value.{asks_by, SaysAsked, said_number, HasCorners, IsCoordinate, count_said, step_said, turn_of}
use Rattle.def_design.specs.Number.{IsNumber, IsSame}
use Rattle.def_design.specs.Question.{question_at}
use Rattle.def_design.specs.Record.{SaysRect, SaysArea, SaysCount, SaysStep}
use Rattle.def_design.specs.Unit.{is_units, is_die, is_row, is_component, is_placed, is_spacing, is_rect, is_region, is_more, is_across, orient_of, upright}
use Rattle.def_design.proofs.Numbers.{read_as}
use Rattle.def_design.proofs.Heard.{last_taken, at_taken, number_heard, none_shown}
use Rattle.def_design.proofs.Shapes.{both, Shaped, shaped, exactly, longer, the_is, RowWords, units_in, die_in, component_in, region_in, more_in, spacing_in, rect_in, placed_in, fixed_in, row_in}
use Rattle.def_statements.specs.declared.section.Section.{Section}
use Rattle.def_statements.specs.declared.section.Section.TheVariants as places
use Rattle.def_statements.specs.declared.sort.Sort.{Sort}
use Rattle.def_statements.specs.declared.sort.Sort.TheVariants as sorts
use Rattle.def_statements.specs.Pattern.{is_turn}
use Rattle.def_statements.specs.Sort.{the}
use Rattle.def_statements.specs.Standing.{section_of}
use Rattle.def_statements.specs.Unit.{begins, text_or, sort_or, text_at, sort_at, last_text, last_sort}
use Rattle.reading.specs.declared.word.Heard.{Heard}
use Rattle.reading.specs.Word.{Token, heard_token}

either : (a b : Bool) → (a || b) ≡ true → (a ≡ true) ⊎ (b ≡ true)
either true b h = inl refl
either false b h = inr h

not_true : (b : Bool) → (b ≡ true → ⊥) → b ≡ false
not_true true h = absurd (h refl)
not_true false h = refl

same_count : (n m : ℕ) → (n == m) ≡ true → n ≡ m
same_count n m h = grind (arith, h)

more_count : (n m : ℕ) → nat_lt n m ≡ true → n < m
more_count n m h = grind (arith, h)

begun : (word : Sort) (words : ℕ) (unit : List Token) → begins word words unit ≡ true → (length unit ≡ words) × (sort_at 0 unit ≡ word)
begun word words unit h =
    let t = both (length unit == words) (the word (sort_at 0 unit)) h in
    (same_count (length unit) words t.0, the_is word (sort_at 0 unit) t.1)

-- The section of a whole unit that begins with a word has units that begin with it.
pub begun_shape : (units : List (List Token)) (unit : List (Heard Value)) → IsWhole units unit → (word : Sort) (words : ℕ) → begins word words (map heard_token unit) ≡ true →
    Shaped word (exactly words) (section_of units) (map heard_token unit)
begun_shape units unit w word words h =
    let t = both (length (map heard_token unit) == words) (the word (sort_at 0 (map heard_token unit))) h in
    shaped word (exactly words) (section_of units) (map heard_token unit) (the_is word _ t.1) t.0 w.taken.matches

asked_in : (units : List (List Token)) (unit : List Token) (section : Section) (first : Sort) (n : ℕ) (question : Question) → section_of units ≡ section → sort_at 0 unit ≡ first →
    question_at (asks_by section first) n ≡ question → question_at (asks_by (section_of units) (sort_at 0 unit)) n ≡ question
asked_in units unit section first n question at starts asked =
    ap (λ z. question_at (asks_by z (sort_at 0 unit)) n) at ∙ ap (λ z. question_at (asks_by section z) n) starts ∙ asked

-- A word of a whole unit is the number that is asked of it.
number_in : (units : List (List Token)) (unit : List (Heard Value)) → IsWhole units unit → (section : Section) (first : Sort) (n : ℕ) (quantity : Quantity) → n < length unit →
    section_of units ≡ section → sort_at 0 (map heard_token unit) ≡ first → question_at (asks_by section first) n ≡ questions.Number quantity →
    IsNumber quantity (text_at n (map heard_token unit)) (said_number n unit)
number_in units unit w section first n quantity lt at starts asked =
    subst (λ z. SaysAsked z (text_at n (map heard_token unit)) (said_number n unit))
    (asked_in units (map heard_token unit) section first n (questions.Number quantity) at starts asked) (number_heard units unit n lt w.heard)

apart_in : (units : List (List Token)) (unit : List (Heard Value)) → IsWhole units unit → (section : Section) (first : Sort) (n : ℕ) → n < length unit →
    section_of units ≡ section → sort_at 0 (map heard_token unit) ≡ first → question_at (asks_by section first) n ≡ questions.Apart → IsCoordinate n unit
apart_in units unit w section first n lt at starts asked =
    subst (λ z. SaysAsked z (text_at n (map heard_token unit)) (said_number n unit))
    (asked_in units (map heard_token unit) section first n questions.Apart at starts asked) (number_heard units unit n lt w.heard)

-- It shows no fault by what is asked of it.
none_in : (units : List (List Token)) (unit : List (Heard Value)) (w : IsWhole units unit) (section : Section) (first : Sort) (n : ℕ) (question : Question) → n < length (map heard_token unit) →
    section_of units ≡ section → sort_at 0 (map heard_token unit) ≡ first → question_at (asks_by section first) n ≡ question →
    (kind : DefKind) → LastFault w.wiring units (take (suc n) (map heard_token unit)) question kind → ⊥
none_in units unit w section first n question lt at starts asked kind k =
    none_shown w.wiring units (map heard_token unit) n lt w.taken.fine kind
    (subst (λ z. LastFault w.wiring units (take (suc n) (map heard_token unit)) z kind)
    (sym (asked_in units (map heard_token unit) section first n question at starts asked)) k)

-- ## units of a micrometre, and spacings

pub units_said : (units : List (List Token)) (unit : List (Heard Value)) → IsWhole units unit → is_units (map heard_token unit) ≡ true →
    IsNumber Microns (text_at 3 (map heard_token unit)) (said_number 3 unit)
units_said units unit w is =
    let b = begun sorts.Units 5 (map heard_token unit) is in
    let count = length-map unit heard_token in
    number_in units unit w places.Top sorts.Units 3 Microns (omega (arith, count, b.0)) (units_in (section_of units) (map heard_token unit) (begun_shape units unit w sorts.Units 5 is)) b.1 refl

pub spacing_said : (units : List (List Token)) (unit : List (Heard Value)) → IsWhole units unit → is_spacing (map heard_token unit) ≡ true →
    IsNumber NotNegative (text_at 1 (map heard_token unit)) (said_number 1 unit)
spacing_said units unit w is =
    let b = begun sorts.Spacing 2 (map heard_token unit) is in
    let count = length-map unit heard_token in
    number_in units unit w places.Part sorts.Spacing 1 NotNegative (omega (arith, count, b.0)) (spacing_in (section_of units) (map heard_token unit) (begun_shape units unit w sorts.Spacing 2 is)) b.1 refl

-- ## rectangles

-- Two edges that are no one number are apart.
apart_edges : (x z : ℤ) → (x ≡ z → ⊥) → int_min x z <ℤ int_max x z
apart_edges x z h = omega (arith, ints, clamps)

edges : (n m : ℕ) (unit : List Token) (x z : ℤ) → IsNumber Any (text_at n unit) x → IsNumber Any (text_at m unit) z → (IsSame (text_at n unit) (text_at m unit) → ⊥) → int_min x z <ℤ int_max x z
edges n m unit x z is other differ = apart_edges x z (λ e. differ (x, is, subst (λ v. IsNumber Any (text_at m unit) v) (sym e) other))

pub area_of : (n : ℕ) (unit : List Token) (rect : Rect) → (IsSame (text_at n unit) (text_at (n + 4) unit) → ⊥) → (IsSame (text_at (n + 1) unit) (text_at (n + 4 + 1) unit) → ⊥) →
    SaysRect n unit rect → SaysArea n unit rect
area_of n unit rect wide high h = (
  h,
  subst (λ (z : Rect). z.x1 <ℤ z.x2) (sym h.6) (edges n (n + 4) unit h.0 h.2 h.4.0 h.5.0 wide),
  subst (λ (z : Rect). z.y1 <ℤ z.y2) (sym h.6) (edges (n + 1) (n + 4 + 1) unit h.1 h.3 h.4.1 h.5.1 high),
)

die_refused : (unit : List Token) (last : Sort) → NoArea unit → (kind : DefKind) × DieEndFault unit last kind
die_refused unit sorts.Open none = (kinds.Polygon, refl)
die_refused unit last none = (kinds.Syntax, (refl, none))

pub die_said : (units : List (List Token)) (unit : List (Heard Value)) → IsWhole units unit → is_die (map heard_token unit) ≡ true → HasCorners 2 unit
die_said units unit w is =
    let b = begun sorts.DieArea 10 (map heard_token unit) is in
    let count = length-map unit heard_token in
    let top = die_in (section_of units) (map heard_token unit) (begun_shape units unit w sorts.DieArea 10 is) in
    record {
      x = number_in units unit w places.Top sorts.DieArea 2 Any (omega (arith, count, b.0)) top b.1 refl;
      y = number_in units unit w places.Top sorts.DieArea 3 Any (omega (arith, count, b.0)) top b.1 refl;
      z = number_in units unit w places.Top sorts.DieArea 6 Any (omega (arith, count, b.0)) top b.1 refl;
      w = number_in units unit w places.Top sorts.DieArea 7 Any (omega (arith, count, b.0)) top b.1 refl;
    }

pub die_spans : (units : List (List Token)) (unit : List (Heard Value)) → IsWhole units unit → is_die (map heard_token unit) ≡ true → NoArea (map heard_token unit) → ⊥
die_spans units unit w is none =
    let words = map heard_token unit in
    let b = begun sorts.DieArea 10 words is in
    let top = die_in (section_of units) (map heard_token unit) (begun_shape units unit w sorts.DieArea 10 is) in
    let at = λ (k : ℕ) (h : k ≤ 9). ap text_or (at_taken words 9 k h) in
    let there : NoArea (take 10 words) =
    subst (λ z. IsSame z (text_at 6 (take 10 words)) ⊎ IsSame (text_at 3 (take 10 words)) (text_at 7 (take 10 words))) (sym (at 2 (omega arith)))
    (subst (λ z. IsSame (text_at 2 words) z ⊎ IsSame (text_at 3 (take 10 words)) (text_at 7 (take 10 words))) (sym (at 6 (omega arith)))
    (subst (λ z. IsSame (text_at 2 words) (text_at 6 words) ⊎ IsSame z (text_at 7 (take 10 words))) (sym (at 3 (omega arith)))
    (subst (λ z. IsSame (text_at 2 words) (text_at 6 words) ⊎ IsSame (text_at 3 words) z) (sym (at 7 (omega arith))) none))) in
    let refused = die_refused (take 10 words) (last_sort (take 10 words)) there in
    none_in units unit w places.Top sorts.DieArea 9 questions.DieEnd (omega (arith, b.0)) top b.1 refl refused.0 refused.1

pub rect_said : (units : List (List Token)) (unit : List (Heard Value)) → IsWhole units unit → is_rect (map heard_token unit) ≡ true → HasCorners 2 unit
rect_said units unit w is =
    let b = begun sorts.Rect 9 (map heard_token unit) is in
    let count = length-map unit heard_token in
    elim (rect_in (section_of units) (map heard_token unit) (begun_shape units unit w sorts.Rect 9 is)) [
      | inl at ↦ record {
        x = number_in units unit w places.Parts sorts.Rect 2 Any (omega (arith, count, b.0)) at b.1 refl;
        y = number_in units unit w places.Parts sorts.Rect 3 Any (omega (arith, count, b.0)) at b.1 refl;
        z = number_in units unit w places.Parts sorts.Rect 6 Any (omega (arith, count, b.0)) at b.1 refl;
        w = number_in units unit w places.Parts sorts.Rect 7 Any (omega (arith, count, b.0)) at b.1 refl;
      }
      | inr at ↦ record {
        x = number_in units unit w places.Rects sorts.Rect 2 Any (omega (arith, count, b.0)) at b.1 refl;
        y = number_in units unit w places.Rects sorts.Rect 3 Any (omega (arith, count, b.0)) at b.1 refl;
        z = number_in units unit w places.Rects sorts.Rect 6 Any (omega (arith, count, b.0)) at b.1 refl;
        w = number_in units unit w places.Rects sorts.Rect 7 Any (omega (arith, count, b.0)) at b.1 refl;
      }
    ]

-- ## regions

-- An edge that was refused where it was the other one is another.
edge_apart : (wiring : Bool) (units : List (List Token)) (unit : List Token) (n : ℕ) → n + 4 < length unit →
    ((kind : DefKind) → LastFault wiring units (take (suc (n + 4)) unit) questions.Apart kind → ⊥) → IsSame (text_at n unit) (text_at (n + 4) unit) → ⊥
edge_apart wiring units unit n lt none same =
    let words = take (suc (n + 4)) unit in
    let count : length words ≡ suc (n + 4) = length-take-le (suc (n + 4)) unit (omega arith) in
    let at : length words - 5 ≡ n = omega (arith, count) in
    let edge : text_at (length words - 5) words ≡ text_at n unit = ap (λ z. text_at z words) at ∙ ap text_or (at_taken unit (n + 4) n (omega arith)) in
    none kinds.Syntax (inr (
      refl,
      subst (λ z. IsSame z (last_text words)) (sym edge)
          (subst (λ z. IsSame (text_at n unit) z) (sym (ap text_or (last_taken unit (n + 4) lt))) same),
    ))

pub region_said : (units : List (List Token)) (unit : List (Heard Value)) → IsWhole units unit → is_region (map heard_token unit) ≡ true → HasCorners 3 unit
region_said units unit w is =
    let b = begun sorts.Minus 10 (map heard_token unit) is in
    let count = length-map unit heard_token in
    let at = region_in (section_of units) (map heard_token unit) (begun_shape units unit w sorts.Minus 10 is) in
    record {
      x = number_in units unit w places.Regions sorts.Minus 3 Any (omega (arith, count, b.0)) at b.1 refl;
      y = number_in units unit w places.Regions sorts.Minus 4 Any (omega (arith, count, b.0)) at b.1 refl;
      z = apart_in units unit w places.Regions sorts.Minus 7 (omega (arith, count, b.0)) at b.1 refl;
      w = apart_in units unit w places.Regions sorts.Minus 8 (omega (arith, count, b.0)) at b.1 refl;
    }

pub region_area : (units : List (List Token)) (unit : List (Heard Value)) (rect : Rect) → IsWhole units unit → is_region (map heard_token unit) ≡ true →
    SaysRect 3 (map heard_token unit) rect → SaysArea 3 (map heard_token unit) rect
region_area units unit rect w is h =
    let words = map heard_token unit in
    let b = begun sorts.Minus 10 words is in
    let at = region_in (section_of units) (map heard_token unit) (begun_shape units unit w sorts.Minus 10 is) in
    area_of 3 words rect
    (edge_apart w.wiring units words 3 (omega (arith, b.0)) (none_in units unit w places.Regions sorts.Minus 7 questions.Apart (omega (arith, b.0)) at b.1 refl))
    (edge_apart w.wiring units words 4 (omega (arith, b.0)) (none_in units unit w places.Regions sorts.Minus 8 questions.Apart (omega (arith, b.0)) at b.1 refl)) h

pub more_said : (units : List (List Token)) (unit : List (Heard Value)) → IsWhole units unit → is_more (map heard_token unit) ≡ true → HasCorners 1 unit
more_said units unit w is =
    let b = begun sorts.Open 8 (map heard_token unit) is in
    let count = length-map unit heard_token in
    let at = more_in (section_of units) (map heard_token unit) (begun_shape units unit w sorts.Open 8 is) in
    record {
      x = number_in units unit w places.Region sorts.Open 1 Any (omega (arith, count, b.0)) at b.1 refl;
      y = number_in units unit w places.Region sorts.Open 2 Any (omega (arith, count, b.0)) at b.1 refl;
      z = apart_in units unit w places.Region sorts.Open 5 (omega (arith, count, b.0)) at b.1 refl;
      w = apart_in units unit w places.Region sorts.Open 6 (omega (arith, count, b.0)) at b.1 refl;
    }

pub more_area : (units : List (List Token)) (unit : List (Heard Value)) (rect : Rect) → IsWhole units unit → is_more (map heard_token unit) ≡ true →
    SaysRect 1 (map heard_token unit) rect → SaysArea 1 (map heard_token unit) rect
more_area units unit rect w is h =
    let words = map heard_token unit in
    let b = begun sorts.Open 8 words is in
    let at = more_in (section_of units) (map heard_token unit) (begun_shape units unit w sorts.Open 8 is) in
    area_of 1 words rect
    (edge_apart w.wiring units words 1 (omega (arith, b.0)) (none_in units unit w places.Region sorts.Open 5 questions.Apart (omega (arith, b.0)) at b.1 refl))
    (edge_apart w.wiring units words 2 (omega (arith, b.0)) (none_in units unit w places.Region sorts.Open 6 questions.Apart (omega (arith, b.0)) at b.1 refl)) h

-- The name in the head of a component or a region is new.
pub component_new : (units : List (List Token)) (unit : List (Heard Value)) → IsWhole units unit → is_component (map heard_token unit) ≡ true →
    Contains (names_of is_component units) (text_at 1 (map heard_token unit)) → ⊥
component_new units unit w is there =
    let words = map heard_token unit in
    let b = begun sorts.Minus 3 words is in
    let lt : 1 < length words = omega (arith, b.0) in
    none_in units unit w places.Components sorts.Minus 1 questions.NewComponent lt (component_in (section_of units) (map heard_token unit) (begun_shape units unit w sorts.Minus 3 is)) b.1 refl kinds.Twice
    (refl, subst (λ z. Contains (names_of is_component units) z) (sym (ap text_or (last_taken words 1 lt))) there)

pub region_new : (units : List (List Token)) (unit : List (Heard Value)) → IsWhole units unit → is_region (map heard_token unit) ≡ true →
    Contains (names_of is_region units) (text_at 1 (map heard_token unit)) → ⊥
region_new units unit w is there =
    let words = map heard_token unit in
    let b = begun sorts.Minus 10 words is in
    let lt : 1 < length words = omega (arith, b.0) in
    none_in units unit w places.Regions sorts.Minus 1 questions.NewRegion lt (region_in (section_of units) (map heard_token unit) (begun_shape units unit w sorts.Minus 10 is)) b.1 refl kinds.Twice
    (refl, subst (λ z. Contains (names_of is_region units) z) (sym (ap text_or (last_taken words 1 lt))) there)

-- ## components that are placed

pub record PlaceSaid (unit : List (Heard Value)) : Type 0 where
  pub x : IsCoordinate 2 unit
  pub y : IsCoordinate 3 unit
  pub turn : is_turn (sort_at 5 (map heard_token unit)) ≡ true

placed_by : (units : List (List Token)) (unit : List (Heard Value)) → IsWhole units unit → (first : Sort) → length (map heard_token unit) ≡ 6 → sort_at 0 (map heard_token unit) ≡ first →
    question_at (asks_by places.EntryPart first) 2 ≡ questions.Number Any → question_at (asks_by places.EntryPart first) 3 ≡ questions.Number Any →
    (section_of units ≡ places.EntryPart) × (is_turn (sort_at 5 (map heard_token unit)) ≡ true) → PlaceSaid unit
placed_by units unit w first six starts x y there =
    let count = length-map unit heard_token in
    record {
      x = number_in units unit w places.EntryPart first 2 Any (omega (arith, count, six)) there.0 starts x;
      y = number_in units unit w places.EntryPart first 3 Any (omega (arith, count, six)) there.0 starts y;
      turn = there.1;
    }

pub place_said : (units : List (List Token)) (unit : List (Heard Value)) → IsWhole units unit → is_placed (map heard_token unit) ≡ true → PlaceSaid unit
place_said units unit w is =
    let words = map heard_token unit in
    let t = both (length words == 6) (the sorts.Placed (sort_at 0 words) || the sorts.Fixed (sort_at 0 words)) is in
    let six = same_count (length words) 6 t.0 in
    elim (either (the sorts.Placed (sort_at 0 words)) (the sorts.Fixed (sort_at 0 words)) t.1) [
      | inl h ↦
          let e = the_is sorts.Placed (sort_at 0 words) h in
          placed_by units unit w sorts.Placed six e refl refl (placed_in (section_of units) words (shaped sorts.Placed (exactly 6) (section_of units) words e t.0 w.taken.matches))
      | inr h ↦
          let e = the_is sorts.Fixed (sort_at 0 words) h in
          placed_by units unit w sorts.Fixed six e refl refl (fixed_in (section_of units) words (shaped sorts.Fixed (exactly 6) (section_of units) words e t.0 w.taken.matches))
    ]

-- ## rows

pub record RowSaid (unit : List (Heard Value)) : Type 0 where
  pub x : IsCoordinate 3 unit
  pub y : IsCoordinate 4 unit
  pub turn : is_turn (sort_at 5 (map heard_token unit)) ≡ true
  pub along : is_across (sort_at 5 (map heard_token unit)) ≡ false
  pub count : the sorts.Do (sort_at 6 (map heard_token unit)) ≡ true → IsNumber Positive (text_at 7 (map heard_token unit)) (said_number 7 unit)
  pub step : the sorts.Step (sort_at 10 (map heard_token unit)) ≡ true → IsNumber NotNegative (text_at 11 (map heard_token unit)) (said_number 11 unit)

pub row_said : (units : List (List Token)) (unit : List (Heard Value)) → IsWhole units unit → is_row (map heard_token unit) ≡ true → RowSaid unit
row_said units unit w is =
    let words = map heard_token unit in
    let same = length-map unit heard_token in
    let t = both (nat_lt 6 (length words)) (the sorts.Row (sort_at 0 words)) is in
    let long : 6 < length words = more_count 6 (length words) t.0 in
    let starts = the_is sorts.Row (sort_at 0 words) t.1 in
    let row : RowWords (section_of units) words = row_in (section_of units) words (shaped sorts.Row (longer 6) (section_of units) words starts t.0 w.taken.matches) in
    let near : 5 < length words = omega arith in
    record {
      x = number_in units unit w places.Top sorts.Row 3 Any (omega (arith, same, long)) row.top starts refl;
      y = number_in units unit w places.Top sorts.Row 4 Any (omega (arith, same, long)) row.top starts refl;
      turn = row.turn;
      along = not_true (is_across (sort_at 5 words)) (λ across. none_in units unit w places.Top sorts.Row 5 questions.RowTurn near row.top starts refl kinds.RowForm
          (refl, subst (λ z. is_across z ≡ true) (sym (ap sort_or (last_taken words 5 near))) across));
      count = λ h. number_in units unit w places.Top sorts.Row 7 Positive (omega (arith, same, row.counts h)) row.top starts refl;
      step = λ h. number_in units unit w places.Top sorts.Row 11 NotNegative (omega (arith, same, row.steps h)) row.top starts refl;
    }

pub count_says : (a b : Bool) (unit : List (Heard Value)) (n : ℤ) → a ≡ b → n ≡ count_said a unit →
    (b ≡ true → IsNumber Positive (text_at 7 (map heard_token unit)) (said_number 7 unit)) → SaysCount b (map heard_token unit) (to_z w64 (of_z w64 n))
count_says true true unit n e is said = read_as Positive (text_at 7 (map heard_token unit)) (text_at 7 (map heard_token unit)) n refl (subst (λ z. IsNumber Positive (text_at 7 (map heard_token unit)) z) (sym is) (said refl))
count_says false false unit n e is said = ap (λ z. to_z w64 (of_z w64 z)) is
count_says true false unit n e is said = absurd (cc)
count_says false true unit n e is said = absurd (cc)

pub step_says : (a b : Bool) (unit : List (Heard Value)) (step : Option ℤ) → a ≡ b → step ≡ step_said a unit →
    (b ≡ true → IsNumber NotNegative (text_at 11 (map heard_token unit)) (said_number 11 unit)) → SaysStep b (map heard_token unit) step
step_says true true unit step e is said = subst (λ z. SaysStep true (map heard_token unit) z) (sym is) (said refl)
step_says false false unit step e is said = subst (λ z. SaysStep false (map heard_token unit) z) (sym is) tt
step_says true false unit step e is said = absurd (cc)
step_says false true unit step e is said = absurd (cc)

-- ## orientations

pub turn_says : (sort : Sort) → is_turn sort ≡ true → orient_of sort ≡ Some (turn_of sort)
turn_says sorts.N h = refl
turn_says sorts.S h = refl
turn_says sorts.W h = refl
turn_says sorts.E h = refl
turn_says sorts.FN h = refl
turn_says sorts.FS h = refl
turn_says sorts.FW h = refl
turn_says sorts.FE h = refl
turn_says sort h = absurd (cc)

pub upright_says : (sort : Sort) → is_turn sort ≡ true → is_across sort ≡ false → upright sort ≡ Some (turn_of sort)
upright_says sorts.N h k = refl
upright_says sorts.S h k = refl
upright_says sorts.FN h k = refl
upright_says sorts.FS h k = refl
upright_says sort h k = absurd (cc)
