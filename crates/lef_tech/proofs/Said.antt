-- What whole units say, by the numbers that were heard.
use Rattle.std.proofs.Common.{◌≡◌, ℕ, suc, ℤ, pos, negsuc, ◌≤ℤ◌, ◌<ℤ◌, List, [], ◌∷◌, map, Option, Ok, refl, sym, subst, arith, to_z, of_z}
use Rattle.std.specs.Prelude.{unsigned_abs}
use Rattle.std.specs.Int.{w64}
use Rattle.std.proofs.lemmas.Int.{ints}
use Rattle.lef_tech.specs.declared.layer.LayerRef.{LayerRef}
use Rattle.lef_tech.specs.declared.number.Quantity.{Quantity}
use Rattle.lef_tech.specs.declared.number.Quantity.TheVariants.{Length, Corner, Resistance, WireDensity, CutDensity, Area, Microns}
use Rattle.lef_tech.specs.declared.section.Section.{Section}
use Rattle.lef_tech.specs.declared.section.Section.TheVariants as sections
use Rattle.lef_tech.specs.declared.shape.Shape.TheVariants.{One, Two, Three, Four, Five, Six, Other}
use Rattle.lef_tech.specs.declared.sort.Sort.{Sort}
use Rattle.lef_tech.specs.declared.sort.Sort.TheVariants as sorts
use Rattle.lef_tech.specs.declared.value.Value.{Value}
use Rattle.lef_tech.specs.Number.{place_of}
use Rattle.lef_tech.specs.Question.{ask_point, ask_value, ask_wire_three, ask_wire_four, ask_cut_three, ask_cut_four, ask_wire_part_two, ask_wire_part_three, ask_wire_part_four, ask_cut_part_two, ask_corner, ask_cut_part_four}
use Rattle.lef_tech.specs.Shape.{shape_in, text_at}
use Rattle.lef_tech.specs.Sort.{sort_of}
use Rattle.lef_tech.specs.Statement.{Saying, Plain, Named, Of, Alone, OfTwo, OfCorners, say_head, say_point, say_value, say_wire_three, say_wire_four, say_cut_three, say_cut_four, say_wire_part, say_cut_part, saying, IsNatural, Says}
use Rattle.lef_tech.specs.inside.Value.{IsText, SaysLast, SaysUsed, SaysIn, number_at, natural_at, told_by}
use Rattle.lef_tech.proofs.Numbers.{kept}
use Rattle.number_place.specs.declared.place.NumberPlace.{NumberPlace}
use Rattle.number_place.specs.Place.{IsNumberAt, HasSign}
use Rattle.reading.specs.declared.word.Heard.{Heard}
use Rattle.reading.specs.Grammar.{AreHeard}
use Rattle.reading.specs.Word.{heard_token}

-- ## numbers

-- A value of a place has its sign.
abbrev pub Signed : Type 0
Signed = (place : NumberPlace) (text : List ℕ) (value : ℤ) → IsNumberAt place text (Ok value) → HasSign place.sign value

-- A number of this kind is not below 0.
abbrev pub Unsigned : Quantity → Type 0
Unsigned Corner = ⊥
Unsigned _ = Unit {0}

above : (v : ℤ) → pos 0 <ℤ v → pos 0 ≤ℤ v
above v h = omega (arith, ints)

not_below : Signed → (quantity : Quantity) → Unsigned quantity → (text : List ℕ) (v : ℤ) → IsText quantity text v → pos 0 ≤ℤ v
not_below signed Length u text v h = signed (place_of Length) text v h
not_below signed Corner u text v h = absurd u
not_below signed Resistance u text v h = signed (place_of Resistance) text v h
not_below signed WireDensity u text v h = signed (place_of WireDensity) text v h
not_below signed CutDensity u text v h = signed (place_of CutDensity) text v h
not_below signed Area u text v h = signed (place_of Area) text v h
not_below signed Microns u text v h = above v (signed (place_of Microns) text v h)

natural_is : (v : ℤ) → pos 0 ≤ℤ v → v ≡ pos (unsigned_abs v)
natural_is (pos n) h = refl
natural_is (negsuc n) h = absurd (omega (arith, ints))

natural_text : Signed → (quantity : Quantity) → Unsigned quantity → (text : List ℕ) (v : ℤ) → IsText quantity text v → IsNatural quantity text (unsigned_abs v)
natural_text signed quantity u text v h = subst (λ z. IsText quantity text z) (natural_is v (not_below signed quantity u text v h)) h

-- A number is that of its text as the machine keeps it.
kept_text : (quantity : Quantity) (text : List ℕ) (v : ℤ) → IsText quantity text v → IsText quantity text (to_z w64 (of_z w64 v))
kept_text quantity text v h = subst (λ z. IsText quantity text z) (sym (kept quantity text v h)) h

-- ## what was asked

-- The words of a saying have said their numbers.
abbrev IsAsked : List (Heard Value) → Saying → Type 0
IsAsked unit (Of quantity at make) = Unsigned quantity × IsText quantity (text_at (map heard_token unit) at) (number_at unit at)
IsAsked unit (Alone quantity at make) = Unsigned quantity × IsText quantity (text_at (map heard_token unit) at) (number_at unit (suc at))
IsAsked unit (OfTwo quantity a b make) =
    Unsigned quantity × IsText quantity (text_at (map heard_token unit) a) (number_at unit a)
    × IsText quantity (text_at (map heard_token unit) b) (number_at unit b)
IsAsked unit OfCorners =
    IsText Corner (text_at (map heard_token unit) 1) (number_at unit 1) × IsText Corner (text_at (map heard_token unit) 2) (number_at unit 2)
    × IsText Corner (text_at (map heard_token unit) 3) (number_at unit 3) × IsText Corner (text_at (map heard_token unit) 4) (number_at unit 4)
IsAsked unit (Plain statement) = Unit {0}
IsAsked unit (Named make) = Unit {0}

told_said : Signed → (unit : List (Heard Value)) (says : Saying) → IsAsked unit says → Says (map heard_token unit) says (told_by unit says)
told_said signed unit (Plain statement) h = refl
told_said signed unit (Named make) h = refl
told_said signed unit (Of quantity at make) h =
    (natural_at unit at, natural_text signed quantity h.0 (text_at (map heard_token unit) at) (number_at unit at) h.1, refl)
told_said signed unit (Alone quantity at make) h =
    (natural_at unit (suc at), natural_text signed quantity h.0 (text_at (map heard_token unit) at) (number_at unit (suc at)) h.1, refl)
told_said signed unit (OfTwo quantity a b make) h = (
  natural_at unit a,
  natural_at unit b,
  natural_text signed quantity h.0 (text_at (map heard_token unit) a) (number_at unit a) h.1,
  natural_text signed quantity h.0 (text_at (map heard_token unit) b) (number_at unit b) h.2,
  refl,
)
told_said signed unit OfCorners h = (
  _,
  _,
  (number_at unit 1, number_at unit 3, h.0, h.2, refl),
  (number_at unit 2, number_at unit 4, h.1, h.3, refl),
  refl,
)

-- ## units by their lengths

point_asked : (s : Sort) (points : Quantity) (a : Heard Value) → Unsigned points → SaysLast (ask_point points s) a.word.text.now a.value.number → IsAsked (a ∷ []) (say_point points s)
point_asked sorts.Semicolon points a u h = tt
point_asked s points a u h = (u, kept_text points a.word.text.now a.value.number h)

entry_asked : (s : Sort) (values : Quantity) (a : Heard Value) → Unsigned values → SaysLast (ask_value values s) a.word.text.now a.value.number → IsAsked (a ∷ []) (say_value values s)
entry_asked sorts.Semicolon values a u h = tt
entry_asked s values a u h = (u, kept_text values a.word.text.now a.value.number h)

one_asked : (section : Section) (reference : Option LayerRef) (a : Heard Value) → AreHeard (SaysIn section) [] (a ∷ []) → IsAsked (a ∷ []) (saying section reference (One (sort_of (heard_token a))))
one_asked sections.WireTable reference a h = point_asked (sort_of (heard_token a)) Length a tt h.0.1
one_asked sections.CutTable reference a h = point_asked (sort_of (heard_token a)) Area a tt h.0.1
one_asked sections.WireValues reference a h = entry_asked (sort_of (heard_token a)) WireDensity a tt h.0.1
one_asked sections.CutValues reference a h = entry_asked (sort_of (heard_token a)) CutDensity a tt h.0.1
one_asked section reference a h = tt

head_asked : (s : Sort) (unit : List (Heard Value)) → IsAsked unit (say_head s)
head_asked sorts.Layer unit = tt
head_asked sorts.ViaRule unit = tt
head_asked s unit = tt

two_asked : (section : Section) (reference : Option LayerRef) (unit : List (Heard Value)) (s t : Sort) → IsAsked unit (saying section reference (Two s t))
two_asked sections.Top reference unit s t = head_asked s unit
two_asked section reference unit s t = tt

wire_three : (s t p : Sort) (a b c : Heard Value) → SaysUsed (ask_wire_three s p) b.word.text.now c.value.number → IsAsked (a ∷ b ∷ c ∷ []) (say_wire_three s t p)
wire_three sorts.Direction t p a b c h = tt
wire_three sorts.Spacing t sorts.Semicolon a b c h = (tt, kept_text Length b.word.text.now c.value.number h)
wire_three sorts.Spacing t p a b c h = tt
wire_three s t p a b c h = tt

cut_three : (s p : Sort) (a b c : Heard Value) → SaysUsed (ask_cut_three s p) b.word.text.now c.value.number → IsAsked (a ∷ b ∷ c ∷ []) (say_cut_three s p)
cut_three sorts.Resistance sorts.Semicolon a b c h = (tt, kept_text Resistance b.word.text.now c.value.number h)
cut_three sorts.Resistance p a b c h = tt
cut_three s p a b c h = tt

part_three : (reference : Option LayerRef) (s t p : Sort) (a b c : Heard Value) → SaysLast (ask_cut_part_two s) b.word.text.now b.value.number →
    IsAsked (a ∷ b ∷ c ∷ []) (say_cut_part reference (Three s t p))
part_three reference sorts.Layer t p a b c h = tt
part_three reference sorts.Resistance t p a b c h = (tt, kept_text Resistance b.word.text.now b.value.number h)
part_three reference s t p a b c h = tt

three_asked : (section : Section) (reference : Option LayerRef) (a b c : Heard Value) → AreHeard (SaysIn section) [] (a ∷ b ∷ c ∷ []) →
    IsAsked (a ∷ b ∷ c ∷ []) (saying section reference (Three (sort_of (heard_token a)) (sort_of (heard_token b)) (sort_of (heard_token c))))
three_asked sections.Undirected reference a b c h = wire_three (sort_of (heard_token a)) (sort_of (heard_token b)) (sort_of (heard_token c)) a b c h.1.1.0.1
three_asked sections.Directed reference a b c h = wire_three (sort_of (heard_token a)) (sort_of (heard_token b)) (sort_of (heard_token c)) a b c h.1.1.0.1
three_asked sections.Cut reference a b c h = cut_three (sort_of (heard_token a)) (sort_of (heard_token c)) a b c h.1.1.0.1
three_asked sections.WireTable reference a b c h = (tt, kept_text WireDensity c.word.text.now c.value.number h.1.1.0.0.1)
three_asked sections.CutTable reference a b c h = (tt, kept_text CutDensity c.word.text.now c.value.number h.1.1.0.0.1)
three_asked sections.CutPart reference a b c h = part_three reference (sort_of (heard_token a)) (sort_of (heard_token b)) (sort_of (heard_token c)) a b c h.1.0.0.1
three_asked section reference a b c h = tt

wire_four : (s t p : Sort) (a b c d : Heard Value) → SaysLast (ask_wire_three s t) c.word.text.now c.value.number → SaysLast (ask_wire_four s t p) d.word.text.now d.value.number →
    SaysUsed (ask_wire_four s t p) c.word.text.now d.value.number → IsAsked (a ∷ b ∷ c ∷ d ∷ []) (say_wire_four s t p)
wire_four sorts.Resistance t sorts.Semicolon a b c d h k u = (tt, kept_text Resistance c.word.text.now d.value.number u)
wire_four sorts.Resistance t p a b c d h k u = tt
wire_four sorts.Current sorts.Width p a b c d h k u = (tt, kept_text Length d.word.text.now d.value.number k)
wire_four sorts.Current t p a b c d h k u = (tt, kept_text WireDensity c.word.text.now c.value.number h)
wire_four s t p a b c d h k u = tt

cut_four : (s t : Sort) (a b c d : Heard Value) → SaysLast (ask_cut_three s t) c.word.text.now c.value.number → SaysLast (ask_cut_four s t) d.word.text.now d.value.number →
    IsAsked (a ∷ b ∷ c ∷ d ∷ []) (say_cut_four s t)
cut_four sorts.Current sorts.CutArea a b c d h k = (tt, kept_text Area d.word.text.now d.value.number k)
cut_four sorts.Current t a b c d h k = (tt, kept_text CutDensity c.word.text.now c.value.number h)
cut_four s t a b c d h k = tt

part_four : (reference : Option LayerRef) (s t p q : Sort) (a b c d : Heard Value) → SaysLast (ask_wire_part_two s) b.word.text.now b.value.number →
    SaysLast (ask_wire_part_three s) c.word.text.now c.value.number → IsAsked (a ∷ b ∷ c ∷ d ∷ []) (say_wire_part reference (Four s t p q))
part_four reference sorts.Enclosure t p q a b c d h k =
    (tt, kept_text Length b.word.text.now b.value.number h, kept_text Length c.word.text.now c.value.number k)
part_four reference s t p q a b c d h k = tt

four_asked : (section : Section) (reference : Option LayerRef) (a b c d : Heard Value) → AreHeard (SaysIn section) [] (a ∷ b ∷ c ∷ d ∷ []) →
    IsAsked (a ∷ b ∷ c ∷ d ∷ []) (saying section reference (Four (sort_of (heard_token a)) (sort_of (heard_token b)) (sort_of (heard_token c)) (sort_of (heard_token d))))
four_asked sections.Undirected reference a b c d h =
    wire_four (sort_of (heard_token a)) (sort_of (heard_token c)) (sort_of (heard_token d)) a b c d h.1.1.0.0.1 h.1.1.1.0.0.1 h.1.1.1.0.1
four_asked sections.Directed reference a b c d h =
    wire_four (sort_of (heard_token a)) (sort_of (heard_token c)) (sort_of (heard_token d)) a b c d h.1.1.0.0.1 h.1.1.1.0.0.1 h.1.1.1.0.1
four_asked sections.Cut reference a b c d h = cut_four (sort_of (heard_token a)) (sort_of (heard_token c)) a b c d h.1.1.0.0.1 h.1.1.1.0.0.1
four_asked sections.WirePart reference a b c d h =
    part_four reference (sort_of (heard_token a)) (sort_of (heard_token b)) (sort_of (heard_token c)) (sort_of (heard_token d)) a b c d h.1.0.0.1 h.1.1.0.0.1
four_asked section reference a b c d h = tt

width_asked : (reference : Option LayerRef) (s t p q r : Sort) (a b c d e : Heard Value) → SaysLast (ask_wire_part_two s) b.word.text.now b.value.number →
    SaysLast (ask_wire_part_four s) d.word.text.now d.value.number → IsAsked (a ∷ b ∷ c ∷ d ∷ e ∷ []) (say_wire_part reference (Five s t p q r))
width_asked reference sorts.Width t p q r a b c d e h k =
    (tt, kept_text Length b.word.text.now b.value.number h, kept_text Length d.word.text.now d.value.number k)
width_asked reference s t p q r a b c d e h k = tt

pitch_asked : (reference : Option LayerRef) (s t p q r : Sort) (a b c d e : Heard Value) → SaysLast (ask_cut_part_two s) b.word.text.now b.value.number →
    SaysLast (ask_cut_part_four s) d.word.text.now d.value.number → IsAsked (a ∷ b ∷ c ∷ d ∷ e ∷ []) (say_cut_part reference (Five s t p q r))
pitch_asked reference sorts.Spacing t p q r a b c d e h k =
    (tt, kept_text Length b.word.text.now b.value.number h, kept_text Length d.word.text.now d.value.number k)
pitch_asked reference s t p q r a b c d e h k = tt

five_asked : (section : Section) (reference : Option LayerRef) (a b c d e : Heard Value) → AreHeard (SaysIn section) [] (a ∷ b ∷ c ∷ d ∷ e ∷ []) →
    IsAsked (a ∷ b ∷ c ∷ d ∷ e ∷ []) (saying section reference
    (Five (sort_of (heard_token a)) (sort_of (heard_token b)) (sort_of (heard_token c)) (sort_of (heard_token d)) (sort_of (heard_token e))))
five_asked sections.WirePart reference a b c d e h =
    width_asked reference (sort_of (heard_token a)) (sort_of (heard_token b)) (sort_of (heard_token c)) (sort_of (heard_token d)) (sort_of (heard_token e)) a b c d e h.1.0.0.1 h.1.1.1.0.0.1
five_asked sections.CutPart reference a b c d e h =
    pitch_asked reference (sort_of (heard_token a)) (sort_of (heard_token b)) (sort_of (heard_token c)) (sort_of (heard_token d)) (sort_of (heard_token e)) a b c d e h.1.0.0.1 h.1.1.1.0.0.1
five_asked section reference a b c d e h = tt

rect_asked : (reference : Option LayerRef) (s t p q r u : Sort) (a b c d e f : Heard Value) → SaysLast (ask_cut_part_two s) b.word.text.now b.value.number →
    SaysLast (ask_corner s) c.word.text.now c.value.number → SaysLast (ask_cut_part_four s) d.word.text.now d.value.number → SaysLast (ask_corner s) e.word.text.now e.value.number →
    IsAsked (a ∷ b ∷ c ∷ d ∷ e ∷ f ∷ []) (say_cut_part reference (Six s t p q r u))
rect_asked reference sorts.Rect t p q r u a b c d e f h k l m = (
  kept_text Corner b.word.text.now b.value.number h,
  kept_text Corner c.word.text.now c.value.number k,
  kept_text Corner d.word.text.now d.value.number l,
  kept_text Corner e.word.text.now e.value.number m,
)
rect_asked reference s t p q r u a b c d e f h k l m = tt

six_asked : (section : Section) (reference : Option LayerRef) (a b c d e f : Heard Value) → AreHeard (SaysIn section) [] (a ∷ b ∷ c ∷ d ∷ e ∷ f ∷ []) →
    IsAsked (a ∷ b ∷ c ∷ d ∷ e ∷ f ∷ []) (saying section reference
    (Six (sort_of (heard_token a)) (sort_of (heard_token b)) (sort_of (heard_token c)) (sort_of (heard_token d)) (sort_of (heard_token e)) (sort_of (heard_token f))))
six_asked sections.CutPart reference a b c d e f h =
    rect_asked reference (sort_of (heard_token a)) (sort_of (heard_token b)) (sort_of (heard_token c)) (sort_of (heard_token d)) (sort_of (heard_token e)) (sort_of (heard_token f))
    a b c d e f h.1.0.0.1 h.1.1.0.0.1 h.1.1.1.0.0.1 h.1.1.1.1.0.0.1
six_asked section reference a b c d e f h = tt

other_asked : (section : Section) (reference : Option LayerRef) (unit : List (Heard Value)) → IsAsked unit (saying section reference Other)
other_asked sections.Top reference unit = tt
other_asked section reference unit = tt

unit_asked : (section : Section) (reference : Option LayerRef) (unit : List (Heard Value)) → AreHeard (SaysIn section) [] unit →
    IsAsked unit (saying section reference (shape_in (map heard_token unit)))
unit_asked section reference [] h = other_asked section reference []
unit_asked section reference (a ∷ []) h = one_asked section reference a h
unit_asked section reference (a ∷ b ∷ []) h = two_asked section reference (a ∷ b ∷ []) (sort_of (heard_token a)) (sort_of (heard_token b))
unit_asked section reference (a ∷ b ∷ c ∷ []) h = three_asked section reference a b c h
unit_asked section reference (a ∷ b ∷ c ∷ d ∷ []) h = four_asked section reference a b c d h
unit_asked section reference (a ∷ b ∷ c ∷ d ∷ e ∷ []) h = five_asked section reference a b c d e h
unit_asked section reference (a ∷ b ∷ c ∷ d ∷ e ∷ f ∷ []) h = six_asked section reference a b c d e f h
unit_asked section reference (a ∷ b ∷ c ∷ d ∷ e ∷ f ∷ g ∷ unit) h = other_asked section reference (a ∷ b ∷ c ∷ d ∷ e ∷ f ∷ g ∷ unit)

-- A whole unit says the statement with the numbers that were heard.
pub unit_said : Signed → (section : Section) (reference : Option LayerRef) (unit : List (Heard Value)) → AreHeard (SaysIn section) [] unit →
    Says (map heard_token unit) (saying section reference (shape_in (map heard_token unit))) (told_by unit (saying section reference (shape_in (map heard_token unit))))
unit_said signed section reference unit h =
    told_said signed unit (saying section reference (shape_in (map heard_token unit))) (unit_asked section reference unit h)
