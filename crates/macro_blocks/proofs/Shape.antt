-- What the words of a unit say of a RECT, by the section's pattern.
use Rattle.std.proofs.Common.{◌≡◌, Bool, true, false, ◌&&◌, ◌||◌, List, [], ◌∷◌, map, refl, subst}
use Rattle.lef_cells.specs.Laws.Shape.{may, may-be}
use Rattle.macro_blocks.specs.declared.section.Section.{Section}
use Rattle.macro_blocks.specs.declared.section.Section.TheVariants as places
use Rattle.macro_blocks.specs.declared.sort.Sort.{Sort}
use Rattle.macro_blocks.specs.declared.sort.Sort.TheVariants.{Rect, Semicolon, Bracket, TextEnd}
use Rattle.macro_blocks.specs.declared.value.Value.{Value}
use Rattle.macro_blocks.specs.Rule.{is_number, goes_on, pattern}
use Rattle.macro_blocks.specs.Sort.{sort_of, the}
use Rattle.macro_blocks.specs.inside.Value.{SaysSecond, IsPlace, ArePlaces, AreWhole, says_in}
use Rattle.reading.specs.declared.word.Heard.{Heard}
use Rattle.reading.specs.Grammar.{AreHeard}
use Rattle.reading.specs.Pattern.{Matches}
use Rattle.reading.specs.Word.{heard_token}

two : (b c : Bool) → (b && c) ≡ true → (b ≡ true) × (c ≡ true)
two true true h = (refl, refl)
two true false h = (refl, h)
two false c h = absurd (let t : false ≡ true = h in cc)

alone : (b : Bool) → (b || false) ≡ true → b ≡ true
alone true h = refl
alone false h = h

is_the_rect : (s : Sort) → the Rect s ≡ true → s ≡ Rect
is_the_rect Rect h = refl
is_the_rect s h = absurd (let t : false ≡ true = h in cc)

-- A word with which a RECT goes on stands for a number.
goes_number : (s : Sort) → goes_on s ≡ true → is_number s ≡ true
goes_number Semicolon h = h
goes_number Bracket h = h
goes_number TextEnd h = h
goes_number s h = refl

-- A unit of three words and more after a LAYER is a RECT.
begins_rect : (s a b : Sort) (sorts : List Sort) → may (pattern places.Layered) (s ∷ a ∷ b ∷ sorts) ≡ true → s ≡ Rect
begins_rect s a b [] h = is_the_rect s (two _ _ (alone _ h)).1
begins_rect s a b (c ∷ sorts) h = is_the_rect s (two _ _ (alone _ h)).1

whole : (s a b c d e : Sort) → may (pattern places.Layered) (s ∷ a ∷ b ∷ c ∷ d ∷ e ∷ []) ≡ true →
    (is_number a ≡ true) × (is_number b ≡ true) × (is_number c ≡ true) × (is_number d ≡ true)
whole s a b c d e h =
    let one = two _ _ (two _ _ (alone _ h)).0 in
    let other = two _ _ one.0 in
    let third = two _ _ other.0 in
    let fourth = two _ _ third.0 in
    (goes_number a one.1, goes_number b other.1, goes_number c third.1, goes_number d fourth.1)

pub layered_rect : (x a b : Heard Value) (more : List (Heard Value)) → Matches sort_of (pattern places.Layered) (map heard_token (x ∷ a ∷ b ∷ more)) →
    sort_of (heard_token x) ≡ Rect
layered_rect x a b more h =
    begins_rect (sort_of (heard_token x)) (sort_of (heard_token a)) (sort_of (heard_token b)) (map sort_of (map heard_token more))
    (may-be sort_of (pattern places.Layered) (map heard_token (x ∷ a ∷ b ∷ more)) h)

pub layered_whole : (unit : List (Heard Value)) → Matches sort_of (pattern places.Layered) (map heard_token unit) → AreWhole unit
layered_whole (x ∷ a ∷ b ∷ c ∷ d ∷ stop ∷ []) h = whole _ _ _ _ _ _ (may-be sort_of (pattern places.Layered) (map heard_token (x ∷ a ∷ b ∷ c ∷ d ∷ stop ∷ [])) h)
layered_whole unit h = tt

-- The second word of a RECT says a number.
second_place : (x a : Heard Value) → sort_of (heard_token x) ≡ Rect → SaysSecond places.Layered (sort_of (heard_token x)) (heard_token a) a.value → IsPlace a
second_place x a rect h = subst (λ z. SaysSecond places.Layered z (heard_token a) a.value) rect h

pub layered_places : (x a b : Heard Value) (more : List (Heard Value)) → sort_of (heard_token x) ≡ Rect →
    AreHeard (says_in places.Layered) [] (x ∷ a ∷ b ∷ more) → ArePlaces (x ∷ a ∷ b ∷ more)
layered_places x a b [] rect h = (second_place x a rect h.1.0, h.1.1.0)
layered_places x a b (c ∷ []) rect h = (second_place x a rect h.1.0, h.1.1.0, h.1.1.1.0)
layered_places x a b (c ∷ d ∷ []) rect h = (second_place x a rect h.1.0, h.1.1.0, h.1.1.1.0, h.1.1.1.1.0)
layered_places x a b (c ∷ d ∷ stop ∷ []) rect h = (second_place x a rect h.1.0, h.1.1.0, h.1.1.1.0, h.1.1.1.1.0)
layered_places x a b (c ∷ d ∷ e ∷ f ∷ more) rect h = tt
