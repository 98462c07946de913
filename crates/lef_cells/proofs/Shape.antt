-- Units that are of a section's pattern, by the sorts of their words.
use Rattle.std.proofs.Common.{◌≡◌, Bool, true, false, ◌&&◌, ◌||◌, List, [], ◌∷◌, map, Option, Some, None, refl, sym, ◌∙◌, ap, subst}
use Rattle.lef_cells.specs.declared.section.Section.{Section}
use Rattle.lef_cells.specs.declared.section.Section.TheVariants as places
use Rattle.lef_cells.specs.declared.sort.Sort.{Sort}
use Rattle.lef_cells.specs.declared.sort.Sort.TheVariants.{Site, Macro, End, Size, Class, Semicolon, TextEnd}
use Rattle.lef_cells.specs.Format.{format}
use Rattle.lef_cells.specs.Laws.Shape.{may, may-be}
use Rattle.lef_cells.specs.Rule.{pattern, opens}
use Rattle.lef_cells.specs.inside.Held.{is_open}
use Rattle.lef_cells.specs.Section.{section_after, section_with, section_of, standing_of}
use Rattle.lef_cells.specs.Sort.{sort_of, the}
use Rattle.lef_statements.specs.declared.passing.Passing.{Passing}
use Rattle.reading.specs.Grammar.{IsTaken}
use Rattle.reading.specs.Pattern.{Matches}
use Rattle.reading.specs.Word.{Token, last_of}

-- What is passed over is taken word by word.
in_place : (section : Section) (passing : Option Passing) (s t : Sort) (sorts : List Sort) →
    may (pattern (section_with section passing)) (s ∷ t ∷ sorts) ≡ true → may (pattern section) (s ∷ t ∷ sorts) ≡ true
in_place section None s t sorts h = h
in_place section (Some passing) s t sorts h = absurd (let k : false ≡ true = h in cc)

-- A unit of more than one word is of the pattern of the section that is open.
pub stands : (section : Section) (units : List (List Token)) (first second : Token) (words : List Token) → section ≡ (standing_of units).section →
    IsTaken format units (first ∷ second ∷ words) → may (pattern section) (map sort_of (first ∷ second ∷ words)) ≡ true
stands section units first second words at taken =
    subst (λ z. may (pattern z) (map sort_of (first ∷ second ∷ words)) ≡ true) (sym at)
    (in_place (standing_of units).section (standing_of units).passing (sort_of first) (sort_of second) (map sort_of words)
    (may-be sort_of (pattern (section_of units)) (first ∷ second ∷ words) taken.matches))

-- ## where units of two words stand, and of five

-- The second word is told apart so that both tests of a pair are made.
site_by : (section : Section) (t : Sort) → may (pattern section) (Site ∷ t ∷ []) ≡ true → section ≡ places.Top
site_by places.Top t k = refl
site_by section Semicolon k = absurd (let e : false ≡ true = k in cc)
site_by section t k = absurd (let e : false ≡ true = k in cc)

macro_by : (section : Section) (t : Sort) → may (pattern section) (Macro ∷ t ∷ []) ≡ true → section ≡ places.Top
macro_by places.Top t k = refl
macro_by section Semicolon k = absurd (let e : false ≡ true = k in cc)
macro_by section t k = absurd (let e : false ≡ true = k in cc)

head_by : (section : Section) (s t : Sort) → opens s ≡ true → may (pattern section) (s ∷ t ∷ []) ≡ true → section ≡ places.Top
head_by section Site t h k = site_by section t k
head_by section Macro t h k = macro_by section t k
head_by section s t h k = absurd (let e : false ≡ true = h in cc)

end_by : (section : Section) (t : Sort) → (section ≡ places.SizedSite → ⊥) → (section ≡ places.SizedMacro → ⊥) →
    may (pattern section) (End ∷ t ∷ []) ≡ true → section ≡ places.Top
end_by places.Top t a b k = refl
end_by places.SizedSite t a b k = absurd (a refl)
end_by places.SizedMacro t a b k = absurd (b refl)
end_by section Semicolon a b k = absurd (let e : false ≡ true = k in cc)
end_by section t a b k = absurd (let e : false ≡ true = k in cc)

class_by : (section : Section) (t : Sort) → may (pattern section) (Class ∷ t ∷ []) ≡ true → is_open section ≡ true
class_by places.Macro t k = refl
class_by places.SizedMacro t k = refl
class_by section Semicolon k = absurd (let e : false ≡ true = k in cc)
class_by section t k = absurd (let e : false ≡ true = k in cc)

last_is : (b c : Bool) → ((b && c) || false) ≡ true → c ≡ true
last_is true true h = refl
last_is true false h = h
last_is false c h = absurd (let e : false ≡ true = h in cc)

size_by : (section : Section) (s a b c d : Sort) → may (pattern section) (s ∷ a ∷ b ∷ c ∷ d ∷ []) ≡ true → (is_open section ≡ true) × (the Size s ≡ true)
size_by places.Site s a b c d k = (refl, last_is _ _ k)
size_by places.SizedSite s a b c d k = (refl, last_is _ _ k)
size_by places.Macro s a b c d k = (refl, last_is _ _ k)
size_by places.SizedMacro s a b c d k = (refl, last_is _ _ k)
size_by section s a b c d k = absurd (let e : false ≡ true = k in cc)

-- A site or a macro opens in the library.
pub head_there : (section : Section) (units : List (List Token)) (first second : Token) → section ≡ (standing_of units).section →
    IsTaken format units (first ∷ second ∷ []) → opens (sort_of first) ≡ true → section ≡ places.Top
head_there section units first second at taken is = head_by section _ _ is (stands section units first second [] at taken)

-- Where no site and no macro ends, the library does.
pub end_there : (section : Section) (units : List (List Token)) (first second : Token) → section ≡ (standing_of units).section →
    IsTaken format units (first ∷ second ∷ []) → sort_of first ≡ End → (section ≡ places.SizedSite → ⊥) → (section ≡ places.SizedMacro → ⊥) →
    section ≡ places.Top
end_there section units first second at taken is a b =
    end_by section (sort_of second) a b
    (subst (λ z. may (pattern section) (z ∷ sort_of second ∷ []) ≡ true) is (stands section units first second [] at taken))

pub class_there : (section : Section) (units : List (List Token)) (first second : Token) → section ≡ (standing_of units).section →
    IsTaken format units (first ∷ second ∷ []) → sort_of first ≡ Class → is_open section ≡ true
class_there section units first second at taken is =
    class_by section (sort_of second)
    (subst (λ z. may (pattern section) (z ∷ sort_of second ∷ []) ≡ true) is (stands section units first second [] at taken))

pub size_there : (section : Section) (units : List (List Token)) (first width by height stop : Token) → section ≡ (standing_of units).section →
    IsTaken format units (first ∷ width ∷ by ∷ height ∷ stop ∷ []) → (is_open section ≡ true) × (the Size (sort_of first) ≡ true)
size_there section units first width by height stop at taken =
    size_by section _ _ _ _ _ (stands section units first width (by ∷ height ∷ stop ∷ []) at taken)

-- ## a unit that ends with the end of the text

shut_one : (section : Section) (passing : Option Passing) → may (pattern (section_with section passing)) (TextEnd ∷ []) ≡ true → is_open section ≡ false
shut_one places.Top None h = refl
shut_one places.Passed None h = refl
shut_one places.Ended None h = refl
shut_one section None h = absurd (let t : false ≡ true = h in cc)
shut_one section (Some passing) h = absurd (let t : false ≡ true = h in cc)

no_two : (section : Section) (s : Sort) → may (pattern section) (s ∷ TextEnd ∷ []) ≡ true → ⊥
no_two places.Top s h = let t : false ≡ true = h in cc
no_two section s h = let t : false ≡ true = h in cc

no_three : (section : Section) (s a b : Sort) → may (pattern section) (s ∷ a ∷ b ∷ []) ≡ true → ⊥
no_three places.Top s a b h = let t : false ≡ true = h in cc
no_three section s a b h = let t : false ≡ true = h in cc

no_four : (section : Section) (s a b c : Sort) → may (pattern section) (s ∷ a ∷ b ∷ c ∷ []) ≡ true → ⊥
no_four places.Top s a b c h = let t : false ≡ true = h in cc
no_four section s a b c h = let t : false ≡ true = h in cc

no_five : (section : Section) (s a b c : Sort) → may (pattern section) (s ∷ a ∷ b ∷ c ∷ TextEnd ∷ []) ≡ true → ⊥
no_five places.Top s a b c h = let t : false ≡ true = h in cc
no_five section s a b c h = let t : false ≡ true = h in cc

no_more : (section : Section) (s a b c d e : Sort) (sorts : List Sort) → may (pattern section) (s ∷ a ∷ b ∷ c ∷ d ∷ e ∷ sorts) ≡ true → ⊥
no_more places.Top s a b c d e sorts h = let t : false ≡ true = h in cc
no_more section s a b c d e sorts h = let t : false ≡ true = h in cc

some_is : (a b : Token) → Some a ≡ Some b → a ≡ b
some_is a b h = cc

-- Only in the library and after its end a unit ends with the end of the text.
pub shut : (section : Section) (passing : Option Passing) (unit : List Token) (end : Token) → Matches sort_of (pattern (section_with section passing)) unit →
    last_of unit ≡ Some end → sort_of end ≡ TextEnd → is_open (section_after section unit) ≡ false
shut section passing unit end h last is = by_words unit last (may-be sort_of (pattern (section_with section passing)) unit h)
  where
    here : Section
    here = section_with section passing

    sort_is : (w : Token) → Some w ≡ Some end → sort_of w ≡ TextEnd
    sort_is w e = ap sort_of (some_is w end e) ∙ is

    by_words : (words : List Token) → last_of words ≡ Some end → may (pattern here) (map sort_of words) ≡ true → is_open (section_after section words) ≡ false
    by_words [] e k = absurd (let t : None ≡ Some end = e in cc)
    by_words (a ∷ []) e k = shut_one section passing (subst (λ z. may (pattern here) (z ∷ []) ≡ true) (sort_is a e) k)
    by_words (a ∷ b ∷ []) e k = absurd (no_two here (sort_of a) (subst (λ z. may (pattern here) (sort_of a ∷ z ∷ []) ≡ true) (sort_is b e) k))
    by_words (a ∷ b ∷ c ∷ []) e k = absurd (no_three here _ _ _ k)
    by_words (a ∷ b ∷ c ∷ d ∷ []) e k = absurd (no_four here _ _ _ _ k)
    by_words (a ∷ b ∷ c ∷ d ∷ f ∷ []) e k =
        absurd (no_five here (sort_of a) (sort_of b) (sort_of c) (sort_of d)
        (subst (λ z. may (pattern here) (sort_of a ∷ sort_of b ∷ sort_of c ∷ sort_of d ∷ z ∷ []) ≡ true) (sort_is f e) k))
    by_words (a ∷ b ∷ c ∷ d ∷ f ∷ g ∷ words) e k = absurd (no_more here _ _ _ _ _ _ _ k)
