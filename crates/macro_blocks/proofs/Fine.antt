-- Where it is known what the words of a pin or obstructions are for, all their numbers are coordinates: so it stays with one
-- more unit.
use Rattle.std.proofs.Common.{◌≡◌, Bool, true, false, if◌then◌else◌, List, [], ◌∷◌, ◌++◌, map, Option, Some, None, refl, sym, subst}
use Rattle.macro_blocks.specs.declared.error.Shown.{Shown}
use Rattle.macro_blocks.specs.declared.error.Shown.TheVariants as kinds
use Rattle.macro_blocks.specs.declared.number.Bad.{Bad}
use Rattle.macro_blocks.specs.declared.section.Section.{Section}
use Rattle.macro_blocks.specs.declared.section.Section.TheVariants as places
use Rattle.macro_blocks.specs.declared.sort.Sort.{Sort}
use Rattle.macro_blocks.specs.declared.sort.Sort.TheVariants as sorts
use Rattle.macro_blocks.specs.declared.standing.OpenPin.{OpenPin}
use Rattle.macro_blocks.specs.declared.standing.Standing.{Standing}
use Rattle.macro_blocks.specs.declared.value.Value.{Value}
use Rattle.macro_blocks.specs.Fault.{AreCoordinates, CornerFault, UseFault, is_supply, SecondFault}
use Rattle.macro_blocks.specs.Format.{format}
use Rattle.macro_blocks.specs.Record.{Said, said_by, act_of, act_of_one, act_of_two, act_of_more, act_of_pin, ends_pin, ends_port, noted_in, heard_of}
use Rattle.macro_blocks.specs.Rule.{is_name, pattern}
use Rattle.macro_blocks.specs.Sort.{sort_of}
use Rattle.macro_blocks.specs.Standing.{section_in, section_with, standing_after, is_own, is_told, is_known, is_rect, after_one, after_two, after_more, after_words, after_top, after_macro, after_macro_word, after_pin, after_pin_word, after_port, after_port_word, after_use, after_other_use, after_unfit}
use Rattle.macro_blocks.specs.inside.Fault.{IsFineIn}
use Rattle.macro_blocks.specs.inside.Held.{IsBad, is_inside, AreFine, IsReady}
use Rattle.macro_blocks.specs.inside.Value.{SaysSecond, ArePlaces, says_in}
use Rattle.macro_blocks.proofs.Numbered.{placed_fine}
use Rattle.macro_blocks.proofs.Shape.{layered_rect, layered_whole, layered_places}
use Rattle.lef_statements.specs.declared.passing.Passing.{Passing}
use Rattle.lef_statements.specs.declared.passing.Passing.TheVariants.{Statement}
use Rattle.reading.specs.declared.word.Heard.{Heard}
use Rattle.reading.specs.Grammar.{AreHeard, NoneShows}
use Rattle.reading.specs.Pattern.{Matches}
use Rattle.reading.specs.Word.{Token, heard_token}

no : false ≡ true → ⊥
no h = cc

-- None of the words shows a fault, after those before them.
abbrev AllFine : Section → Standing → List Token → List Token → List Token → Type 0
AllFine section there numbers before [] = Unit {0}
AllFine section there numbers before (w ∷ words) = IsFineIn section there numbers (before ++ w ∷ []) × AllFine section there numbers (before ++ w ∷ []) words

all_fine : (units : List (List Token)) (before words : List Token) → NoneShows format units before words →
    AllFine (section_in (heard_of units).standing) (heard_of units).standing (heard_of units).said.numbers before words
all_fine units before [] h = tt
all_fine units before (w ∷ words) h = (h.0, all_fine units (before ++ w ∷ []) words h.1)

-- ## acts that note no number

port_kept : (pin : Option OpenPin) (there : Standing) (unit : List Token) (said : Said) → AreCoordinates said.numbers →
    AreCoordinates (said_by (ends_port pin) there unit said).numbers
port_kept None there unit said h = h
port_kept (Some pin) there unit said h = h

ends_kept : (power : Option Bool) (own : Bool) (there : Standing) (unit : List Token) (said : Said) → AreCoordinates said.numbers →
    AreCoordinates (said_by (ends_pin power own) there unit said).numbers
ends_kept (Some power) true there unit said h = h
ends_kept (Some power) false there unit said h = h
ends_kept None own there unit said h = h

pin_kept : (pin : Option OpenPin) (word : Token) (there : Standing) (unit : List Token) (said : Said) → AreCoordinates said.numbers →
    AreCoordinates (said_by (act_of_pin pin word) there unit said).numbers
pin_kept None word there unit said h = h
pin_kept (Some pin) word there unit said h = ends_kept pin.power (is_own (Some pin) word) there unit said h

-- ## a RECT

module _ (there : Standing) (numbers : List Token) (known : is_known there.pin ≡ true) where
  no_corner : (word : Token) → ((kind : Shown) → CornerFault (is_known there.pin) word kind → ⊥) → (kind : Shown) → CornerFault true word kind → ⊥
  no_corner word fine kind h = fine kind (subst (λ z. CornerFault z word kind) (sym known) h)

  second_corner : (x a : Token) → sort_of x ≡ sorts.Rect → IsFineIn places.Layered there numbers (x ∷ a ∷ []) → (kind : Shown) → CornerFault true a kind → ⊥
  second_corner x a rect fine =
      no_corner a (λ kind h. fine (record { at = 1; kind = kind }) (refl, subst (λ z. SecondFault places.Layered there numbers z a kind) (sym rect) h))

  -- The words of a RECT that show no fault note coordinates.
  rect_fine : (x a b : Heard Value) (more : List (Heard Value)) → sort_of (heard_token x) ≡ sorts.Rect → ArePlaces (x ∷ a ∷ b ∷ more) →
      AllFine places.Layered there numbers [] (map heard_token (x ∷ a ∷ b ∷ more)) → AreCoordinates numbers →
      AreCoordinates (noted_in numbers (map heard_token (x ∷ a ∷ b ∷ more)))
  rect_fine x a b [] rect said fine h =
      let one = placed_fine numbers (heard_token a) a.value said.0 (second_corner (heard_token x) (heard_token a) rect fine.1.0) h in
      placed_fine _ (heard_token b) b.value said.1 (no_corner (heard_token b) (λ kind k. fine.1.1.0 (record { at = 2; kind = kind }) (refl, k))) one
  rect_fine x a b (c ∷ []) rect said fine h =
      let one = placed_fine numbers (heard_token a) a.value said.0 (second_corner (heard_token x) (heard_token a) rect fine.1.0) h in
      let other = placed_fine _ (heard_token b) b.value said.1 (no_corner (heard_token b) (λ kind k. fine.1.1.0 (record { at = 2; kind = kind }) (refl, k))) one in
      placed_fine _ (heard_token c) c.value said.2 (no_corner (heard_token c) (λ kind k. fine.1.1.1.0 (record { at = 3; kind = kind }) (refl, k))) other
  rect_fine x a b (c ∷ d ∷ []) rect said fine h =
      let one = placed_fine numbers (heard_token a) a.value said.0 (second_corner (heard_token x) (heard_token a) rect fine.1.0) h in
      let other = placed_fine _ (heard_token b) b.value said.1 (no_corner (heard_token b) (λ kind k. fine.1.1.0 (record { at = 2; kind = kind }) (refl, k))) one in
      let third = placed_fine _ (heard_token c) c.value said.2 (no_corner (heard_token c) (λ kind k. fine.1.1.1.0 (record { at = 3; kind = kind }) (refl, k))) other in
      placed_fine _ (heard_token d) d.value said.3 (no_corner (heard_token d) (λ kind k. fine.1.1.1.1.0 (record { at = 4; kind = kind }) (refl, k))) third
  rect_fine x a b (c ∷ d ∷ stop ∷ []) rect said fine h =
      let one = placed_fine numbers (heard_token a) a.value said.0 (second_corner (heard_token x) (heard_token a) rect fine.1.0) h in
      let other = placed_fine _ (heard_token b) b.value said.1 (no_corner (heard_token b) (λ kind k. fine.1.1.0 (record { at = 2; kind = kind }) (refl, k))) one in
      let third = placed_fine _ (heard_token c) c.value said.2 (no_corner (heard_token c) (λ kind k. fine.1.1.1.0 (record { at = 3; kind = kind }) (refl, k))) other in
      placed_fine _ (heard_token d) d.value said.3 (no_corner (heard_token d) (λ kind k. fine.1.1.1.1.0 (record { at = 4; kind = kind }) (refl, k))) third
  rect_fine x a b (c ∷ d ∷ e ∷ f ∷ more) rect said fine h = h

-- ## one more unit

-- A pin whose use is told now has only coordinates so far.
supply_fine : (bad : Option Bad) (known : Bool) (numbers : List Token) → IsBad numbers bad → (known ≡ true → AreCoordinates numbers) →
    ((kind : Shown) → UseFault true known numbers kind → ⊥) → AreCoordinates numbers
supply_fine None known numbers h fine none = h
supply_fine (Some bad) true numbers h fine none = fine refl
supply_fine (Some bad) false numbers h fine none = absurd (none (kinds.Earlier bad) (bad, h, refl))

module _ (there : Standing) (said : Said) (f : AreFine there said.numbers) where
  shut : {A : Type 0} → false ≡ true → A
  shut h = absurd (no h)

  macro_one : (sort : Sort) (unit : List Token) → AreFine (after_macro_word sort there) (said_by (act_of_one places.Macro sort there.pin) there unit said).numbers
  macro_one sorts.Obs unit = λ inside known. tt
  macro_one sort unit = f

  unfit_end : (own : Bool) → AreFine (if own then (record there { section = places.Macro }) else there) said.numbers
  unfit_end true = λ inside known. shut inside
  unfit_end false = f

  unfit_one : (last : Sort) (word : Token) → AreFine (after_unfit last word there) said.numbers
  unfit_one sorts.End word = unfit_end (is_own there.pin word)
  unfit_one sorts.Use word = λ inside known. shut inside
  unfit_one last word = f

  other_use : (known : Bool) (sort : Sort) (word : Token) → AreFine (after_other_use known sort word there) said.numbers
  other_use false sort word = λ inside known. shut inside
  other_use true sorts.Semicolon word = f
  other_use true sort word = f

  top_two : (first : Sort) (second : Token) → AreFine (after_top first second there) said.numbers
  top_two sorts.Macro second = λ inside known. shut inside
  top_two sorts.End second = λ inside known. shut inside
  top_two first second = f

  macro_two : (first : Sort) (second : Token) (unit : List Token) →
      AreFine (after_macro first second there) (said_by (act_of_two places.Macro first second there.pin) there unit said).numbers
  macro_two sorts.Pin second unit = λ inside known. tt
  macro_two first second unit = λ inside known. shut inside

  module _ (k : is_known there.pin ≡ true → AreCoordinates said.numbers) where
    pin_one : (sort : Sort) → AreFine (after_pin_word sort there) said.numbers
    pin_one sorts.Port = λ inside known. k known
    pin_one sorts.Semicolon = λ inside known. k known
    pin_one sort = f

    port_one : (sort : Sort) (unit : List Token) → AreFine (after_port_word sort there) (said_by (act_of_one places.Port sort there.pin) there unit said).numbers
    port_one sorts.End unit = λ inside known. port_kept there.pin there unit said (k known)
    port_one sorts.Semicolon unit = λ inside known. k known
    port_one sort unit = f

    layered_one : (sort : Sort) (unit : List Token) → AreFine (after_port_word sort there) (said_by (act_of_one places.Layered sort there.pin) there unit said).numbers
    layered_one sorts.End unit = λ inside known. port_kept there.pin there unit said (k known)
    layered_one sorts.Semicolon unit = λ inside known. k known
    layered_one sort unit = f

    named_two : (name : Bool) → AreFine (if name then (record there { section = places.Layered; passing = Some Statement })
        else (record there { section = places.Unfit })) said.numbers
    named_two true = λ inside known. k known
    named_two false = λ inside known. k known

    port_two : (first : Sort) (second : Token) (unit : List Token) →
        AreFine (after_port first (sort_of second) there) (said_by (act_of_two places.Port first second there.pin) there unit said).numbers
    port_two sorts.Layer second unit = named_two (is_name (sort_of second))
    port_two first second unit = λ inside known. k known

    more_by : (fits : Bool) (numbers : List Token) → (is_known there.pin ≡ true → AreCoordinates numbers) → AreFine (after_more places.Layered fits there) numbers
    more_by true numbers fine = λ inside known. fine known
    more_by false numbers fine = λ inside known. fine known

    use_by : (sort : Sort) (word : Token) (bad : Option Bad) → IsBad said.numbers bad →
        ((kind : Shown) → UseFault (is_supply sort) (is_known there.pin) said.numbers kind → ⊥) → AreFine (after_use sort word there) said.numbers
    use_by sorts.Power word bad is none = λ inside known. supply_fine bad (is_known there.pin) said.numbers is k none
    use_by sorts.Ground word bad is none = λ inside known. supply_fine bad (is_known there.pin) said.numbers is k none
    use_by sort word bad is none = other_use (is_known there.pin) sort word

    own_by : (own : Bool) (numbers : List Token) → (AreCoordinates said.numbers → AreCoordinates numbers) →
        AreFine (record there { section = if own then places.Macro else places.Unfit }) numbers
    own_by true numbers kept = λ inside known. shut inside
    own_by false numbers kept = λ inside known. kept (k known)

    pin_two : (first : Sort) (second : Token) (unit : List Token) (bad : Option Bad) → IsBad said.numbers bad →
        ((kind : Shown) → SecondFault places.Pin there said.numbers first second kind → ⊥) →
        AreFine (after_pin first second there) (said_by (act_of_two places.Pin first second there.pin) there unit said).numbers
    pin_two sorts.Use second unit bad is none = use_by (sort_of second) second bad is none
    pin_two sorts.End second unit bad is none = own_by (is_own there.pin second) _ (λ h. pin_kept there.pin second there unit said h)
    pin_two first second unit bad is none = own_by (is_own there.pin second) said.numbers (λ h. h)

    layered_two : (first : Sort) (x a : Heard Value) → SaysSecond places.Layered first (heard_token a) a.value →
        ((kind : Shown) → SecondFault places.Layered there said.numbers first (heard_token a) kind → ⊥) →
        AreFine (after_port first (sort_of (heard_token a)) there)
        (said_by (act_of_two places.Layered first (heard_token a) there.pin) there (heard_token x ∷ heard_token a ∷ []) said).numbers
    layered_two sorts.Layer x a says none = named_two (is_name (sort_of (heard_token a)))
    layered_two sorts.Rect x a says none = λ inside known.
        placed_fine said.numbers (heard_token a) a.value says (no_corner there said.numbers known (heard_token a) none) (k known)
    layered_two first x a says none = λ inside known. k known

-- A unit of one word.
fine_one : (section : Section) (there : Standing) (said : Said) (word : Token) → AreFine there said.numbers →
    (is_inside section ≡ true → is_known there.pin ≡ true → AreCoordinates said.numbers) →
    AreFine (after_one section word there) (said_by (act_of_one section (sort_of word) there.pin) there (word ∷ []) said).numbers
fine_one places.Macro there said word f k = macro_one there said f (sort_of word) (word ∷ [])
fine_one places.Pin there said word f k = pin_one there said f (k refl) (sort_of word)
fine_one places.Supplied there said word f k = λ inside known. k refl known
fine_one places.Port there said word f k = port_one there said f (k refl) (sort_of word) (word ∷ [])
fine_one places.Layered there said word f k = layered_one there said f (k refl) (sort_of word) (word ∷ [])
fine_one places.Unfit there said word f k = unfit_one there said f there.last word
fine_one section there said word f k = f

-- A unit of two words.
fine_two : (section : Section) (there : Standing) (said : Said) (x a : Heard Value) (bad : Option Bad) → IsBad said.numbers bad → AreFine there said.numbers →
    (is_inside section ≡ true → is_known there.pin ≡ true → AreCoordinates said.numbers) →
    SaysSecond section (sort_of (heard_token x)) (heard_token a) a.value →
    ((kind : Shown) → SecondFault section there said.numbers (sort_of (heard_token x)) (heard_token a) kind → ⊥) →
    AreFine (after_two section (sort_of (heard_token x)) (heard_token a) there)
    (said_by (act_of_two section (sort_of (heard_token x)) (heard_token a) there.pin) there (heard_token x ∷ heard_token a ∷ []) said).numbers
fine_two places.Top there said x a bad is f k says none = top_two there said f (sort_of (heard_token x)) (heard_token a)
fine_two places.Macro there said x a bad is f k says none = macro_two there said f (sort_of (heard_token x)) (heard_token a) _
fine_two places.Pin there said x a bad is f k says none = pin_two there said f (k refl) (sort_of (heard_token x)) (heard_token a) _ bad is none
fine_two places.Port there said x a bad is f k says none = port_two there said f (k refl) (sort_of (heard_token x)) (heard_token a) _
fine_two places.Layered there said x a bad is f k says none = layered_two there said f (k refl) (sort_of (heard_token x)) x a says none
fine_two section there said x a bad is f k says none = f

-- A longer unit.
fine_more : (section : Section) (there : Standing) (said : Said) (x a b : Heard Value) (more : List (Heard Value)) → AreFine there said.numbers →
    (is_inside section ≡ true → is_known there.pin ≡ true → AreCoordinates said.numbers) →
    AreHeard (says_in section) [] (x ∷ a ∷ b ∷ more) → Matches sort_of (pattern section) (map heard_token (x ∷ a ∷ b ∷ more)) →
    AllFine section there said.numbers [] (map heard_token (x ∷ a ∷ b ∷ more)) →
    AreFine (after_more section (is_rect (map heard_token (x ∷ a ∷ b ∷ more))) there)
    (said_by (act_of_more section) there (map heard_token (x ∷ a ∷ b ∷ more)) said).numbers
fine_more places.Layered there said x a b more f k heard matches fine =
    let rect = layered_rect x a b more matches in
    more_by there said f (k refl) (is_rect (map heard_token (x ∷ a ∷ b ∷ more))) _
    (λ known. rect_fine there said.numbers known x a b more rect (layered_places x a b more rect heard) fine (k refl known))
fine_more section there said x a b more f k heard matches fine = f

fine_in : (section : Section) (passing : Option Passing) → is_inside (section_with section passing) ≡ true → is_inside section ≡ true
fine_in section None h = h
fine_in section (Some passing) h = absurd (no h)

fine_unit : (section : Section) (there : Standing) (said : Said) (unit : List (Heard Value)) (bad : Option Bad) → IsBad said.numbers bad → AreFine there said.numbers →
    (is_inside section ≡ true → is_known there.pin ≡ true → AreCoordinates said.numbers) → AreHeard (says_in section) [] unit →
    Matches sort_of (pattern section) (map heard_token unit) → AllFine section there said.numbers [] (map heard_token unit) →
    AreFine (after_words section (map heard_token unit) there) (said_by (act_of section there.pin (map heard_token unit)) there (map heard_token unit) said).numbers
fine_unit section there said [] bad is f k heard matches fine = f
fine_unit section there said (x ∷ []) bad is f k heard matches fine = fine_one section there said (heard_token x) f k
fine_unit section there said (x ∷ a ∷ []) bad is f k heard matches fine =
    fine_two section there said x a bad is f k heard.1.0 (λ kind h. fine.1.0 (record { at = 1; kind = kind }) (refl, h))
fine_unit section there said (x ∷ a ∷ b ∷ more) bad is f k heard matches fine = fine_more section there said x a b more f k heard matches fine

pub fine_after : (units : List (List Token)) (unit : List (Heard Value)) (bad : Option Bad) → IsBad (heard_of units).said.numbers bad →
    AreFine (heard_of units).standing (heard_of units).said.numbers → AreHeard (says_in (section_in (heard_of units).standing)) [] unit →
    Matches sort_of (pattern (section_in (heard_of units).standing)) (map heard_token unit) → NoneShows format units [] (map heard_token unit) →
    AreFine (standing_after (heard_of units).standing (map heard_token unit))
    (said_by (act_of (section_in (heard_of units).standing) (heard_of units).standing.pin (map heard_token unit)) (heard_of units).standing (map heard_token unit)
    (heard_of units).said).numbers
fine_after units unit bad is f heard matches fine =
    let there = (heard_of units).standing in
    fine_unit (section_in there) there (heard_of units).said unit bad is f (λ inside. f (fine_in there.section there.passing inside)) heard matches
    (all_fine units [] (map heard_token unit) fine)

-- ## what a unit finds

ends_ready : (power : Option Bool) (own : Bool) (unit : List (Heard Value)) (said : Said) → (is_told power ≡ true → AreCoordinates said.numbers) →
    IsReady (ends_pin power own) unit said
ends_ready (Some power) true unit said h = h refl
ends_ready (Some power) false unit said h = tt
ends_ready None own unit said h = tt

pin_ready : (pin : Option OpenPin) (word : Token) (unit : List (Heard Value)) (said : Said) → (is_known pin ≡ true → AreCoordinates said.numbers) →
    IsReady (act_of_pin pin word) unit said
pin_ready None word unit said h = tt
pin_ready (Some pin) word unit said h = ends_ready pin.power (is_own (Some pin) word) unit said h

port_ready : (pin : Option OpenPin) (unit : List (Heard Value)) (said : Said) → (is_known pin ≡ true → AreCoordinates said.numbers) →
    IsReady (ends_port pin) unit said
port_ready None unit said h = h refl
port_ready (Some pin) unit said h = tt

one_ready : (section : Section) (sort : Sort) (pin : Option OpenPin) (unit : List (Heard Value)) (said : Said) →
    (is_inside section ≡ true → is_known pin ≡ true → AreCoordinates said.numbers) → IsReady (act_of_one section sort pin) unit said
one_ready places.Macro sorts.Obs pin unit said k = tt
one_ready places.Port sorts.End pin unit said k = port_ready pin unit said (k refl)
one_ready places.Layered sorts.End pin unit said k = port_ready pin unit said (k refl)
one_ready section sort pin unit said k = tt

two_ready : (section : Section) (first : Sort) (x a : Heard Value) (pin : Option OpenPin) (said : Said) →
    (is_inside section ≡ true → is_known pin ≡ true → AreCoordinates said.numbers) → SaysSecond section first (heard_token a) a.value →
    IsReady (act_of_two section first (heard_token a) pin) (x ∷ a ∷ []) said
two_ready places.Macro sorts.Pin x a pin said k says = tt
two_ready places.Macro sorts.End x a pin said k says = tt
two_ready places.Pin sorts.End x a pin said k says = pin_ready pin (heard_token a) (x ∷ a ∷ []) said (k refl)
two_ready places.Port sorts.Layer x a pin said k says = tt
two_ready places.Layered sorts.Layer x a pin said k says = tt
two_ready places.Layered sorts.Rect x a pin said k says = (says, tt)
two_ready section first x a pin said k says = tt

more_ready : (section : Section) (x a b : Heard Value) (more : List (Heard Value)) (said : Said) →
    AreHeard (says_in section) [] (x ∷ a ∷ b ∷ more) → Matches sort_of (pattern section) (map heard_token (x ∷ a ∷ b ∷ more)) →
    IsReady (act_of_more section) (x ∷ a ∷ b ∷ more) said
more_ready places.Layered x a b more said heard matches =
    (layered_places x a b more (layered_rect x a b more matches) heard, layered_whole (x ∷ a ∷ b ∷ more) matches)
more_ready section x a b more said heard matches = tt

unit_ready : (section : Section) (pin : Option OpenPin) (said : Said) (unit : List (Heard Value)) →
    (is_inside section ≡ true → is_known pin ≡ true → AreCoordinates said.numbers) → AreHeard (says_in section) [] unit →
    Matches sort_of (pattern section) (map heard_token unit) → IsReady (act_of section pin (map heard_token unit)) unit said
unit_ready section pin said [] k heard matches = tt
unit_ready section pin said (x ∷ []) k heard matches = one_ready section (sort_of (heard_token x)) pin (x ∷ []) said k
unit_ready section pin said (x ∷ a ∷ []) k heard matches = two_ready section (sort_of (heard_token x)) x a pin said k heard.1.0
unit_ready section pin said (x ∷ a ∷ b ∷ more) k heard matches = more_ready section x a b more said heard matches

pub ready : (there : Standing) (said : Said) (unit : List (Heard Value)) → AreFine there said.numbers → AreHeard (says_in (section_in there)) [] unit →
    Matches sort_of (pattern (section_in there)) (map heard_token unit) → IsReady (act_of (section_in there) there.pin (map heard_token unit)) unit said
ready there said unit f heard matches =
    unit_ready (section_in there) there.pin said unit (λ inside. f (fine_in there.section there.passing inside)) heard matches
