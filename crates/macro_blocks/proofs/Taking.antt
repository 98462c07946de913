-- One more unit.
use Rattle.std.proofs.Common.{◌≡◌, ℕ, Bool, true, false, List, [], ◌∷◌, ◌++◌, Option, Some, None, Result, Ok, Err, OnOk, if◌then◌else◌, map, refl, sym, ◌∙◌, ap, subst}
use Rattle.std.proofs.lemmas.List.{append-nil}
use Rattle.std.specs.declared.alloc.AllocError.{AllocError}
use Rattle.std.specs.Int.{int_min, int_max}
use Rattle.entry_list.specs.InTurn.{InTurn}
use Rattle.entry_list.specs.Laws.{in-turn-more}
use Rattle.macro_blocks.specs.declared.act.Act.{Act}
use Rattle.macro_blocks.specs.declared.act.Act.TheVariants as acts
use Rattle.macro_blocks.specs.declared.held.Held.{Held}
use Rattle.macro_blocks.specs.declared.held.Sections.{Sections}
use Rattle.macro_blocks.specs.declared.number.Bad.{Bad}
use Rattle.macro_blocks.specs.declared.number.Corners.{Corners}
use Rattle.macro_blocks.specs.declared.record.BlockMacro.{BlockMacro}
use Rattle.macro_blocks.specs.declared.record.BlockPin.{BlockPin}
use Rattle.macro_blocks.specs.declared.record.BlockRect.{BlockRect}
use Rattle.macro_blocks.specs.declared.standing.Standing.{Standing}
use Rattle.macro_blocks.specs.declared.value.Value.{Value}
use Rattle.macro_blocks.specs.Fault.{AreCoordinates}
use Rattle.macro_blocks.specs.Format.{format}
use Rattle.macro_blocks.specs.inside.Held.{IsBad, AreDrawn, Tells, Holds, AreCorners, AreFine, IsReady, Leads}
use Rattle.macro_blocks.specs.inside.Value.{ArePlaces, AreWhole, says}
use Rattle.macro_blocks.specs.Record.{Shape, SaidPin, SaidMacro, SaysRect, SaysPin, SaysMacro, Heard as AllHeard, second_text, said_by, act_of, noted_in, drawn, heard_after, heard_from, heard_of}
use Rattle.macro_blocks.specs.Standing.{standing_after, section_in, pin_name, is_rect}
use Rattle.macro_blocks.proofs.Fine.{fine_after, ready}
use Rattle.macro_blocks.proofs.Numbered.{placed_value}
use Rattle.macro_blocks.proofs.Numbers.{HasOne, none_bad, noted_all_bad, noted_four}
use Rattle.reading.specs.declared.word.Heard.{Heard}
use Rattle.reading.specs.Grammar.{AreHeard, IsTaken}
use Rattle.reading.specs.Word.{Token, heard_token}

-- ## where units lead

more_from : (heard : AllHeard) (units : List (List Token)) (unit : List Token) →
    heard_from heard (units ++ unit ∷ []) ≡ heard_after (heard_from heard units) unit
more_from heard [] unit = refl
more_from heard (u ∷ units) unit = more_from (heard_after heard u) units unit

pub heard_more : (units : List (List Token)) (unit : List Token) → heard_of (units ++ unit ∷ []) ≡ heard_after (heard_of units) unit
heard_more units unit = more_from _ units unit

-- What a whole unit says, and where it leads.
pub taken : (units : List (List Token)) (heard : List (Heard Value)) (old new : Held) → Holds units old →
    IsTaken format units (map heard_token heard) → AreHeard (says units) [] heard →
    new.standing ≡ standing_after old.standing (map heard_token heard) → (act : Act) →
    act ≡ act_of (section_in old.standing) old.standing.pin (map heard_token heard) → Leads act old.standing heard old.said new.said →
    Holds (units ++ map heard_token heard ∷ []) new
taken units heard old new h whole words goes act is leads =
    let unit = map heard_token heard in
    let there = (heard_of units).standing in
    let said = (heard_of units).said in
    let done : act ≡ act_of (section_in there) there.pin unit = is ∙ ap (λ (z : Standing). act_of (section_in z) z.pin unit) h.standing in
    let finds : IsReady act heard said = subst (λ (z : Act). IsReady z heard said) (sym done) (ready there said heard h.fine words whole.matches) in
    let next : Tells (said_by act old.standing unit said) new.said = leads said h.said finds in
    let by : Tells (said_by (act_of (section_in old.standing) old.standing.pin unit) old.standing unit said) new.said =
    subst (λ (z : Act). Tells (said_by z old.standing unit said) new.said) is next in
    let from : Tells (heard_after (heard_of units) unit).said new.said =
    subst (λ (z : Standing). Tells (said_by (act_of (section_in z) z.pin unit) z unit said) new.said) h.standing by in
    record {
      standing = goes ∙ ap (λ (z : Standing). standing_after z unit) h.standing ∙ sym (ap (λ (z : AllHeard). z.standing) (heard_more units unit));
      said = subst (λ (z : AllHeard). Tells z.said new.said) (sym (heard_more units unit)) from;
      fine = subst (λ (z : AllHeard). AreFine z.standing z.said.numbers) (sym (heard_more units unit))
          (fine_after units heard old.said.bad h.said.numbers h.fine words whole.matches whole.fine);
    }

pub took : (r : Result (Unit {0}) AllocError) (A B : Type 0) → (A → B) → OnOk r A → OnOk r B
took (Ok x) A B f h = f h
took (Err e) A B f h = tt

-- ## lists of entries

turn_both : {L E : Type 0} (says : L → E → Type 0) (ls ms : List L) (es fs : List E) → InTurn says ls es → InTurn says ms fs →
    InTurn says (ls ++ ms) (es ++ fs)
turn_both says [] ms [] fs h k = k
turn_both says (l ∷ ls) ms (e ∷ es) fs h k = (h.0, turn_both says ls ms es fs h.1 k)
turn_both says [] ms (e ∷ es) fs h k = absurd h
turn_both says (l ∷ ls) ms [] fs h k = absurd h

macros_as : (xs : List SaidMacro) (es fs : List BlockMacro) → fs ≡ es → InTurn SaysMacro xs es → InTurn SaysMacro xs fs
macros_as xs es fs e h = subst (λ (z : List BlockMacro). InTurn SaysMacro xs z) (sym e) h

pins_as : (xs : List SaidPin) (es fs : List BlockPin) → fs ≡ es → InTurn SaysPin xs es → InTurn SaysPin xs fs
pins_as xs es fs e h = subst (λ (z : List BlockPin). InTurn SaysPin xs z) (sym e) h

rects_as : (xs : List Shape) (es fs : List BlockRect) → fs ≡ es → InTurn SaysRect xs es → InTurn SaysRect xs fs
rects_as xs es fs e h = subst (λ (z : List BlockRect). InTurn SaysRect xs z) (sym e) h

-- What stays where a pin, a port or obstructions go on.
pub record Stay (old new : Sections) : Type 0 where
  pub macros : new.macros.items ≡ old.macros.items
  pub pins : new.pins.items ≡ old.pins.items
  pub obstructions : new.obstructions.items ≡ old.obstructions.items

-- ## what units do

pub opens_leads : (there : Standing) (unit : List (Heard Value)) (old new : Sections) → Stay old new → new.layer ≡ old.layer → new.rects.items ≡ [] → new.bad ≡ None →
    Leads acts.Opens there unit old new
opens_leads there unit old new stay layer none fine = λ said h is. record {
  macros = macros_as said.macros old.macros.items new.macros.items stay.macros h.macros;
  pins = pins_as said.pins old.pins.items new.pins.items stay.pins h.pins;
  obstructions = rects_as said.obstructions old.obstructions.items new.obstructions.items stay.obstructions h.obstructions;
  layer = layer ∙ h.layer;
  numbers = subst (λ z. IsBad [] z) (sym fine) tt;
  rects = subst (λ z. AreDrawn [] z new.rects.items) (sym fine) (rects_as [] [] new.rects.items none tt);
}

pub layer_leads : (there : Standing) (unit : List (Heard Value)) (old new : Sections) → Stay old new → new.layer ≡ second_text (map heard_token unit) → new.rects.items ≡ old.rects.items →
    new.bad ≡ old.bad → Leads acts.Layer there unit old new
layer_leads there unit old new stay layer rects same = λ said h is. record {
  macros = macros_as said.macros old.macros.items new.macros.items stay.macros h.macros;
  pins = pins_as said.pins old.pins.items new.pins.items stay.pins h.pins;
  obstructions = rects_as said.obstructions old.obstructions.items new.obstructions.items stay.obstructions h.obstructions;
  layer = layer;
  numbers = subst (λ z. IsBad said.numbers z) (sym same) h.numbers;
  rects = subst (λ (z : List BlockRect). AreDrawn said.shapes new.bad z) (sym rects)
      (subst (λ z. AreDrawn said.shapes z old.rects.items) (sym same) h.rects);
}

-- A RECT after a number that is refused.
pub after_bad : (there : Standing) (unit : List (Heard Value)) (old : Sections) (bad : Bad) → old.bad ≡ Some bad → Leads acts.Draws there unit old old
after_bad there unit old bad is = λ said h words. record {
  macros = h.macros;
  pins = h.pins;
  obstructions = h.obstructions;
  layer = h.layer;
  numbers = subst (λ z. IsBad (noted_in said.numbers (map heard_token unit)) z) (sym is)
      (noted_all_bad said.numbers (map heard_token unit) bad (subst (λ z. IsBad said.numbers z) is h.numbers));
  rects = subst (λ z. AreDrawn (said.shapes ++ drawn said.layer (map heard_token unit)) z old.rects.items) (sym is) tt;
}

-- A RECT with the first number that is refused.
pub draw_bad : (there : Standing) (unit : List (Heard Value)) (old new : Sections) (bad : Bad) → Stay old new → new.layer ≡ old.layer → old.bad ≡ None →
    new.bad ≡ Some bad →
    (ArePlaces unit → (numbers : List Token) → AreCoordinates numbers → IsBad (noted_in numbers (map heard_token unit)) new.bad) →
    Leads acts.Draws there unit old new
draw_bad there unit old new bad stay layer fine is noted = λ said h words. record {
  macros = macros_as said.macros old.macros.items new.macros.items stay.macros h.macros;
  pins = pins_as said.pins old.pins.items new.pins.items stay.pins h.pins;
  obstructions = rects_as said.obstructions old.obstructions.items new.obstructions.items stay.obstructions h.obstructions;
  layer = layer ∙ h.layer;
  numbers = noted words.0 said.numbers (subst (λ z. IsBad said.numbers z) fine h.numbers);
  rects = subst (λ z. AreDrawn (said.shapes ++ drawn said.layer (map heard_token unit)) z new.rects.items) (sym is) tt;
}

-- A RECT in which no number is refused.
pub draw_rect : (there : Standing) (unit : List (Heard Value)) (old new : Sections) → Stay old new → new.layer ≡ old.layer → old.bad ≡ None → new.bad ≡ None →
    (ArePlaces unit → (numbers : List Token) → AreCoordinates numbers → AreCoordinates (noted_in numbers (map heard_token unit))) →
    (ArePlaces unit → AreWhole unit → (shapes : List Shape) → InTurn SaysRect shapes old.rects.items →
    InTurn SaysRect (shapes ++ drawn old.layer (map heard_token unit)) new.rects.items) →
    Leads acts.Draws there unit old new
draw_rect there unit old new stay layer fine is noted draws = λ said h words. record {
  macros = macros_as said.macros old.macros.items new.macros.items stay.macros h.macros;
  pins = pins_as said.pins old.pins.items new.pins.items stay.pins h.pins;
  obstructions = rects_as said.obstructions old.obstructions.items new.obstructions.items stay.obstructions h.obstructions;
  layer = layer ∙ h.layer;
  numbers = subst (λ z. IsBad (noted_in said.numbers (map heard_token unit)) z) (sym is)
      (noted words.0 said.numbers (subst (λ z. IsBad said.numbers z) fine h.numbers));
  rects = subst (λ z. AreDrawn (said.shapes ++ drawn said.layer (map heard_token unit)) z new.rects.items) (sym is)
      (subst (λ (z : List ℕ). InTurn SaysRect (said.shapes ++ drawn z (map heard_token unit)) new.rects.items) h.layer
      (draws words.0 words.1 said.shapes (subst (λ z. AreDrawn said.shapes z old.rects.items) fine h.rects)));
}

-- Where all numbers are coordinates none is refused.
none_is : HasOne → (numbers : List Token) (bad : Option Bad) → AreCoordinates numbers → IsBad numbers bad → bad ≡ None
none_is one numbers None h is = refl
none_is one numbers (Some bad) h is = absurd (none_bad one numbers bad h is)

pub pin_leads : HasOne → (power : Bool) (there : Standing) (unit : List (Heard Value)) (name : List ℕ) (old new : Sections) (pin : BlockPin) → pin_name there.pin ≡ name →
    pin.name ≡ name → pin.power ≡ power → pin.rects ≡ old.rects.items → new.macros.items ≡ old.macros.items → new.pins.items ≡ old.pins.items ++ pin ∷ [] →
    new.obstructions.items ≡ old.obstructions.items → new.layer ≡ old.layer → new.rects.items ≡ [] → new.bad ≡ old.bad →
    Leads (acts.EndsPin power) there unit old new
pin_leads one power there unit name old new pin called is_named is_power is_rects macros pins obstructions layer none same = λ said h fine. record {
  macros = macros_as said.macros old.macros.items new.macros.items macros h.macros;
  pins = pins_as _ (old.pins.items ++ pin ∷ []) new.pins.items pins
      (in-turn-more SaysPin said.pins old.pins.items (record { name = pin_name there.pin; power = power; shapes = said.shapes }) pin h.pins (record {
        name = is_named ∙ sym called;
        power = is_power;
        rects = rects_as said.shapes old.rects.items pin.rects is_rects
            (subst (λ z. AreDrawn said.shapes z old.rects.items) (none_is one said.numbers old.bad fine h.numbers) h.rects);
      }));
  obstructions = rects_as said.obstructions old.obstructions.items new.obstructions.items obstructions h.obstructions;
  layer = layer ∙ h.layer;
  numbers = subst (λ z. IsBad said.numbers z) (sym same) h.numbers;
  rects = subst (λ z. AreDrawn [] z new.rects.items) (sym (same ∙ none_is one said.numbers old.bad fine h.numbers)) (rects_as [] [] new.rects.items none tt);
}

pub obstructions_lead : HasOne → (there : Standing) (unit : List (Heard Value)) (old new : Sections) → new.macros.items ≡ old.macros.items →
    new.pins.items ≡ old.pins.items → new.obstructions.items ≡ old.obstructions.items ++ old.rects.items → new.layer ≡ old.layer → new.rects.items ≡ [] →
    new.bad ≡ old.bad → Leads acts.EndsObstructions there unit old new
obstructions_lead one there unit old new macros pins obstructions layer none same = λ said h fine. record {
  macros = macros_as said.macros old.macros.items new.macros.items macros h.macros;
  pins = pins_as said.pins old.pins.items new.pins.items pins h.pins;
  obstructions = rects_as (said.obstructions ++ said.shapes) (old.obstructions.items ++ old.rects.items) new.obstructions.items obstructions
      (turn_both SaysRect said.obstructions said.shapes old.obstructions.items old.rects.items h.obstructions
      (subst (λ z. AreDrawn said.shapes z old.rects.items) (none_is one said.numbers old.bad fine h.numbers) h.rects));
  layer = layer ∙ h.layer;
  numbers = subst (λ z. IsBad said.numbers z) (sym same) h.numbers;
  rects = subst (λ z. AreDrawn [] z new.rects.items) (sym (same ∙ none_is one said.numbers old.bad fine h.numbers)) (rects_as [] [] new.rects.items none tt);
}

pub macro_leads : (there : Standing) (unit : List (Heard Value)) (name : List ℕ) (old new : Sections) (cell : BlockMacro) → there.cell ≡ name → cell.name ≡ name →
    cell.pins ≡ old.pins.items → cell.obstructions ≡ old.obstructions.items → new.macros.items ≡ old.macros.items ++ cell ∷ [] → new.pins.items ≡ [] →
    new.obstructions.items ≡ [] → new.layer ≡ old.layer → new.rects.items ≡ old.rects.items → new.bad ≡ old.bad →
    Leads acts.EndsMacro there unit old new
macro_leads there unit name old new cell called is_named is_pins is_obstructions macros pins obstructions layer rects same = λ said h is. record {
  macros = macros_as _ (old.macros.items ++ cell ∷ []) new.macros.items macros
      (in-turn-more SaysMacro said.macros old.macros.items (record { name = there.cell; pins = said.pins; obstructions = said.obstructions }) cell h.macros (record {
        name = is_named ∙ sym called;
        pins = pins_as said.pins old.pins.items cell.pins is_pins h.pins;
        obstructions = rects_as said.obstructions old.obstructions.items cell.obstructions is_obstructions h.obstructions;
      }));
  pins = pins_as [] [] new.pins.items pins tt;
  obstructions = rects_as [] [] new.obstructions.items obstructions tt;
  layer = layer ∙ h.layer;
  numbers = subst (λ z. IsBad said.numbers z) (sym same) h.numbers;
  rects = subst (λ (z : List BlockRect). AreDrawn said.shapes new.bad z) (sym rects)
      (subst (λ z. AreDrawn said.shapes z old.rects.items) (sym same) h.rects);
}

-- ## a rectangle

abbrev the_shape : List ℕ → List Token → Shape
the_shape layer words = record { layer = layer; words = words }

rect_by : (b : Bool) (layer : List ℕ) (unit : List Token) (shapes : List Shape) (rects new : List BlockRect) (rect : BlockRect) → is_rect unit ≡ b → b ≡ true →
    SaysRect (record { layer = layer; words = unit }) rect → new ≡ rects ++ rect ∷ [] → InTurn SaysRect shapes rects →
    InTurn SaysRect (shapes ++ drawn layer unit) new
rect_by b layer unit shapes rects new rect is whole says more h =
    let one : drawn layer unit ≡ record { layer = layer; words = unit } ∷ [] =
    ap (λ (z : Bool). if z then (the_shape layer unit ∷ []) else []) (is ∙ whole) in
    rects_as _ (rects ++ rect ∷ []) new more
    (subst (λ (z : List Shape). InTurn SaysRect (shapes ++ z) (rects ++ rect ∷ [])) (sym one)
    (in-turn-more SaysRect shapes rects (the_shape layer unit) rect h says))

pub rect_added : (layer : List ℕ) (unit : List Token) (shapes : List Shape) (rects new : List BlockRect) (rect : BlockRect) → is_rect unit ≡ true →
    SaysRect (record { layer = layer; words = unit }) rect → new ≡ rects ++ rect ∷ [] → InTurn SaysRect shapes rects →
    InTurn SaysRect (shapes ++ drawn layer unit) new
rect_added layer unit shapes rects new rect whole says more h = rect_by true layer unit shapes rects new rect whole refl says more h

pub rect_left : (layer : List ℕ) (unit : List Token) (shapes : List Shape) (rects : List BlockRect) → is_rect unit ≡ false →
    InTurn SaysRect shapes rects → InTurn SaysRect (shapes ++ drawn layer unit) rects
rect_left layer unit shapes rects other h =
    let none : drawn layer unit ≡ [] =
    ap (λ (z : Bool). if z then (the_shape layer unit ∷ []) else []) other in
    subst (λ (z : List Shape). InTurn SaysRect z rects) (sym (ap (λ z. shapes ++ z) none ∙ append-nil shapes)) h

-- A whole RECT with the corners that its words say.
pub whole_added : HasOne → (layer : List ℕ) (unit : List (Heard Value)) (corners : Corners) (shapes : List Shape) (rects new : List BlockRect) (rect : BlockRect) →
    AreCorners unit corners → ArePlaces unit → AreWhole unit →
    ((numbers : List Token) → AreCoordinates numbers → AreCoordinates (noted_in numbers (map heard_token unit))) → rect.layer ≡ layer →
    rect.x1 ≡ int_min corners.one.x corners.other.x → rect.y1 ≡ int_min corners.one.y corners.other.y →
    rect.x2 ≡ int_max corners.one.x corners.other.x → rect.y2 ≡ int_max corners.one.y corners.other.y →
    new ≡ rects ++ rect ∷ [] → InTurn SaysRect shapes rects → InTurn SaysRect (shapes ++ drawn layer (map heard_token unit)) new
whole_added one layer (x ∷ a ∷ b ∷ c ∷ d ∷ stop ∷ []) corners shapes rects new rect is places whole noted at x1 y1 x2 y2 more h =
    let are : AreCoordinates (heard_token a ∷ heard_token b ∷ heard_token c ∷ heard_token d ∷ []) =
    subst AreCoordinates (noted_four (heard_token x) (heard_token a) (heard_token b) (heard_token c) (heard_token d) (heard_token stop) whole.0 whole.1 whole.2 whole.3 []) (noted [] tt) in
    let one_x = is.1 (placed_value one (heard_token a) a.value are.0.0 whole.0 places.0 are.0.1) in
    let one_y = is.2 (placed_value one (heard_token b) b.value are.1.0.0 whole.1 places.1 are.1.0.1) in
    let other_x = is.3 (placed_value one (heard_token c) c.value are.1.1.0.0 whole.2 places.2 are.1.1.0.1) in
    let other_y = is.4 (placed_value one (heard_token d) d.value are.1.1.1.0.0 whole.3 places.3 are.1.1.1.0.1) in
    rect_added layer (map heard_token (x ∷ a ∷ b ∷ c ∷ d ∷ stop ∷ [])) shapes rects new rect is.0 (record {
      layer = at;
      corners = (corners.one.x, corners.one.y, corners.other.x, corners.other.y, one_x, one_y, other_x, other_y, x1, y1, x2, y2);
    }) more h
whole_added one layer unit corners shapes rects new rect is places whole noted at x1 y1 x2 y2 more h = absurd is
