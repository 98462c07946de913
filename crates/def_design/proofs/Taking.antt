-- One more unit: what it says, and what it leaves.
use Rattle.std.proofs.Common.{◌≡◌, ℕ, length, arith, Bool, true, false, ◌&&◌, not, List, [], ◌∷◌, ◌++◌, filter, Contains, None, Result, Ok, Err, OnOk, refl, sym, ◌∙◌, ap, subst}
use Rattle.std.specs.Prelude.{◌||◌}
use Rattle.std.specs.declared.alloc.AllocError.{AllocError}
use Rattle.std.specs.List.{list_any}
use Rattle.std.proofs.lemmas.List.{append-nil}
use Rattle.std.proofs.lemmas.List.Folds.{list_any-append}
use Rattle.entry_list.specs.InTurn.{InTurn}
use Rattle.entry_list.specs.Laws.{turn-added, turn-kept}
use Rattle.geom_rect.specs.declared.rect.Rect.{Rect}
use Rattle.name_table.specs.Numbering.{TakesName}
use Rattle.named_entries.specs.Named.{NamedList}
use Rattle.def_design.specs.Fault.{names_of}
use Rattle.def_design.specs.declared.blockages.Blockages.{Blockages}
use Rattle.def_design.specs.declared.blockages.Open.{Open}
use Rattle.def_design.specs.declared.components.Components.{Components}
use Rattle.def_design.specs.declared.record.Blockage.{Blockage}
use Rattle.def_design.specs.declared.record.Component.{Component}
use Rattle.def_design.specs.declared.record.Fence.{Fence}
use Rattle.def_design.specs.declared.record.Row.{Row}
use Rattle.def_design.specs.declared.regions.Regions.{Regions}
use Rattle.def_design.specs.declared.value.Value.{Value}
use Rattle.def_design.specs.inside.Held.{Leads, Takes, WhenWhole, FirstSays, HoldsRows, HoldsComponents, HoldsRegions, HoldsBlockages, IsOpen, GoesOn, AddsRect, components_of, regions_of}
use Rattle.def_design.specs.Record.{Stated, SaysRect, SaysArea, SaysRow, SaysPlace, SaysComponent, After, each_after, entry_by, entry_of, blocks_wires, SaysSpacing, SaysBlockage, SaysRects, SaysRegion}
use Rattle.def_design.specs.Unit.{is_row, is_component, is_placed, is_layer, is_spacing, excepts, is_rect, is_region, is_more}
use Rattle.def_design.proofs.Turns.{named_head, named_stays, named_none, named_last}
use Rattle.def_design.proofs.Firsts.{first_other}
use Rattle.def_design.proofs.Afters.{after_more, entry_more}
use Rattle.def_statements.specs.Unit.{text_at}
use Rattle.lef_statements.specs.First.{first_with}
use Rattle.lef_statements.specs.Laws.{extended}
use Rattle.reading.specs.Blocks.{Block}
use Rattle.reading.specs.declared.word.Heard.{Heard}
use Rattle.reading.specs.Word.{Token}

-- ## rows

pub row_added : (unit : List Token) (old new : List Row) (row : Row) → is_row unit ≡ true → SaysRow unit row → new ≡ old ++ row ∷ [] → Leads HoldsRows unit old new
row_added unit old new row is says more = λ units h. turn-added SaysRow is_row units unit old new row is h says more

pub row_kept : (unit : List Token) (rows : List Row) → is_row unit ≡ false → Leads HoldsRows unit rows rows
row_kept unit rows is = λ units h. turn-kept SaysRow is_row units unit rows is h

-- ## components

pub component_added : (unit : List Token) (old new : Components) (component : Component) → is_component unit ≡ true →
    TakesName old.names.names new.names.names (text_at 1 unit) → new.items.items ≡ old.items.items ++ component ∷ [] →
    component.name ≡ text_at 1 unit → component.cell ≡ text_at 2 unit → component.place ≡ None →
    (units : List (List Token)) → (Contains (names_of is_component units) (text_at 1 unit) → ⊥) → HoldsComponents units old → HoldsComponents (units ++ unit ∷ []) new
component_added unit old new component is taken more name cell place = λ units fresh h.
    named_head SaysComponent is_component units unit (components_of old) (components_of new) component is
    (λ there. fresh (subst (λ z. Contains z (text_at 1 unit)) h.names there)) taken more
    (record { name = name; cell = cell; place = subst (λ z. Stated SaysPlace None z) (sym place) tt }) h

component_stays : (unit : List Token) → is_placed unit ≡ false → (entry : Block Token) (component : Component) → SaysComponent entry component → SaysComponent (extended entry unit) component
component_stays unit other entry component h = record {
  name = h.name;
  cell = h.cell;
  place = first_other is_placed SaysPlace entry.body unit component.place other h.place;
}

pub component_kept : (unit : List Token) (said : Components) → is_component unit ≡ false → is_placed unit ≡ false → Leads HoldsComponents unit said said
component_kept unit said other placed = λ units h.
    named_stays SaysComponent is_component units unit (components_of said) other (component_stays unit placed) h

-- A part of no component.
pub component_none : (unit : List Token) (old new : Components) → is_component unit ≡ false → new.names ≡ old.names → old.items.items ≡ [] → new.items.items ≡ old.items.items →
    Leads HoldsComponents unit old new
component_none unit old new other same none kept = λ units h.
    named_none SaysComponent is_component units unit (components_of old) (components_of new) other (ap (λ (z : NamedList (Unit {0})). z.names) same) none kept h

pub component_placed : (unit : List Token) (old new : Components) (items : List Component) (last one : Component) → is_component unit ≡ false →
    new.names ≡ old.names → old.items.items ≡ items ++ last ∷ [] → new.items.items ≡ items ++ one ∷ [] → one.name ≡ last.name → one.cell ≡ last.cell →
    Leads (FirstSays is_placed SaysPlace) unit last.place one.place → Leads HoldsComponents unit old new
component_placed unit old new items last one other same was more name cell place = λ units h.
    named_last SaysComponent is_component units unit (components_of old) (components_of new) items last one other (ap (λ (z : NamedList (Unit {0})). z.names) same) was more
    (λ entry k. record { name = name ∙ k.name; cell = cell ∙ k.cell; place = place entry.body k.place }) h

-- ## regions

pub region_added : (unit : List Token) (old new : Regions) (region : Fence) (rect : Rect) → is_region unit ≡ true →
    TakesName old.names.names new.names.names (text_at 1 unit) → new.items.items ≡ old.items.items ++ region ∷ [] →
    region.name ≡ text_at 1 unit → region.rects ≡ rect ∷ [] → SaysArea 3 unit rect →
    (units : List (List Token)) → (Contains (names_of is_region units) (text_at 1 unit) → ⊥) → HoldsRegions units old → HoldsRegions (units ++ unit ∷ []) new
region_added unit old new region rect is taken more name rects says = λ units fresh h.
    named_head SaysRegion is_region units unit (regions_of old) (regions_of new) region is
    (λ there. fresh (subst (λ z. Contains z (text_at 1 unit)) h.names there)) taken more
    (record { name = name; rects = subst (λ z. SaysRects (record { head = unit; body = [] }) z) (sym rects) (says, tt) }) h

rects_stay : (unit : List Token) (entry : Block Token) (rects : List Rect) → is_more unit ≡ false → SaysRects entry rects → SaysRects (extended entry unit) rects
rects_stay unit entry [] other h = absurd h
rects_stay unit entry (rect ∷ rects) other h = (h.0, turn-kept (SaysArea 1) is_more entry.body unit rects other h.1)

pub region_kept : (unit : List Token) (said : Regions) → is_region unit ≡ false → is_more unit ≡ false → Leads HoldsRegions unit said said
region_kept unit said other more = λ units h.
    named_stays SaysRegion is_region units unit (regions_of said) other
    (λ entry region k. record { name = k.name; rects = rects_stay unit entry region.rects more k.rects }) h

rects_more : (unit : List Token) (entry : Block Token) (rects : List Rect) (rect : Rect) → is_more unit ≡ true → SaysArea 1 unit rect → SaysRects entry rects →
    SaysRects (extended entry unit) (rects ++ rect ∷ [])
rects_more unit entry [] rect is says h = absurd h
rects_more unit entry (first ∷ rects) rect is says h =
    (h.0, turn-added (SaysArea 1) is_more entry.body unit rects (rects ++ rect ∷ []) rect is h.1 says refl)

-- A rectangle of no region.
pub region_none : (unit : List Token) (old new : Regions) → is_region unit ≡ false → new.names ≡ old.names → old.items.items ≡ [] → new.items.items ≡ old.items.items →
    Leads HoldsRegions unit old new
region_none unit old new other same none kept = λ units h.
    named_none SaysRegion is_region units unit (regions_of old) (regions_of new) other (ap (λ (z : NamedList (Unit {0})). z.names) same) none kept h

pub region_extended : (unit : List Token) (old new : Regions) (items : List Fence) (last one : Fence) (rect : Rect) → is_region unit ≡ false → is_more unit ≡ true →
    new.names ≡ old.names → old.items.items ≡ items ++ last ∷ [] → new.items.items ≡ items ++ one ∷ [] → one.name ≡ last.name → one.rects ≡ last.rects ++ rect ∷ [] →
    SaysArea 1 unit rect → Leads HoldsRegions unit old new
region_extended unit old new items last one rect other is same was more name rects says = λ units h.
    named_last SaysRegion is_region units unit (regions_of old) (regions_of new) items last one other (ap (λ (z : NamedList (Unit {0})). z.names) same) was more
    (λ entry k. record {
      name = name ∙ k.name;
      rects = subst (λ z. SaysRects (extended entry unit) z) (sym rects) (rects_more unit entry last.rects rect is says k.rects);
    }) h

-- ## blockages

or_false : (b : Bool) → (b || false) ≡ b
or_false true = refl
or_false false = refl

any_more : (body : List (List Token)) (unit : List Token) → list_any excepts (body ++ unit ∷ []) ≡ (list_any excepts body || excepts unit)
any_more body unit = list_any-append excepts body (unit ∷ []) ∙ ap (λ z. list_any excepts body || z) (or_false (excepts unit))

-- The head of another entry.
pub open_head : (unit : List Token) (old new : Open) → is_layer unit ≡ true → new.layer.now ≡ text_at 1 unit → new.spacing ≡ None → new.excepts ≡ false → GoesOn unit old new
open_head unit old new is layer spacing none = λ entry h.
    subst (λ z. IsOpen (entry_by z entry unit) new) (sym is)
    (record { layer = layer; spacing = subst (λ z. Stated SaysSpacing None z) (sym spacing) tt; excepts = none })

-- Whether the entry excepts the wires of power grids, with one more unit.
pub excepts_more : (entry : Block Token) (unit : List Token) (old new : Bool) → old ≡ list_any excepts entry.body → new ≡ (old || excepts unit) →
    new ≡ list_any excepts (entry.body ++ unit ∷ [])
excepts_more entry unit old new was is = is ∙ ap (λ z. z || excepts unit) was ∙ sym (any_more entry.body unit)

-- A unit of the entry.
pub open_other : (unit : List Token) (old new : Open) → is_layer unit ≡ false → Leads (FirstSays is_spacing SaysSpacing) unit old.spacing new.spacing →
    new.layer.now ≡ old.layer.now → new.excepts ≡ (old.excepts || excepts unit) → GoesOn unit old new
open_other unit old new other spacing layer except = λ entry h.
    subst (λ z. IsOpen (entry_by z entry unit) new) (sym other) (record {
      layer = layer ∙ h.layer;
      spacing = spacing entry.body h.spacing;
      excepts = excepts_more entry unit old.excepts new.excepts h.excepts except;
    })

abbrev the_after : List (List Token) → List Token → After
the_after units unit = record { before = units; unit = unit }

wires : (units : List (List Token)) (unit : List Token) (old : Blockages) (rect excepted : Bool) → HoldsBlockages units old → is_rect unit ≡ rect → old.open.excepts ≡ excepted →
    blocks_wires (the_after units unit) ≡ (rect && not excepted)
wires units unit old rect excepted h is by = ap (λ z. z && not (list_any excepts (entry_of units).body)) is ∙ ap (λ z. rect && not z) (sym h.open.excepts ∙ by)

pub rect_added : (unit : List Token) (old new : Blockages) (blockage : Blockage) → is_rect unit ≡ true → old.open.excepts ≡ false → new.items.items ≡ old.items.items ++ blockage ∷ [] →
    blockage.layer ≡ old.open.layer.now → blockage.spacing ≡ old.open.spacing → SaysRect 2 unit blockage.rect → AddsRect unit old new
rect_added unit old new blockage is some more layer spacing says = λ units h.
    subst (λ z. InTurn SaysBlockage (filter blocks_wires z) new.items.items) (sym (after_more units unit))
    (turn-added SaysBlockage blocks_wires (each_after [] units) (the_after units unit) old.items.items new.items.items blockage
    (wires units unit old true false h is some) h.items
    (record {
      layer = layer ∙ h.open.layer;
      spacing = subst (λ z. Stated SaysSpacing (first_with is_spacing (entry_of units).body) z) (sym spacing) h.open.spacing;
      rect = says;
    }) more)

nothing_added : (unit : List Token) (old new : Blockages) (rect excepted : Bool) → is_rect unit ≡ rect → old.open.excepts ≡ excepted → (rect && not excepted) ≡ false →
    new.items.items ≡ old.items.items → AddsRect unit old new
nothing_added unit old new rect excepted is by none same = λ units h.
    subst (λ z. InTurn SaysBlockage (filter blocks_wires z) new.items.items) (sym (after_more units unit))
    (subst (λ z. InTurn SaysBlockage (filter blocks_wires (each_after [] units ++ the_after units unit ∷ [])) z) (sym same)
    (turn-kept SaysBlockage blocks_wires (each_after [] units) (the_after units unit) old.items.items
    (wires units unit old rect excepted h is by ∙ none) h.items))

and_not : (b : Bool) → (b && false) ≡ false
and_not true = refl
and_not false = refl

pub rect_other : (unit : List Token) (old new : Blockages) → is_rect unit ≡ false → new.items.items ≡ old.items.items → AddsRect unit old new
rect_other unit old new none same = nothing_added unit old new false old.open.excepts none refl refl same

pub rect_excepted : (unit : List Token) (old new : Blockages) → old.open.excepts ≡ true → new.items.items ≡ old.items.items → AddsRect unit old new
rect_excepted unit old new excepted same = nothing_added unit old new (is_rect unit) true refl excepted (and_not (is_rect unit)) same

-- Both.
pub blockages_taken : (unit : List Token) (old added : Blockages) (one : Open) → added.open ≡ old.open → AddsRect unit old added →
    GoesOn unit added.open one → Leads HoldsBlockages unit old (record { «open» = one; items = added.items })
blockages_taken unit old added one same adds goes = λ units h. record {
  «open» = subst (λ z. IsOpen z one) (sym (entry_more units unit)) (goes (entry_of units) (subst (λ z. IsOpen (entry_of units) z) (sym same) h.open));
  items = adds units h;
}

-- ## what is taken of a unit of a kind

pub when_one : {X : Type 0} (is test : Bool) (holds : List (List Token) → X → Type 0) (unit : List (Heard Value)) (old new : X) (r : Result (Unit {0}) AllocError) →
    WhenWhole unit (is ≡ test) → OnOk r (is ≡ test → Takes holds unit old new) → OnOk r (Takes holds unit old new)
when_one is test holds unit old new (Ok x) told takes = λ units w. takes (told units w) units w
when_one is test holds unit old new (Err x) told takes = tt

pub when_both : {X : Type 0} (first second : Bool) (holds : List (List Token) → X → Type 0) (unit : List (Heard Value)) (old new : X) (r : Result (Unit {0}) AllocError) →
    WhenWhole unit (first ≡ false) → WhenWhole unit (second ≡ true) → OnOk r (first ≡ false → second ≡ true → Takes holds unit old new) → OnOk r (Takes holds unit old new)
when_both first second holds unit old new (Ok x) other told takes = λ units w. takes (other units w) (told units w) units w
when_both first second holds unit old new (Err x) other told takes = tt

-- A list whose last element was asked for in vain is empty.
pub popped_none : {T : Type 0} (old new : List T) (n : ℕ) → n ≡ length old → n ≡ 0 → old ≡ new ++ [] → (old ≡ []) × (new ≡ old)
popped_none [] new n e none h = (refl, sym (h ∙ append-nil new))
popped_none (x ∷ old) new n e none h = absurd (omega (arith, e, none))
