-- What a record keeps, by what its units say.
use Rattle.std.proofs.Common.{◌≡◌, ℕ, ◌+◌, ◌≤◌, ◌<◌, ℤ, pos, ◌≤ℤ◌, ◌<ℤ◌, Bool, true, false, List, [], ◌∷◌, filter, length, map, All, Option, Some, None, refl, sym, subst, arith}
use Rattle.std.specs.Prelude.{unsigned_abs}
use Rattle.std.specs.Int.{int_min, int_max}
use Rattle.std.proofs.lemmas.Int.{ints, clamps}
use Rattle.std.proofs.lemmas.List.Elements.{All-cons}
use Rattle.entry_list.specs.InTurn.{InTurn}
use Rattle.entry_list.specs.Laws.{in-turn-all}
use Rattle.geom_rect.specs.declared.direction.Orient.{Orient}
use Rattle.geom_rect.specs.declared.rect.Rect.{Rect}
use Rattle.named_entries.specs.Laws.{names-differ}
use Rattle.name_table.specs.Numbering.{AreDistinct}
use Rattle.def_design.specs.declared.held.Said.{Said}
use Rattle.def_design.specs.declared.number.Quantity.TheVariants.{Any, NotNegative, Positive, Microns}
use Rattle.def_design.specs.declared.record.Blockage.{Blockage}
use Rattle.def_design.specs.declared.record.Component.{Component}
use Rattle.def_design.specs.declared.record.Design.{Design}
use Rattle.def_design.specs.declared.record.Fence.{Fence}
use Rattle.def_design.specs.declared.record.Row.{Row}
use Rattle.def_design.specs.Fault.{head_name}
use Rattle.def_design.specs.inside.Held.{HoldsSaid, components_of, regions_of}
use Rattle.def_design.specs.Limits.{IsNear, IsLength, Keeps, RectKeeps, AreaKeeps, is_along, RowKeeps, PlaceKeeps, ComponentKeeps, BlockageKeeps, RegionKeeps, DesignKeeps}
use Rattle.def_design.specs.Number.{place_of, IsNumber}
use Rattle.def_design.specs.Record.{Stated, between, SaysRect, SaysArea, SaysName, SaysUnits, SaysDie, SaysCount, SaysStep, SaysRow, SaysPlace, SaysComponent, After, each_after, blocks_wires, SaysSpacing, SaysBlockage, SaysRects, SaysRegion, IsDesign}
use Rattle.def_design.specs.Unit.{is_design, is_units, is_die, is_row, is_more, is_component, is_region, upright}
use Rattle.def_design.proofs.Numbers.{Limited, Signed}
use Rattle.def_statements.specs.declared.sort.Sort.{Sort}
use Rattle.def_statements.specs.declared.sort.Sort.TheVariants as sorts
use Rattle.def_statements.specs.Unit.{text_at, sort_at}
use Rattle.lef_statements.specs.First.{first_with}
use Rattle.reading.specs.Blocks.{Block, blocks}
use Rattle.reading.specs.Word.{Token}

-- ## numbers

near : Limited → (text : List ℕ) (v : ℤ) → IsNumber Any text v → IsNear v
near limited text v h = limited (place_of Any) text v h

length_kept : Limited → Signed → (text : List ℕ) (v : ℤ) → IsNumber NotNegative text v → IsLength v
length_kept limited signed text v h = (signed (place_of NotNegative) text v h, limited (place_of NotNegative) text v h)

-- ## rectangles

in_order : (x z m n : ℤ) → m ≡ int_min x z → n ≡ int_max x z → m ≤ℤ n
in_order x z m n e f = omega (arith, ints, clamps)

near_least : (x z m : ℤ) → m ≡ int_min x z → IsNear x → IsNear z → IsNear m
near_least x z m e h k = omega (arith, ints, clamps)

near_most : (x z m : ℤ) → m ≡ int_max x z → IsNear x → IsNear z → IsNear m
near_most x z m e h k = omega (arith, ints, clamps)

between_kept : (x y z w : ℤ) → IsNear x → IsNear y → IsNear z → IsNear w → RectKeeps (between x y z w)
between_kept x y z w a b c d = record {
  in_order = (in_order x z _ _ refl refl, in_order y w _ _ refl refl);
  x1 = near_least x z _ refl a c;
  y1 = near_least y w _ refl b d;
  x2 = near_most x z _ refl a c;
  y2 = near_most y w _ refl b d;
}

rect_kept : Limited → (n : ℕ) (unit : List Token) (rect : Rect) → SaysRect n unit rect → RectKeeps rect
rect_kept limited n unit rect h = subst RectKeeps (sym h.6) (between_kept h.0 h.1 h.2 h.3
    (near limited (text_at n unit) h.0 h.4.0) (near limited (text_at (n + 1) unit) h.1 h.4.1)
    (near limited (text_at (n + 4) unit) h.2 h.5.0) (near limited (text_at (n + 4 + 1) unit) h.3 h.5.1))

area_kept : Limited → (n : ℕ) (unit : List Token) (rect : Rect) → SaysArea n unit rect → AreaKeeps rect
area_kept limited n unit rect h = record { keeps = rect_kept limited n unit rect h.0; wide = h.1; high = h.2 }

stated_kept : {E : Type 0} (says : List Token → E → Type 0) (keeps : E → Type 0) → ((unit : List Token) (e : E) → says unit e → keeps e) →
    (o : Option (List Token)) (e : Option E) → Stated says o e → Keeps keeps e
stated_kept says keeps said None None h = tt
stated_kept says keeps said None (Some e) h = absurd h
stated_kept says keeps said (Some unit) None h = tt
stated_kept says keeps said (Some unit) (Some e) h = said unit e h

-- ## entries

along : (sort : Sort) (turn : Orient) → upright sort ≡ Some turn → is_along turn ≡ true
along sorts.N turn e = let t : ◌≡◌ {A = Option Orient} (upright sorts.N) (Some turn) = e in cc
along sorts.S turn e = cc
along sorts.FN turn e = cc
along sorts.FS turn e = cc
along sort turn e = absurd (cc)

count_kept : Limited → Signed → (says : Bool) (unit : List Token) (count : ℤ) → SaysCount says unit count → (pos 1 ≤ℤ count) × IsNear count
count_kept limited signed true unit count h =
    let some : pos 0 <ℤ count = signed (place_of Positive) (text_at 7 unit) count h in
    (omega (arith, ints), limited (place_of Positive) (text_at 7 unit) count h)
count_kept limited signed false unit count h = (omega (arith, ints), subst IsNear (sym h) (omega arith))

step_kept : Limited → Signed → (says : Bool) (unit : List Token) (step : Option ℤ) → SaysStep says unit step → Keeps IsLength step
step_kept limited signed true unit (Some step) h = length_kept limited signed (text_at 11 unit) step h
step_kept limited signed true unit None h = absurd h
step_kept limited signed false unit None h = tt
step_kept limited signed false unit (Some step) h = absurd h

row_kept : Limited → Signed → (unit : List Token) (row : Row) → SaysRow unit row → RowKeeps row
row_kept limited signed unit row h = record {
  x = near limited (text_at 3 unit) row.x h.x;
  y = near limited (text_at 4 unit) row.y h.y;
  orient = along (sort_at 5 unit) row.orient h.orient;
  some = (count_kept limited signed _ unit row.count h.count).0;
  count = (count_kept limited signed _ unit row.count h.count).1;
  step = step_kept limited signed _ unit row.step h.step;
}

place_kept : Limited → (unit : List Token) (place : ℤ × ℤ × Orient) → SaysPlace unit place → PlaceKeeps place
place_kept limited unit (x, y, orient) h = (near limited (text_at 2 unit) x h.0.0, near limited (text_at 3 unit) y h.0.1)

component_kept : Limited → (entry : Block Token) (component : Component) → SaysComponent entry component → ComponentKeeps component
component_kept limited entry component h = stated_kept SaysPlace PlaceKeeps (place_kept limited) _ component.place h.place

blockage_kept : Limited → Signed → (shape : After) (blockage : Blockage) → SaysBlockage shape blockage → BlockageKeeps blockage
blockage_kept limited signed shape blockage h = record {
  spacing = stated_kept SaysSpacing IsLength (λ unit v k. length_kept limited signed (text_at 1 unit) v k) _ blockage.spacing h.spacing;
  rect = rect_kept limited 2 shape.unit blockage.rect h.rect;
}

rects_kept : Limited → (entry : Block Token) (rects : List Rect) → SaysRects entry rects → (0 < length rects) × All AreaKeeps rects
rects_kept limited entry [] h = absurd h
rects_kept limited entry (rect ∷ rects) h = (
  omega arith,
  All-cons AreaKeeps rect rects (area_kept limited 3 entry.head rect h.0)
      (in-turn-all (SaysArea 1) AreaKeeps (area_kept limited 1) (filter is_more entry.body) rects h.1),
)

region_kept : Limited → (entry : Block Token) (region : Fence) → SaysRegion entry region → RegionKeeps region
region_kept limited entry region h = record {
  some = (rects_kept limited entry region.rects h.rects).0;
  rects = (rects_kept limited entry region.rects h.rects).1;
}

-- ## the record

units_kept : Limited → Signed → (unit : List Token) (n : ℕ) → SaysUnits unit n → (1 ≤ n) × (n ≤ 20000)
units_kept limited signed unit n h =
    let some : pos 0 <ℤ pos n = signed (place_of Microns) (text_at 3 unit) (pos n) h in
    let few : unsigned_abs (pos n) ≤ 20000 = limited (place_of Microns) (text_at 3 unit) (pos n) h in
    (omega (arith, ints, some), few)

pub design_is : (text : List (List Token)) (said : Said) (design : Design) → HoldsSaid text said →
    said.top.name ≡ Some design.name → said.top.units ≡ Some design.units → said.top.die ≡ Some design.die →
    design.rows ≡ said.rows.items → design.components ≡ said.components.items.items → design.blockages ≡ said.blockages.items.items →
    design.regions ≡ said.regions.items.items → IsDesign text design
design_is text said design h name units die rows components blockages regions = record {
  name = subst (λ z. Stated SaysName (first_with is_design text) z) name h.top.name;
  units = subst (λ z. Stated SaysUnits (first_with is_units text) z) units h.top.units;
  die = subst (λ z. Stated SaysDie (first_with is_die text) z) die h.top.die;
  rows = subst (λ z. InTurn SaysRow (filter is_row text) z) (sym rows) h.rows;
  components = subst (λ z. InTurn SaysComponent (blocks is_component text) z) (sym components) h.components.entries;
  blockages = subst (λ z. InTurn SaysBlockage (filter blocks_wires (each_after [] text)) z) (sym blockages) h.blockages.items;
  regions = subst (λ z. InTurn SaysRegion (blocks is_region text) z) (sym regions) h.regions.entries;
}

pub design_kept : Limited → Signed → (text : List (List Token)) (said : Said) (design : Design) → HoldsSaid text said → IsDesign text design →
    design.components ≡ said.components.items.items → design.regions ≡ said.regions.items.items →
    AreDistinct said.components.names.names → AreDistinct said.regions.names.names → DesignKeeps design
design_kept limited signed text said design h is components regions one two = record {
  some_units = (stated_kept SaysUnits (λ n. (1 ≤ n) × (n ≤ 20000)) (units_kept limited signed) _ (Some design.units) is.units).0;
  units = (stated_kept SaysUnits (λ n. (1 ≤ n) × (n ≤ 20000)) (units_kept limited signed) _ (Some design.units) is.units).1;
  die = stated_kept SaysDie AreaKeeps (area_kept limited 2) _ (Some design.die) is.die;
  rows = in-turn-all SaysRow RowKeeps (row_kept limited signed) _ design.rows is.rows;
  components = in-turn-all SaysComponent ComponentKeeps (component_kept limited) _ design.components is.components;
  component_names = subst (λ (z : List Component). AreDistinct (map (λ component. component.name) z)) (sym components)
      (names-differ SaysComponent head_name (λ component. component.name) (λ entry component k. k.name) _ (components_of said.components) h.components one);
  blockages = in-turn-all SaysBlockage BlockageKeeps (blockage_kept limited signed) _ design.blockages is.blockages;
  regions = in-turn-all SaysRegion RegionKeeps (region_kept limited) _ design.regions is.regions;
  region_names = subst (λ (z : List Fence). AreDistinct (map (λ region. region.name) z)) (sym regions)
      (names-differ SaysRegion head_name (λ region. region.name) (λ entry region k. k.name) _ (regions_of said.regions) h.regions two);
}
