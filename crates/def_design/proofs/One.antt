-- The units of a text say one record.
use Rattle.std.proofs.Common.{◌≡◌, ℕ, ◌+◌, ℤ, pos, Bool, true, false, List, [], ◌∷◌, filter, Option, Some, None, Result, Ok, Err, IfOk, IfErr, inl, refl, sym, ◌∙◌, ap}
use Rattle.entry_list.specs.Laws.{in-turn-one}
use Rattle.geom_rect.specs.declared.direction.Orient.{Orient}
use Rattle.geom_rect.specs.declared.rect.Rect.{Rect}
use Rattle.def_design.specs.declared.error.DefKind.{DefKind}
use Rattle.def_design.specs.declared.error.DefKind.TheVariants.{Want}
use Rattle.def_design.specs.declared.held.Held.{Held}
use Rattle.def_design.specs.declared.number.Quantity.TheVariants.{Any, NotNegative, Positive, Microns}
use Rattle.def_design.specs.declared.record.Blockage.{Blockage}
use Rattle.def_design.specs.declared.record.Component.{Component}
use Rattle.def_design.specs.declared.record.Design.{Design}
use Rattle.def_design.specs.declared.record.Fence.{Fence}
use Rattle.def_design.specs.declared.record.Row.{Row}
use Rattle.def_design.specs.Format.{format, kinds, ReadsText}
use Rattle.def_design.specs.inside.Held.{Holds, HoldsSaid}
use Rattle.def_design.specs.Record.{Stated, SaysPoint, between, SaysRect, SaysArea, SaysName, SaysUnits, SaysDie, SaysCount, SaysStep, SaysRow, SaysPlace, SaysComponent, After, SaysSpacing, SaysBlockage, SaysRects, SaysRegion, IsDesign}
use Rattle.def_design.specs.Unit.{is_more}
use Rattle.def_design.proofs.Numbers.{HasOne, value_one}
use Rattle.def_statements.specs.Unit.{text_at}
use Rattle.reading.specs.declared.error.ReadError.{ReadError}
use Rattle.reading.specs.Blocks.{Block}
use Rattle.reading.specs.Error.{ReadsRecord}
use Rattle.reading.specs.Word.{Token}
use Rattle.text_lex.specs.declared.word.Mode.TheVariants.{LefDef}

stated_one : {E : Type 0} (says : List Token → E → Type 0) → ((unit : List Token) (e f : E) → says unit e → says unit f → e ≡ f) →
    (o : Option (List Token)) (a b : Option E) → Stated says o a → Stated says o b → a ≡ b
stated_one says one None None None h k = refl
stated_one says one None None (Some f) h k = absurd k
stated_one says one None (Some e) b h k = absurd h
stated_one says one (Some unit) None b h k = absurd h
stated_one says one (Some unit) (Some e) None h k = absurd k
stated_one says one (Some unit) (Some e) (Some f) h k = ap (λ z. Some z) (one unit e f h k)

some_is : {E : Type 0} (e f : E) → ◌≡◌ {A = Option E} (Some e) (Some f) → e ≡ f
some_is {E} e f h = cc

-- ## rectangles

point_one : HasOne → (n : ℕ) (unit : List Token) (x y z w : ℤ) → SaysPoint n unit x y → SaysPoint n unit z w → (x ≡ z) × (y ≡ w)
point_one one n unit x y z w h k = (value_one one Any (text_at n unit) x z h.0 k.0, value_one one Any (text_at (n + 1) unit) y w h.1 k.1)

rect_one : HasOne → (n : ℕ) (unit : List Token) (a b : Rect) → SaysRect n unit a → SaysRect n unit b → a ≡ b
rect_one one n unit a b h k =
    let p = point_one one n unit h.0 h.1 k.0 k.1 h.4 k.4 in
    let q = point_one one (n + 4) unit h.2 h.3 k.2 k.3 h.5 k.5 in
    h.6 ∙ ap (λ t. between t h.1 h.2 h.3) p.0 ∙ ap (λ t. between k.0 t h.2 h.3) p.1 ∙ ap (λ t. between k.0 k.1 t h.3) q.0
    ∙ ap (λ t. between k.0 k.1 k.2 t) q.1 ∙ sym k.6

area_one : HasOne → (n : ℕ) (unit : List Token) (a b : Rect) → SaysArea n unit a → SaysArea n unit b → a ≡ b
area_one one n unit a b h k = rect_one one n unit a b h.0 k.0

-- ## the design itself

name_one : (unit : List Token) (a b : List ℕ) → SaysName unit a → SaysName unit b → a ≡ b
name_one unit a b h k = h ∙ sym k

pos_is : (a b : ℕ) → pos a ≡ pos b → a ≡ b
pos_is a b h = cc

units_one : HasOne → (unit : List Token) (a b : ℕ) → SaysUnits unit a → SaysUnits unit b → a ≡ b
units_one one unit a b h k = pos_is a b (value_one one Microns (text_at 3 unit) (pos a) (pos b) h k)

-- ## rows

count_one : HasOne → (says : Bool) (unit : List Token) (a b : ℤ) → SaysCount says unit a → SaysCount says unit b → a ≡ b
count_one one true unit a b h k = value_one one Positive (text_at 7 unit) a b h k
count_one one false unit a b h k = h ∙ sym k

step_one : HasOne → (says : Bool) (unit : List Token) (a b : Option ℤ) → SaysStep says unit a → SaysStep says unit b → a ≡ b
step_one one true unit (Some a) (Some b) h k = ap (λ z. Some z) (value_one one NotNegative (text_at 11 unit) a b h k)
step_one one true unit (Some a) None h k = absurd k
step_one one true unit None b h k = absurd h
step_one one false unit None None h k = refl
step_one one false unit None (Some b) h k = absurd k
step_one one false unit (Some a) b h k = absurd h

abbrev the_row : Row → Row
the_row a = a

same_row : (a b : Row) → a.name ≡ b.name → a.site ≡ b.site → a.x ≡ b.x → a.y ≡ b.y → a.orient ≡ b.orient → a.count ≡ b.count → a.step ≡ b.step → a ≡ b
same_row a b d e f g h i j =
    ap (λ z. the_row (record { name = z; site = a.site; x = a.x; y = a.y; orient = a.orient; count = a.count; step = a.step })) d
    ∙ ap (λ z. the_row (record { name = b.name; site = z; x = a.x; y = a.y; orient = a.orient; count = a.count; step = a.step })) e
    ∙ ap (λ z. the_row (record { name = b.name; site = b.site; x = z; y = a.y; orient = a.orient; count = a.count; step = a.step })) f
    ∙ ap (λ z. the_row (record { name = b.name; site = b.site; x = b.x; y = z; orient = a.orient; count = a.count; step = a.step })) g
    ∙ ap (λ z. the_row (record { name = b.name; site = b.site; x = b.x; y = b.y; orient = z; count = a.count; step = a.step })) h
    ∙ ap (λ z. the_row (record { name = b.name; site = b.site; x = b.x; y = b.y; orient = b.orient; count = z; step = a.step })) i
    ∙ ap (λ z. the_row (record { name = b.name; site = b.site; x = b.x; y = b.y; orient = b.orient; count = b.count; step = z })) j

row_one : HasOne → (unit : List Token) (a b : Row) → SaysRow unit a → SaysRow unit b → a ≡ b
row_one one unit a b h k =
    same_row a b (h.name ∙ sym k.name) (h.site ∙ sym k.site) (value_one one Any (text_at 3 unit) a.x b.x h.x k.x)
    (value_one one Any (text_at 4 unit) a.y b.y h.y k.y) (some_is a.orient b.orient (sym h.orient ∙ k.orient))
    (count_one one _ unit a.count b.count h.count k.count) (step_one one _ unit a.step b.step h.step k.step)

-- ## components

abbrev the_place : ℤ × ℤ × Orient → ℤ × ℤ × Orient
the_place p = p

place_one : HasOne → (unit : List Token) (p q : ℤ × ℤ × Orient) → SaysPlace unit p → SaysPlace unit q → p ≡ q
place_one one unit (x, y, o) (z, w, u) h k =
    let p = point_one one 2 unit x y z w h.0 k.0 in
    ap (λ t. the_place (t, y, o)) p.0 ∙ ap (λ t. the_place (z, t, o)) p.1 ∙ ap (λ t. the_place (z, w, t)) (some_is o u (sym h.1 ∙ k.1))

abbrev the_component : Component → Component
the_component a = a

component_one : HasOne → (entry : Block Token) (a b : Component) → SaysComponent entry a → SaysComponent entry b → a ≡ b
component_one one entry a b h k =
    ap (λ z. the_component (record { name = z; cell = a.cell; place = a.place })) (h.name ∙ sym k.name)
    ∙ ap (λ z. the_component (record { name = b.name; cell = z; place = a.place })) (h.cell ∙ sym k.cell)
    ∙ ap (λ z. the_component (record { name = b.name; cell = b.cell; place = z })) (stated_one SaysPlace (place_one one) _ a.place b.place h.place k.place)

-- ## blockages

spacing_one : HasOne → (unit : List Token) (a b : ℤ) → SaysSpacing unit a → SaysSpacing unit b → a ≡ b
spacing_one one unit a b h k = value_one one NotNegative (text_at 1 unit) a b h k

abbrev the_blockage : Blockage → Blockage
the_blockage a = a

blockage_one : HasOne → (shape : After) (a b : Blockage) → SaysBlockage shape a → SaysBlockage shape b → a ≡ b
blockage_one one shape a b h k =
    ap (λ z. the_blockage (record { layer = z; spacing = a.spacing; rect = a.rect })) (h.layer ∙ sym k.layer)
    ∙ ap (λ z. the_blockage (record { layer = b.layer; spacing = z; rect = a.rect })) (stated_one SaysSpacing (spacing_one one) _ a.spacing b.spacing h.spacing k.spacing)
    ∙ ap (λ z. the_blockage (record { layer = b.layer; spacing = b.spacing; rect = z })) (rect_one one 2 shape.unit a.rect b.rect h.rect k.rect)

-- ## regions

rects_one : HasOne → (entry : Block Token) (a b : List Rect) → SaysRects entry a → SaysRects entry b → a ≡ b
rects_one one entry [] b h k = absurd h
rects_one one entry (r ∷ rs) [] h k = absurd k
rects_one one entry (r ∷ rs) (s ∷ ss) h k =
    ap (λ z. z ∷ rs) (area_one one 3 entry.head r s h.0 k.0)
    ∙ ap (λ z. s ∷ z) (in-turn-one (SaysArea 1) (area_one one 1) (filter is_more entry.body) rs ss h.1 k.1)

abbrev the_region : Fence → Fence
the_region a = a

region_one : HasOne → (entry : Block Token) (a b : Fence) → SaysRegion entry a → SaysRegion entry b → a ≡ b
region_one one entry a b h k =
    ap (λ z. the_region (record { name = z; rects = a.rects })) (h.name ∙ sym k.name)
    ∙ ap (λ z. the_region (record { name = b.name; rects = z })) (rects_one one entry a.rects b.rects h.rects k.rects)

-- ## the record

abbrev the_design : Design → Design
the_design a = a

same_design : (a b : Design) → a.name ≡ b.name → a.units ≡ b.units → a.die ≡ b.die → a.rows ≡ b.rows → a.components ≡ b.components → a.blockages ≡ b.blockages →
    a.regions ≡ b.regions → a ≡ b
same_design a b d e f g h i j =
    ap (λ z. the_design (record { name = z; units = a.units; die = a.die; rows = a.rows; components = a.components; blockages = a.blockages; regions = a.regions })) d
    ∙ ap (λ z. the_design (record { name = b.name; units = z; die = a.die; rows = a.rows; components = a.components; blockages = a.blockages; regions = a.regions })) e
    ∙ ap (λ z. the_design (record { name = b.name; units = b.units; die = z; rows = a.rows; components = a.components; blockages = a.blockages; regions = a.regions })) f
    ∙ ap (λ z. the_design (record { name = b.name; units = b.units; die = b.die; rows = z; components = a.components; blockages = a.blockages; regions = a.regions })) g
    ∙ ap (λ z. the_design (record { name = b.name; units = b.units; die = b.die; rows = b.rows; components = z; blockages = a.blockages; regions = a.regions })) h
    ∙ ap (λ z. the_design (record { name = b.name; units = b.units; die = b.die; rows = b.rows; components = b.components; blockages = z; regions = a.regions })) i
    ∙ ap (λ z. the_design (record { name = b.name; units = b.units; die = b.die; rows = b.rows; components = b.components; blockages = b.blockages; regions = z })) j

pub design_one : HasOne → (text : List (List Token)) (a b : Design) → IsDesign text a → IsDesign text b → a ≡ b
design_one one text a b h k =
    same_design a b (some_is a.name b.name (stated_one SaysName name_one _ (Some a.name) (Some b.name) h.name k.name))
    (some_is a.units b.units (stated_one SaysUnits (units_one one) _ (Some a.units) (Some b.units) h.units k.units))
    (some_is a.die b.die (stated_one SaysDie (area_one one 2) _ (Some a.die) (Some b.die) h.die k.die))
    (in-turn-one SaysRow (row_one one) _ a.rows b.rows h.rows k.rows)
    (in-turn-one SaysComponent (component_one one) _ a.components b.components h.components k.components)
    (in-turn-one SaysBlockage (blockage_one one) _ a.blockages b.blockages h.blockages k.blockages)
    (in-turn-one SaysRegion (region_one one) _ a.regions b.regions h.regions k.regions)

-- What the units that were held say is the text's record.
pub design_read : (wiring : Bool) (text : List ℕ) (held : Held) (x : Unit {0}) (r : Result Design (ReadError DefKind)) →
    ReadsRecord {R = Unit {0}} kinds LefDef text (format wiring) (λ units told. Holds units held) (Ok x) →
    ((units : List (List Token)) → HoldsSaid units held.said → IfOk r (IsDesign units)) → IfErr r (λ error. error.kind ≡ Want) → ReadsText wiring text r
design_read wiring text held x (Ok design) h told want = (h.0, h.1, h.2, h.3, told h.2 h.4.said)
design_read wiring text held x (Err error) h told want = inl want
