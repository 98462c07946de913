-- What the units of a design say.
use Rattle.std.specs.Prelude.{◌≡◌, ℕ, ◌+◌, ℤ, pos, ◌<ℤ◌, ◌&&◌, not, Bool, true, false, List, [], ◌∷◌, ◌++◌, filter, Option, Some, None}
use Rattle.std.specs.Int.{int_min, int_max}
use Rattle.std.specs.List.{list_any}
use Rattle.entry_list.specs.InTurn.{InTurn}
use Rattle.geom_rect.specs.declared.direction.Orient.{Orient}
use Rattle.geom_rect.specs.declared.rect.Rect.{Rect}
use Rattle.def_design.specs.declared.number.Quantity.TheVariants.{Any, NotNegative, Positive, Microns}
use Rattle.def_design.specs.declared.record.Blockage.{Blockage}
use Rattle.def_design.specs.declared.record.Component.{Component}
use Rattle.def_design.specs.declared.record.Design.{Design}
use Rattle.def_design.specs.declared.record.Fence.{Fence}
use Rattle.def_design.specs.declared.record.Row.{Row}
use Rattle.def_design.specs.Number.{IsNumber}
use Rattle.def_design.specs.Unit.{is_design, is_units, is_die, is_row, is_component, is_placed, is_layer, is_spacing, excepts, is_rect, is_region, is_more, orient_of, upright}
use Rattle.def_statements.specs.declared.sort.Sort.TheVariants as sorts
use Rattle.def_statements.specs.Sort.{the}
use Rattle.def_statements.specs.Unit.{sort_at, text_at}
use Rattle.lef_statements.specs.First.{first_with}
use Rattle.lef_statements.specs.Laws.{extended}
use Rattle.reading.specs.Blocks.{Block, blocks}
use Rattle.reading.specs.Word.{Token}

-- What the first unit of a kind says, where there is one; else there is no value.
abbrev pub Stated : {E : Type 0} → (List Token → E → Type 0) → Option (List Token) → Option E → Type 0
Stated says None None = Unit {0}
Stated says (Some unit) (Some value) = says unit value
Stated says _ _ = ⊥

-- ## rectangles

-- The word that has n words before it, and the next one, are these coordinates.
abbrev pub SaysPoint : ℕ → List Token → ℤ → ℤ → Type 0
SaysPoint n unit x y = IsNumber Any (text_at n unit) x × IsNumber Any (text_at (n + 1) unit) y

-- The least rectangle of two corners, which may come in any order.
abbrev pub between : ℤ → ℤ → ℤ → ℤ → Rect
between x y z w = record { x1 = int_min x z; y1 = int_min y w; x2 = int_max x z; y2 = int_max y w }

-- The corners after this many words and after four more are those of the rectangle.
abbrev pub SaysRect : ℕ → List Token → Rect → Type 0
SaysRect n unit rect = (x : ℤ) × (y : ℤ) × (z : ℤ) × (w : ℤ) × SaysPoint n unit x y × SaysPoint (n + 4) unit z w
    × (rect ≡ between x y z w)

-- They span an area.
abbrev pub SaysArea : ℕ → List Token → Rect → Type 0
SaysArea n unit rect = SaysRect n unit rect × (rect.x1 <ℤ rect.x2) × (rect.y1 <ℤ rect.y2)

-- ## the design itself

-- `DESIGN name ;`.
abbrev pub SaysName : List Token → List ℕ → Type 0
SaysName unit name = name ≡ text_at 1 unit

-- `UNITS DISTANCE MICRONS n ;`.
abbrev pub SaysUnits : List Token → ℕ → Type 0
SaysUnits unit units = IsNumber Microns (text_at 3 unit) (pos units)

-- `DIEAREA ( x y ) ( x y ) ;`.
abbrev pub SaysDie : List Token → Rect → Type 0
SaysDie unit rect = SaysArea 2 unit rect

-- ## rows

-- `DO nx BY ny` repeats the site; without it there is one.
abbrev pub SaysCount : Bool → List Token → ℤ → Type 0
SaysCount true unit count = IsNumber Positive (text_at 7 unit) count
SaysCount false unit count = count ≡ pos 1

-- `STEP sx sy` says how far apart sites are.
abbrev pub SaysStep : Bool → List Token → Option ℤ → Type 0
SaysStep true unit (Some step) = IsNumber NotNegative (text_at 11 unit) step
SaysStep false unit None = Unit {0}
SaysStep _ unit _ = ⊥

-- `ROW name site x y orient`, with `DO nx BY ny` and `STEP sx sy` where they stand.
pub record SaysRow (unit : List Token) (row : Row) : Type 0 where
  pub name : row.name ≡ text_at 1 unit
  pub site : row.site ≡ text_at 2 unit
  pub x : IsNumber Any (text_at 3 unit) row.x
  pub y : IsNumber Any (text_at 4 unit) row.y
  pub orient : upright (sort_at 5 unit) ≡ Some row.orient
  pub count : SaysCount (the sorts.Do (sort_at 6 unit)) unit row.count
  pub step : SaysStep (the sorts.Step (sort_at 10 unit)) unit row.step

-- ## components

-- `PLACED ( x y ) orient`.
abbrev pub SaysPlace : List Token → ℤ × ℤ × Orient → Type 0
SaysPlace unit (x, y, orient) = SaysPoint 2 unit x y × (orient_of (sort_at 5 unit) ≡ Some orient)

-- An entry of COMPONENTS: its head `- name macro`, and the first part that places it.
pub record SaysComponent (entry : Block Token) (component : Component) : Type 0 where
  pub name : component.name ≡ text_at 1 entry.head
  pub cell : component.cell ≡ text_at 2 entry.head
  pub place : Stated SaysPlace (first_with is_placed entry.body) component.place

-- ## blockages

-- A unit with those before it.
pub record After : Type 0 where
  pub before : List (List Token)
  pub unit : List Token

-- Each of the units, after those before it.
abbrev pub each_after : List (List Token) → List (List Token) → List After
each_after before [] = []
each_after before (unit ∷ units) =
    record { before = before; unit = unit } ∷ each_after (before ++ unit ∷ []) units

-- The head of the entry with the units after it, after one more unit.
abbrev pub entry_by : Bool → Block Token → List Token → Block Token
entry_by true entry unit = record { head = unit; body = [] }
entry_by false entry unit = extended entry unit

-- The last `LAYER l` and the units after it.
abbrev pub entry_from : Block Token → List (List Token) → Block Token
entry_from entry [] = entry
entry_from entry (unit ∷ units) = entry_from (entry_by (is_layer unit) entry unit) units

abbrev pub entry_of : List (List Token) → Block Token
entry_of units = entry_from (record { head = []; body = [] }) units

-- A RECT blocks wires, unless a part of its entry excepts those of power grids.
abbrev pub blocks_wires : After → Bool
blocks_wires shape = is_rect shape.unit && not (list_any excepts (entry_of shape.before).body)

-- `SPACING s`.
abbrev pub SaysSpacing : List Token → ℤ → Type 0
SaysSpacing unit spacing = IsNumber NotNegative (text_at 1 unit) spacing

-- A RECT, with the layer and the first spacing of its entry.
pub record SaysBlockage (shape : After) (blockage : Blockage) : Type 0 where
  pub layer : blockage.layer ≡ text_at 1 (entry_of shape.before).head
  pub spacing : Stated SaysSpacing (first_with is_spacing (entry_of shape.before).body) blockage.spacing
  pub rect : SaysRect 2 shape.unit blockage.rect

-- ## regions

-- The rectangle in the head of a region, and those after it.
abbrev pub SaysRects : Block Token → List Rect → Type 0
SaysRects entry [] = ⊥
SaysRects entry (rect ∷ rects) = SaysArea 3 entry.head rect × InTurn (SaysArea 1) (filter is_more entry.body) rects

-- An entry of REGIONS.
pub record SaysRegion (entry : Block Token) (region : Fence) : Type 0 where
  pub name : region.name ≡ text_at 1 entry.head
  pub rects : SaysRects entry region.rects

-- ## the record

-- The design of the units: what they say of its name, its units and its die; its rows; its components and regions by
-- their entries; the rectangles of its blockages. Each list stands in the order of the text.
pub record IsDesign (text : List (List Token)) (design : Design) : Type 0 where
  pub name : Stated SaysName (first_with is_design text) (Some design.name)
  pub units : Stated SaysUnits (first_with is_units text) (Some design.units)
  pub die : Stated SaysDie (first_with is_die text) (Some design.die)
  pub rows : InTurn SaysRow (filter is_row text) design.rows
  pub components : InTurn SaysComponent (blocks is_component text) design.components
  pub blockages : InTurn SaysBlockage (filter blocks_wires (each_after [] text)) design.blockages
  pub regions : InTurn SaysRegion (blocks is_region text) design.regions
