-- What is known of a block: its macro, the range of its current, and one domain that owns it.
use Rattle.std.proofs.Common.{◌≡◌, ◌⊎◌, inl, inr, ℕ, ◌+◌, ◌<◌, ◌≤◌, ℤ, Bool, true, false, cond, List, [], ◌∷◌, All, Contains, length, get_or, Option, Some, None, refl, sym, ap, ◌∙◌, subst, arith}
use Rattle.std.specs.List.{position_from, slice_get}
use Rattle.std.specs.Option.{is_some}
use Rattle.std.specs.Str.{bytes_eq}
use Rattle.std.proofs.lemmas.Bool.{false≢true, and_parts}
use Rattle.std.proofs.lemmas.Int.{ints}
use Rattle.std.proofs.lemmas.List.{get_or-map, length-map}
use Rattle.std.proofs.lemmas.List.Elements.{All-contains}
use Rattle.std.proofs.lemmas.Option.{slice_get_cases}
use Rattle.std.proofs.lemmas.Slice.Eq.{bytes_eq-Decides}
use Rattle.name_table.specs.Laws.{member_head, member_tail}
use Rattle.name_places.specs.Places.{place_of}
use Rattle.geom_rect.specs.declared.direction.Orient.{Orient}
use Rattle.lef_cells.specs.declared.record.Cells.{Cells}
use Rattle.lef_cells.specs.declared.record.MacroCell.{MacroCell}
use Rattle.lef_cells.specs.Limits.{CellsKeep}
use Rattle.def_design.specs.declared.record.Component.{Component}
use Rattle.bias_file.specs.declared.record.Amps.{Amps}
use Rattle.bias_file.specs.declared.record.Bias.{Bias}
use Rattle.bias_file.specs.Limits.{AmpsKeep, BiasKeeps}
use Rattle.grid_cores.specs.Owner.{IsFirstOwner}
use Rattle.block_grids.specs.Blocks.{macro_names, if_block, block_cell, is_block}
use Rattle.grid_pieces.specs.Laws.Amongst.{same_value}
use Rattle.grid_pieces.specs.declared.grid.DomainAt.{DomainAt}
use Rattle.grid_pieces.specs.declared.grid.Grid.{Grid}
use Rattle.grid_taps.specs.declared.column.Column.{Column}
use Rattle.grid_taps.specs.inside.Tapping.{AmpsRange}
use Rattle.grid_taps.specs.Tables.{HasNoSeat}
use Rattle.grid_taps.specs.Taps.{IsLine, IsRange, column_of, IsMacroOf, regions_of, IsPlaced, IsUnowned}
use Rattle.grid_taps.specs.Laws.Unique.{one_place}
use Rattle.pin_taps.specs.Taps.{IsOwned}

-- ## the range of its current

line_keeps : (lines : List Amps) (name : List ℕ) (low high : ℤ) → All AmpsKeep lines → IsLine lines name low high → AmpsRange low high
line_keeps lines name low high keep (amps, among, (is_name, is_low, is_high)) =
    let keeps : AmpsKeep amps = All-contains AmpsKeep lines amps keep among in
    subst (λ (z : ℤ). AmpsRange z high) is_low (subst (λ (z : ℤ). AmpsRange amps.low z) is_high keeps)

pub range_keeps : (bias : Bias) → BiasKeeps bias → (component : Component) (low high : ℤ) → IsRange bias component low high → AmpsRange low high
range_keeps bias keeps component low high (inl line) = line_keeps bias.instances component.name low high keeps.instances line
range_keeps bias keeps component low high (inr (inl by_cell)) = line_keeps bias.cells component.cell low high keeps.cells by_cell.1
range_keeps bias keeps component low high (inr (inr none)) =
    let is_low = none.2 in
    let is_high = none.3 in
    (omega (arith, ints), omega (arith, ints), omega (arith, ints))

-- ## its macro

-- a name that has a place stands in the list
named_step : (x name : List ℕ) (names : List (List ℕ)) (i : ℕ) (rest : Option ℕ) → (is_some rest ≡ true → Contains names name) → (b : Bool) → bytes_eq x name ≡ b
    → is_some (cond b (Some i) rest) ≡ true → Contains (x ∷ names) name
named_step x name names i rest later true is h = subst (λ (z : List ℕ). Contains (x ∷ names) z) ((bytes_eq-Decides x name).0 is) (member_head x names)
named_step x name names i rest later false is h = member_tail x names name (later h)

named : (names : List (List ℕ)) (name : List ℕ) (i : ℕ) → is_some (position_from (λ (other : List ℕ). bytes_eq other name) i names) ≡ true → Contains names name
named [] name i h = absurd (false≢true h)
named (x ∷ names) name i h =
    named_step x name names i (position_from (λ (other : List ℕ). bytes_eq other name) (i + 1) names) (λ g. named names name (i + 1) g) (bytes_eq x name) refl h

some_place : (cells : Cells) (place : Option ℕ) → is_some (if_block cells place) ≡ true → is_some place ≡ true
some_place cells None h = h
some_place cells (Some place) h = refl

pub known_macro : (cells : Cells) (component : Component) → is_block cells component ≡ true → Contains (macro_names cells) component.cell
known_macro cells component block =
    named (macro_names cells) component.cell 0
    (some_place cells (place_of (macro_names cells) component.cell) (and_parts (is_some component.place) (is_some (block_cell cells component)) block).1)

-- a block without a seat has no owner
pub without_seat : (grid : Grid) (cells : Cells) (component : Component) → is_block cells component ≡ true → HasNoSeat grid cells component → IsUnowned grid component
without_seat grid cells component block (inl unplaced) =
    absurd (false≢true (sym (ap is_some unplaced) ∙ (and_parts (is_some component.place) (is_some (block_cell cells component)) block).0))
without_seat grid cells component block (inr (inl unknown)) = absurd (unknown (known_macro cells component block))
without_seat grid cells component block (inr (inr unowned)) = unowned

macro_at : (cells : Cells) (component : Component) (k : ℕ) → k < length (macro_names cells) → get_or (macro_names cells) k component.cell ≡ component.cell
    → ((cell : MacroCell) × (k < length cells.macros) × (slice_get cells.macros k ≡ Some cell) × (get_or cells.macros k cell ≡ cell)) ⊎ ((length cells.macros ≤ k) × (slice_get cells.macros k ≡ None))
    → (cell : MacroCell) × IsMacroOf cells component cell
macro_at cells component k within named (inl (cell, below, is_some_cell, is)) =
    let name : MacroCell → List ℕ = λ (m : MacroCell). m.name in
    (cell, ((k, below, is), sym (ap name is) ∙ sym (get_or-map name cells.macros k cell component.cell below) ∙ named))
macro_at cells component k within named (inr (above, _)) = absurd (omega (arith, within, above, length-map cells.macros (λ (m : MacroCell). m.name)))

macro_of : (cells : Cells) (component : Component) → Contains (macro_names cells) component.cell → (cell : MacroCell) × IsMacroOf cells component cell
macro_of cells component (k, within, named) = macro_at cells component k within named (slice_get_cases cells.macros k).1

-- ## its owner

placed : (grid : Grid) (cells : Cells) (component : Component) (cell : MacroCell) (domain : DomainAt) → IsMacroOf cells component cell → (owned : IsOwned grid component domain)
    → IsPlaced grid cells component (column_of grid.units cell (owned.x, owned.y, owned.orient)) domain
placed grid cells component cell domain is owned =
    record { x = owned.x; y = owned.y; orient = owned.orient; cell = cell; place = owned.place; is = is; owner = owned.owner; column_is = refl }

pub one_domain : (grid : Grid) (cells : Cells) → CellsKeep cells → (component : Component) (domain other : DomainAt) → is_block cells component ≡ true
    → IsOwned grid component domain → IsOwned grid component other → domain ≡ other
one_domain grid cells keep component domain other block one two =
    let of_macro = macro_of cells component (known_macro cells component block) in
    (one_place grid cells keep component (column_of grid.units of_macro.0 (one.x, one.y, one.orient)) (column_of grid.units of_macro.0 (two.x, two.y, two.orient)) domain other
    (placed grid cells component of_macro.0 domain of_macro.1 one) (placed grid cells component of_macro.0 other of_macro.1 two)).1

pub owned_or_not : (grid : Grid) (component : Component) (domain : DomainAt) → IsOwned grid component domain → IsUnowned grid component → ⊥
owned_or_not grid component domain owned unowned =
    let place : ℤ × ℤ × Orient = (owned.x, owned.y, owned.orient) in
    let place' : ℤ × ℤ × Orient = (unowned.x, unowned.y, unowned.orient) in
    let same : place ≡ place' = same_value place place' (sym owned.place ∙ unowned.place) in
    let k = owned.owner.0 in
    let first = subst (λ (z : ℤ × ℤ). IsFirstOwner (regions_of grid) z k) (ap (λ (z : ℤ × ℤ × Orient). (z.0, z.1)) same) owned.owner.1 in
    false≢true (sym (unowned.none k first.within) ∙ first.owns)

pub owned : (grid : Grid) (cells : Cells) (component : Component) (column : Column) (domain : DomainAt) → IsPlaced grid cells component column domain → IsOwned grid component domain
owned grid cells component column domain is = record { x = is.x; y = is.y; orient = is.orient; place = is.place; owner = is.owner }
