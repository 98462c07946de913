-- The placed design (LEF/DEF 5.8 Language Reference, DIEAREA, ROW, COMPONENTS): so many rows of as many cells, 2000 units a
-- micrometre. A row is 2800 units high, and a cell as wide.
use Rattle.std.specs.Prelude.{ℕ, ◌+◌, ◌*◌, ◌/◌, ◌%◌, ◌^◌, suc, zero, List, ◌++◌, codes, if◌then◌else◌}
use Rattle.std.specs.Bool.{nat_eq}
use Rattle.std.specs.List.{flat_map, range_with_len}
use Rattle.grid_gen.specs.Fixed.{units_lines, end_lines}
use Rattle.grid_gen.specs.Part.{part}

-- The die: as wide and as high as its cells.
abbrev pub area_line : ℕ → List ℕ
area_line side = part (codes "DIEAREA ( 0 0 ) ( ") (2800 * side) ++ part (codes " ") (2800 * side) ++ codes " ) ;\n"

-- What stands before the rows.
abbrev pub head_of : ℕ → List ℕ
head_of side = units_lines ++ area_line side

-- Rows stand upright and flipped in turn.
abbrev pub orient_of : ℕ → List ℕ
orient_of row = if nat_eq (row % 2) 0 then codes " N" else codes " FS"

-- A row: so many sites of 400 units from 0 on.
abbrev pub row_line : ℕ → ℕ → List ℕ
row_line side row =
    part (codes "ROW row_") row ++ part (codes " unit 0 ") (2800 * row) ++ orient_of row
    ++ part (codes " DO ") (7 * side) ++ codes " BY 1 STEP 400 0 ;\n"

-- What follows on a state of 64 bits (a linear congruential generator, with the numbers of Knuth's MMIX).
abbrev pub next_state : ℕ → ℕ
next_state state = (state * 6364136223846793005 + 1442695040888963407) % 2 ^ 64

-- The state after so many steps from the number.
unfoldable pub state_after : ℕ → ℕ → ℕ
state_after number zero = number
state_after number (suc k) = next_state (state_after number k)

-- The cell that a state picks: its two highest bits.
abbrev pub cell_of : ℕ → ℕ
cell_of state = state / 2 ^ 62

-- The component at a place in a row, with its cell, in the row's orientation.
abbrev pub name_part : ℕ → ℕ → ℕ → List ℕ
name_part row place cell = part (codes "- u") row ++ part (codes "_") place ++ part (codes " C") cell

abbrev pub corner_part : ℕ → ℕ → List ℕ
corner_part row place = part (codes " + PLACED ( ") (2800 * place) ++ part (codes " ") (2800 * row) ++ codes " )"

abbrev pub component_entry : ℕ → ℕ → ℕ → List ℕ
component_entry row place cell = name_part row place cell ++ corner_part row place ++ orient_of row ++ codes " ;\n"

-- The k-th component, from 0, row by row. Before each the state goes on by a step.
abbrev pub component_line : ℕ → ℕ → ℕ → List ℕ
component_line number side k = component_entry (k / side) (k % side) (cell_of (state_after number (k + 1)))

-- What stands before the components.
abbrev pub components_head : ℕ → List ℕ
components_head side = part (codes "COMPONENTS ") (side * side) ++ codes " ;\n"

-- The text of the design.
abbrev pub design_text : ℕ → ℕ → List ℕ
design_text number side =
    head_of side ++ flat_map (row_line side) (range_with_len 0 side) ++ components_head side
    ++ flat_map (component_line number side) (range_with_len 0 (side * side)) ++ end_lines
