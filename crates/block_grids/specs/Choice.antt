-- Which grid a block has (OpenROAD PDN manual, define_pdn_grid: -macro, -instances, -cells, -orient; LEF/DEF 5.8 Language
-- Reference, "Specifying Orientation").
use Rattle.std.specs.Prelude.{ℕ, Bool, true, false, not, ◌&&◌, ◌||◌, List, Option, Some, None, codes}
use Rattle.std.specs.List.{list_any, position}
use Rattle.std.specs.Option.{is_none, option_or}
use Rattle.std.specs.Str.{bytes_eq}
use Rattle.geom_rect.specs.declared.direction.Orient.{Orient}
use Rattle.geom_rect.specs.declared.direction.Orient.TheVariants.{N, S, W, E, FN, FS, FW, FE}
use Rattle.pdn_script.specs.declared.record.GridRule.{GridRule}

-- The two names of an orientation: its word in DEF, and that of its turn.
abbrev pub names_of : Orient → List ℕ × List ℕ
names_of N = (codes "N", codes "R0")
names_of S = (codes "S", codes "R180")
names_of W = (codes "W", codes "R90")
names_of E = (codes "E", codes "R270")
names_of FN = (codes "FN", codes "MY")
names_of FS = (codes "FS", codes "MX")
names_of FW = (codes "FW", codes "MXR90")
names_of FE = (codes "FE", codes "MYR90")

abbrev pub is_name_of : Orient → List ℕ → Bool
is_name_of orient name = bytes_eq name (names_of orient).0 || bytes_eq name (names_of orient).1

-- A grid that states orientations is for those alone.
abbrev pub allows : Option (List (List ℕ)) → Orient → Bool
allows None orient = true
allows (Some stated) orient = list_any (is_name_of orient) stated

-- A grid over macros, for blocks with this orientation.
abbrev pub is_for : Orient → GridRule → Bool
is_for orient grid = grid.macro_ && allows grid.orient orient

-- An option is stated, and has the name.
abbrev pub names : Option (List (List ℕ)) → List ℕ → Bool
names None name = false
names (Some listed) name = list_any (bytes_eq name) listed

-- Such a grid names the component, or its macro, or has neither option.
abbrev pub has_instance : List ℕ → Orient → GridRule → Bool
has_instance component orient grid = is_for orient grid && names grid.instances component

abbrev pub has_cell : List ℕ → Orient → GridRule → Bool
has_cell cell orient grid = is_for orient grid && names grid.cells cell

abbrev pub has_neither : GridRule → Bool
has_neither grid = is_none grid.instances && is_none grid.cells

abbrev pub is_open : Orient → GridRule → Bool
is_open orient grid = is_for orient grid && has_neither grid

-- The place of the grid of a block: the first that names its component; where there is none, the first that names its
-- macro; where there is none either, the first that has neither option.
abbrev pub grid_of : List GridRule → List ℕ → List ℕ → Orient → Option ℕ
grid_of grids component cell orient = option_or (position (has_instance component orient) grids)
    (option_or (position (has_cell cell orient) grids) (position (is_open orient) grids))
