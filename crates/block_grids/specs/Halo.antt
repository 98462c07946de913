-- The halos of grids (OpenROAD PDN manual, define_pdn_grid: -halo).
use Rattle.std.specs.Prelude.{◌≡◌, ℕ, ℤ, pos, ◌*◌, ◌/◌, ◌%◌, Bool, ◌||◌, if◌then◌else◌, List, length, slice_index_or, Option, Some, None}
use Rattle.std.specs.Bool.{nat_eq}
use Rattle.std.specs.List.{position_from}
use Rattle.std.specs.Option.{is_none}
use Rattle.pdn_script.specs.declared.record.GridRule.{GridRule}
use Rattle.pdn_script.specs.declared.record.Script.{Script}
use Rattle.block_grids.specs.declared.halo.Halo.{Halo}

-- A length in pm as units, of which a micrometre has so many, where it is a whole number of them.
abbrev pub whole : ℕ → ℕ → Option ℤ
whole units length =
    if nat_eq (length * units % 1000000) 0 then Some (pos (length * units / 1000000)) else None

-- All four sides, where each stands.
abbrev pub with_sides : Option ℤ → Option ℤ → Option ℤ → Option ℤ → Option Halo
with_sides (Some left) (Some bottom) (Some right) (Some top) =
    Some (record { left = left; bottom = bottom; right = right; top = top })
with_sides _ _ _ _ = None

-- One length, two or four.
abbrev pub is_count : ℕ → Bool
is_count count = nat_eq count 1 || nat_eq count 2 || nat_eq count 4

-- A side, from 0: left, bottom, right and top. Fewer lengths hold in turn.
abbrev pub side : ℕ → List ℕ → ℕ → Option ℤ
side units lengths k = whole units (slice_index_or lengths (k % length lengths) 0)

-- The halo of these lengths. None where they are of another number, or one of them is no whole number of units.
abbrev pub halo_of : ℕ → List ℕ → Option Halo
halo_of units lengths = if is_count (length lengths)
    then with_sides (side units lengths 0) (side units lengths 1) (side units lengths 2) (side units lengths 3)
    else None

-- It keeps nothing away.
abbrev pub no_halo : Halo
no_halo = record { left = pos 0; bottom = pos 0; right = pos 0; top = pos 0 }

abbrev pub stated_halo : ℕ → Option (List ℕ) → Option Halo
stated_halo units None = Some no_halo
stated_halo units (Some lengths) = halo_of units lengths

-- The halo of a grid. One that is not over macros, and one that states none, keeps nothing away.
abbrev pub grid_halo : ℕ → GridRule → Option Halo
grid_halo units grid = if grid.macro_ then stated_halo units grid.halo else Some no_halo

abbrev pub HasHalo : ℕ → GridRule → Halo → Type 0
HasHalo units grid halo = grid_halo units grid ≡ Some halo

-- The place of the first grid whose halo is none.
abbrev pub is_bad : ℕ → GridRule → Bool
is_bad units grid = is_none (grid_halo units grid)

abbrev pub first_bad : ℕ → Script → Option ℕ
first_bad units script = position_from (is_bad units) 0 script.grids
