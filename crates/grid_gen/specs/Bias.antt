-- The bias file (this project): supplies, drop limits and currents, and then the pads on metal7 at the left and the right
-- edge of the die.
use Rattle.std.specs.Prelude.{ℕ, ◌+◌, ◌-◌, ◌*◌, ◌/◌, ◌%◌, List, ◌++◌, codes}
use Rattle.std.specs.List.{flat_map, range_with_len}
use Rattle.grid_gen.specs.Part.{part}
use Rattle.grid_gen.specs.Fixed.{supply_lines}

-- A text, and a length of so many tenths of a micrometre, with one place.
abbrev pub tenths : List ℕ → ℕ → List ℕ
tenths text length = part text (length / 10) ++ part (codes ".") (length % 10)

-- A pad at x and y, in tenths of a micrometre.
abbrev pub pad_line : List ℕ → ℕ → ℕ → List ℕ
pad_line net x y = codes "pad " ++ net ++ tenths (codes " metal7 ") x ++ tenths (codes " ") y ++ codes "\n"

-- The left and the right pad at a height, on a die of a width.
abbrev pub pads_at : List ℕ → ℕ → ℕ → List ℕ
pads_at net width height = pad_line net 0 height ++ pad_line net width height

-- How many pads stand at each edge: one each 40 micrometres from the first on, as long as the strap that it is on, which
-- goes 0.7 micrometres further, lies on the die. The die is 14 tenths of a micrometre wide and high for each cell.
abbrev pub pad_count : ℕ → ℕ → ℕ
pad_count first side = (14 * side - (first + 7)) / 400 + 1

-- The pads of a net, of which the first stand at a height.
abbrev pub pad_lines : List ℕ → ℕ → ℕ → List ℕ
pad_lines net first side =
    flat_map (λ (k : ℕ). pads_at net (14 * side) (first + 400 * k)) (range_with_len 0 (pad_count first side))

-- The text of the bias file. The straps of ground come first, and those of power lie between them.
abbrev pub bias_text : ℕ → List ℕ
bias_text side = supply_lines ++ pad_lines (codes "VSS") 20 side ++ pad_lines (codes "VDD") 220 side
