-- The text of a network as a netlist, line by line. SPICE and the readers of the IBM power grid benchmarks (Nassif,
-- "Power Grid Analysis Benchmarks") read it: the cards of resistors, then of pads, then of loads, with the comments of the
-- layers before them.
use Rattle.std.specs.Prelude.{ℕ, ◌&&◌, not, nat_lt, if◌then◌else◌, Bool, ℤ, pos, List, [], ◌∷◌, ◌++◌, codes, decimal, filter, unsigned_abs, slice_index_or}
use Rattle.std.specs.Ordering.{int_eq}
use Rattle.std.specs.List.{flat_map, enumerate_from, join_with_byte}
use Rattle.fixed_decimal.specs.Printed.{printed}
use Rattle.grid_net.specs.declared.part.Resistor.{Resistor}
use Rattle.grid_net.specs.declared.part.Pad.{Pad}
use Rattle.grid_net.specs.declared.part.LoadRange.{LoadRange}
use Rattle.grid_net.specs.Network.{Network}
use Rattle.grid_net.specs.declared.note.Note.{Note}
use Rattle.spice_grid.specs.Named.{ground}

-- A line: its words with single blanks (32) between them, and the line feed (10).
abbrev pub line_of : List (List ℕ) → List ℕ
line_of words = join_with_byte 32 words ++ 10 ∷ []

-- The name of a node.
abbrev pub name_of : List (List ℕ) → ℕ → List ℕ
name_of names node = slice_index_or names node []

-- The line of a card: its letter with its number, its two nodes and its value.
abbrev pub numbered_card : ℕ → ℕ → List ℕ → List ℕ → List ℕ → List ℕ
numbered_card letter number from to value = line_of ((letter ∷ decimal number) ∷ from ∷ to ∷ value ∷ [])

-- The comment of a layer: `* layer: metal1,VDD net: 1`.
abbrev pub note_line : Note → List ℕ
note_line note =
    line_of (codes "*" ∷ codes "layer:" ∷ (note.layer ++ 44 ∷ note.net) ∷ codes "net:" ∷ decimal note.number ∷ [])

-- The k-th resistor's card: ohms with 9 places, which are whole nano-ohms.
abbrev pub resistor_line : List (List ℕ) → ℕ × Resistor → List ℕ
resistor_line names k = numbered_card 82 k.0 (name_of names k.1.a) (name_of names k.1.b) (printed k.1.ohms 9)

-- The k-th pad's card: a source from its node to ground, in volts with 24 places, which are whole yoctovolts.
abbrev pub pad_line : List (List ℕ) → ℕ × Pad → List ℕ
pad_line names k = numbered_card 86 k.0 (name_of names k.1.node) ground (printed k.1.volts 24)

-- Whether a load draws anything: its two ends are not both 0.
abbrev pub draws : LoadRange → Bool
draws load = not (int_eq load.low (pos 0) && int_eq load.high (pos 0))

-- The end of a load that its card has: the one of the greater magnitude, and the high one where both have the same.
abbrev pub card_end : LoadRange → ℤ
card_end load = if nat_lt (unsigned_abs load.high) (unsigned_abs load.low) then load.low else load.high

-- The line after a load's card, where its two ends differ: both ends.
abbrev pub range_line : LoadRange → List ℕ
range_line load =
    if int_eq load.low load.high then [] else line_of (codes "*range" ∷ printed load.low 15 ∷ printed load.high 15 ∷ [])

-- The k-th load's card: a source from its node to ground, in amperes with 15 places, which are whole femtoamperes.
abbrev pub load_lines : List (List ℕ) → ℕ × (ℕ × LoadRange) → List ℕ
load_lines names k = numbered_card 73 k.0 (name_of names k.1.0) ground (printed (card_end k.1.1) 15) ++ range_line k.1.1

-- The loads that draw anything, each with its node.
abbrev pub drawing_loads : Network → List (ℕ × LoadRange)
drawing_loads net = filter (λ k. draws k.1) (enumerate_from 0 net.loads)

-- The text of a network as a netlist: a title, the layers, the resistors, the pads in the order of nodes, the loads in the
-- order of nodes, and the end. Cards of one letter are counted from 1.
abbrev pub written_netlist : Network → List (List ℕ) → List Note → List ℕ
written_netlist net names notes =
    line_of (codes "* pdn netlist 1" ∷ [])
    ++ flat_map note_line notes
    ++ flat_map (resistor_line names) (enumerate_from 1 net.resistors)
    ++ flat_map (pad_line names) (enumerate_from 1 net.pads)
    ++ flat_map (load_lines names) (enumerate_from 1 (drawing_loads net))
    ++ line_of (codes ".op" ∷ []) ++ line_of (codes ".end" ∷ [])
