-- The units of a written wiring (LEF/DEF 5.8 Language Reference, "DEF Syntax").
use Rattle.std.specs.Prelude.{Bool, true, false, List, [], ◌∷◌}
use Rattle.wiring_file.specs.declared.section.Section.{Section}
use Rattle.wiring_file.specs.declared.section.Section.TheVariants as places
use Rattle.wiring_file.specs.declared.sort.Sort.{Sort}
use Rattle.wiring_file.specs.declared.sort.Sort.TheVariants.{Semicolon, Open, Close, Plus, Minus, Version, Edition, DividerChar, BusBitChars, Design, Units, Distance, Microns, DieArea, Vias, ViaRule, CutSize, Layers, CutSpacing, Enclosure, RowCol, End, SpecialNets, Use, Supply, Routed, New, Shape, Stripe, Drawn, Slash, Brackets, Quoted, TextEnd}
use Rattle.wiring_file.specs.Sort.{the}
use Rattle.reading.specs.Pattern.{Pattern, Empty, One, Then, Or}

-- ## words

-- A name is any bare word but `;`, also a keyword.
abbrev pub is_name : Sort → Bool
is_name Semicolon = false
is_name Slash = false
is_name Brackets = false
is_name Quoted = false
is_name TextEnd = false
is_name _ = true

-- In the place of a number stands any word but `;`, `(`, `)` and the end of the text; whether it is a number is a
-- matter of the faults.
abbrev pub is_number : Sort → Bool
is_number Semicolon = false
is_number Open = false
is_number Close = false
is_number TextEnd = false
is_number _ = true

-- In the place of a via's name stands any name but `(`, which begins a point.
abbrev pub is_via : Sort → Bool
is_via Open = false
is_via sort = is_name sort

-- `RING`, `STRIPE` or `FOLLOWPIN`.
abbrev pub is_shape : Sort → Bool
is_shape Stripe = true
is_shape Drawn = true
is_shape _ = false

-- Words of these classes, one after the other.
abbrev pub in_turn : List (Sort → Bool) → Pattern Sort
in_turn [] = Empty
in_turn (class ∷ []) = One class
in_turn (class ∷ next ∷ classes) = Then (One class) (in_turn (next ∷ classes))

-- ## units

-- `VERSION 5.8 ;`.
abbrev pub version : List (Sort → Bool)
version = the Version ∷ the Edition ∷ the Semicolon ∷ []

-- `DIVIDERCHAR "/" ;`.
abbrev pub divider : List (Sort → Bool)
divider = the DividerChar ∷ the Slash ∷ the Semicolon ∷ []

-- `BUSBITCHARS "[]" ;`.
abbrev pub bus_bits : List (Sort → Bool)
bus_bits = the BusBitChars ∷ the Brackets ∷ the Semicolon ∷ []

-- `DESIGN name ;`.
abbrev pub design : List (Sort → Bool)
design = the Design ∷ is_name ∷ the Semicolon ∷ []

-- `UNITS DISTANCE MICRONS n ;`.
abbrev pub units : List (Sort → Bool)
units = the Units ∷ the Distance ∷ the Microns ∷ is_number ∷ the Semicolon ∷ []

-- `DIEAREA ( x y ) ( x y ) ;`.
abbrev pub die : List (Sort → Bool)
die =
    the DieArea ∷ the Open ∷ is_number ∷ is_number ∷ the Close ∷ the Open ∷ is_number ∷ is_number ∷ the Close
    ∷ the Semicolon ∷ []

-- `VIAS n ;`, and `SPECIALNETS n ;`.
abbrev pub counted : Sort → List (Sort → Bool)
counted word = the word ∷ is_number ∷ the Semicolon ∷ []

-- `- name + VIARULE rule + CUTSIZE x y + LAYERS lower cut upper + CUTSPACING x y + ENCLOSURE x y x y + ROWCOL rows columns ;`.
abbrev pub via : List (Sort → Bool)
via =
    the Minus ∷ is_name
    ∷ the Plus ∷ the ViaRule ∷ is_name
    ∷ the Plus ∷ the CutSize ∷ is_number ∷ is_number
    ∷ the Plus ∷ the Layers ∷ is_name ∷ is_name ∷ is_name
    ∷ the Plus ∷ the CutSpacing ∷ is_number ∷ is_number
    ∷ the Plus ∷ the Enclosure ∷ is_number ∷ is_number ∷ is_number ∷ is_number
    ∷ the Plus ∷ the RowCol ∷ is_number ∷ is_number
    ∷ the Semicolon ∷ []

-- `END` and this word.
abbrev pub end_of : Sort → List (Sort → Bool)
end_of word = the End ∷ the word ∷ []

-- `- name + USE POWER`, or `GROUND`.
abbrev pub net : List (Sort → Bool)
net = the Minus ∷ is_name ∷ the Plus ∷ the Use ∷ the Supply ∷ []

-- `layer width + SHAPE shape ( x y )`.
abbrev pub line_front : List (Sort → Bool)
line_front =
    is_name ∷ is_number ∷ the Plus ∷ the Shape ∷ is_shape ∷ the Open ∷ is_number ∷ is_number ∷ the Close ∷ []

-- A line goes to another point, or has a via.
abbrev pub line_back : Pattern Sort
line_back = Or (in_turn (the Open ∷ is_number ∷ is_number ∷ the Close ∷ [])) (One is_via)

-- Words of these classes, one after the other, and then the words of a pattern.
abbrev pub before : List (Sort → Bool) → Pattern Sort → Pattern Sort
before [] pattern = pattern
before (class ∷ classes) pattern = Then (One class) (before classes pattern)

-- ## what may stand in each section

abbrev pub pattern : Section → Pattern Sort
pattern places.Version = in_turn version
pattern places.DividerChar = in_turn divider
pattern places.BusBitChars = in_turn bus_bits
pattern places.Design = in_turn design
pattern places.Units = in_turn units
pattern places.Die = in_turn die
pattern places.ViasHead = in_turn (counted Vias)
pattern places.Vias = Or (in_turn via) (in_turn (end_of Vias))
pattern places.NetsHead = in_turn (counted SpecialNets)
pattern places.Nets = Or (in_turn net) (in_turn (end_of SpecialNets))
pattern places.First = Or (in_turn (the Plus ∷ the Routed ∷ [])) (One (the Semicolon))
pattern places.Line = before line_front line_back
pattern places.Next = Or (One (the New)) (One (the Semicolon))
pattern places.DesignEnd = in_turn (end_of Design)
pattern places.Ended = One (the TextEnd)
