-- The units of a LEF library, as the reader of its blocks takes it apart (LEF/DEF 5.8 Language Reference, "LEF Syntax").
use Rattle.std.specs.Prelude.{Bool, true, false}
use Rattle.macro_blocks.specs.declared.section.Section.{Section}
use Rattle.macro_blocks.specs.declared.section.Section.TheVariants as places
use Rattle.macro_blocks.specs.declared.sort.Sort.{Sort}
use Rattle.macro_blocks.specs.declared.sort.Sort.TheVariants.{Macro, NamedSection, Layer, End, Library, Origin, Pin, Use, Rect, Semicolon, Bracket, Quoted, TextEnd}
use Rattle.macro_blocks.specs.Sort.{the}
use Rattle.reading.specs.Pattern.{Pattern, One, Then, Or}

-- Any word but the end of the text.
abbrev pub is_word : Sort → Bool
is_word TextEnd = false
is_word _ = true

-- A name is any bare word but `;`, also a keyword.
abbrev pub is_name : Sort → Bool
is_name Semicolon = false
is_name Quoted = false
is_name TextEnd = false
is_name _ = true

-- In the place of a number stands any word but `;`, `(`, `)` and the end of the text; whether it is a number is asked of
-- the faults.
abbrev pub is_number : Sort → Bool
is_number Semicolon = false
is_number Bracket = false
is_number TextEnd = false
is_number _ = true

abbrev pub word : Pattern Sort
word = One is_word

abbrev pub name : Pattern Sort
name = One is_name

abbrev pub number : Pattern Sort
number = One is_number

-- ## the library

-- `SITE`, `VIA`, `NONDEFAULTRULE`, `LAYER` and `VIARULE` begin a section that is passed over.
abbrev pub is_passed_head : Sort → Bool
is_passed_head NamedSection = true
is_passed_head Layer = true
is_passed_head _ = false

-- A word that begins what else is passed over in the library, or the end of the text.
abbrev pub is_other : Sort → Bool
is_other Macro = false
is_other NamedSection = false
is_other Layer = false
is_other End = false
is_other Semicolon = false
is_other _ = true

-- `MACRO name`, `LAYER name` and its like, `END LIBRARY`, and what else is passed over.
abbrev pub library : Pattern Sort
library =
    Or (Then (One (the Macro)) name) (Or (Then (One is_passed_head) name)
    (Or (Then (One (the End)) (One (the Library))) (One is_other)))

-- ## macros

-- `ORIGIN x y ;`.
abbrev pub origin : Pattern Sort
origin = Then (One (the Origin)) (Then number (Then number (One (the Semicolon))))

-- `OBS`, or a word that begins another statement or a group of a macro.
abbrev pub is_other_of_macro : Sort → Bool
is_other_of_macro End = false
is_other_of_macro Origin = false
is_other_of_macro Pin = false
is_other_of_macro Semicolon = false
is_other_of_macro TextEnd = false
is_other_of_macro _ = true

-- `END name`, `ORIGIN x y ;`, `PIN name`, and other words.
abbrev pub cell : Pattern Sort
cell = Or (Then (One (the End)) name) (Or origin (Or (Then (One (the Pin)) name) (One is_other_of_macro)))

-- ## pins, ports and obstructions
--
-- The words of a pin are read before it is known whether it is one of power or ground, so its units end also with a word
-- that cannot stand there: where the use is known, that word is a fault.

-- `PORT`, a `;`, or a word that begins another statement of a pin.
abbrev pub is_other_of_pin : Sort → Bool
is_other_of_pin Use = false
is_other_of_pin End = false
is_other_of_pin TextEnd = false
is_other_of_pin _ = true

-- `USE w`, `END w`, and other words.
abbrev pub pin : Pattern Sort
pin = Or (Then (One (the Use)) word) (Or (Then (One (the End)) word) (One is_other_of_pin))

-- `END`, a `;`, or a word that begins another statement of a port or of obstructions. `RECT` is one before any `LAYER`.
abbrev pub is_other_of_port : Sort → Bool
is_other_of_port Layer = false
is_other_of_port TextEnd = false
is_other_of_port _ = true

-- `LAYER w`, and other words.
abbrev pub port : Pattern Sort
port = Or (Then (One (the Layer)) word) (One is_other_of_port)

-- A word that ends a RECT in the place of a number: a mark, and `USE`, which never is one.
abbrev pub breaks : Sort → Bool
breaks Semicolon = true
breaks Bracket = true
breaks Use = true
breaks _ = false

-- A word with which a RECT goes on in the place of a number.
abbrev pub goes_on : Sort → Bool
goes_on Semicolon = false
goes_on Bracket = false
goes_on Use = false
goes_on TextEnd = false
goes_on _ = true

-- A number and then the rest, or the word that breaks the RECT.
abbrev pub corner : Pattern Sort → Pattern Sort
corner rest = Or (One breaks) (Then (One goes_on) rest)

-- `RECT x1 y1 x2 y2 ;`, or its words up to the one that cannot stand there.
abbrev pub rect : Pattern Sort
rect = Then (One (the Rect)) (corner (corner (corner (corner word))))

abbrev pub is_other_of_layer : Sort → Bool
is_other_of_layer Layer = false
is_other_of_layer Rect = false
is_other_of_layer TextEnd = false
is_other_of_layer _ = true

-- A port or obstructions after a LAYER.
abbrev pub layered : Pattern Sort
layered = Or (Then (One (the Layer)) word) (Or rect (One is_other_of_layer))

-- What may stand in each section.
abbrev pub pattern : Section → Pattern Sort
pattern places.Top = library
pattern places.Macro = cell
pattern places.Pin = pin
pattern places.Supplied = One (the Semicolon)
pattern places.Port = port
pattern places.Layered = layered
pattern places.Unfit = word
pattern places.Passed = word
pattern places.Ended = One (the TextEnd)
