-- The units of a design, as the reader of its wiring takes it apart (LEF/DEF 5.8 Language Reference, "DEF Syntax").
use Rattle.std.specs.Prelude.{Bool, true, false}
use Rattle.def_wiring.specs.declared.section.Section.{Section}
use Rattle.def_wiring.specs.declared.section.Section.TheVariants as places
use Rattle.def_wiring.specs.declared.sort.Sort.{Sort}
use Rattle.def_wiring.specs.declared.sort.Sort.TheVariants.{Semicolon, Open, Close, Minus, End, Design, Vias, SpecialNets, Quoted, TextEnd}
use Rattle.def_wiring.specs.Sort.{the}
use Rattle.reading.specs.Pattern.{Pattern, One, Then, Or}

-- ## words

-- Any word but the end of the text.
abbrev pub is_word : Sort → Bool
is_word TextEnd = false
is_word _ = true

-- A name is any bare word but `;`, also a keyword.
abbrev pub is_name : Sort → Bool
is_name Semicolon = false
is_name Quoted = false
is_name TextEnd = false
is_name _ = true

-- In the place of a number stands any word but `;`, `(`, `)` and the end of the text; whether it is a number is a matter
-- of the faults.
abbrev pub is_number : Sort → Bool
is_number Semicolon = false
is_number Open = false
is_number Close = false
is_number TextEnd = false
is_number _ = true

abbrev pub word : Pattern Sort
word = One is_word

abbrev pub name : Pattern Sort
name = One is_name

abbrev pub number : Pattern Sort
number = One is_number

abbrev pub key : Sort → Pattern Sort
key sort = One (the sort)

-- ## units

-- The two sections that are read.
abbrev pub is_read : Sort → Bool
is_read Vias = true
is_read SpecialNets = true
is_read _ = false

-- `VIAS n ;` and `SPECIALNETS n ;`.
abbrev pub section_head : Pattern Sort
section_head = Then (One is_read) (Then number (key Semicolon))

-- `END` and this word.
abbrev pub end_of : Sort → Pattern Sort
end_of word = Then (key End) (key word)

-- A word that begins what is passed over.
abbrev pub is_other : Sort → Bool
is_other Semicolon = false
is_other Vias = false
is_other SpecialNets = false
is_other End = false
is_other TextEnd = false
is_other _ = true

abbrev pub top : Pattern Sort
top = Or section_head (Or (end_of Design) (One is_other))

-- `- name`, or the end of the section. Each word of an entry is a unit, as it is known late what the entry is.
abbrev pub entries : Sort → Pattern Sort
entries section = Or (Then (key Minus) name) (end_of section)

-- What may stand in each section.
abbrev pub pattern : Section → Pattern Sort
pattern places.Top = top
pattern places.Vias = entries Vias
pattern places.Via = word
pattern places.Nets = entries SpecialNets
pattern places.Net = word
pattern places.Passed = word
pattern places.Ended = key TextEnd
