-- The cards of a netlist, as the SPICE manual has them, cut down to what a power grid needs.
use Rattle.std.specs.Prelude.{Bool, true, false}
use Rattle.spice_cards.specs.declared.section.Section.{Section}
use Rattle.spice_cards.specs.declared.section.Section.TheVariants.{Cards, Passing, Ended}
use Rattle.spice_cards.specs.declared.sort.Sort.{Sort}
use Rattle.spice_cards.specs.declared.sort.Sort.TheVariants.{Resistor, Source, Load, Capacitor, Dc, Mark, Dot, End, Other, CardEnd, Range, Stray, TextEnd}
use Rattle.spice_cards.specs.Sort.{the}
use Rattle.reading.specs.Pattern.{Pattern, One, Then, Or}

-- A name is any word, also a keyword, but no end.
abbrev pub is_name : Sort → Bool
is_name CardEnd = false
is_name Range = false
is_name Stray = false
is_name TextEnd = false
is_name _ = true

-- In the place of a number stands any word but `;`, `(` and `)`; whether it is a number is asked of the faults.
abbrev pub is_number : Sort → Bool
is_number Mark = false
is_number CardEnd = false
is_number Range = false
is_number Stray = false
is_number TextEnd = false
is_number _ = true

-- Where `DC` may stand before the number, it is no number.
abbrev pub is_value : Sort → Bool
is_value Dc = false
is_value Mark = false
is_value CardEnd = false
is_value Range = false
is_value Stray = false
is_value TextEnd = false
is_value _ = true

abbrev pub name : Pattern Sort
name = One is_name

abbrev pub number : Pattern Sort
number = One is_number

abbrev pub value : Pattern Sort
value = One is_value

abbrev pub dc : Pattern Sort
dc = One (the Dc)

abbrev pub end : Pattern Sort
end = One (the CardEnd)

-- `Rname a b OHMS`
abbrev pub resistor : Pattern Sort
resistor = Then (One (the Resistor)) (Then name (Then name (Then number end)))

-- `Vname a b VOLTS`, `Vname a b DC VOLTS`
abbrev pub source : Pattern Sort
source = Then (One (the Source)) (Then name (Then name (Or (Then value end) (Then dc (Then number end)))))

-- The end of a load, or the line `*range LOW HIGH` after it.
abbrev pub load_end : Pattern Sort
load_end = Or end (Then (One (the Range)) (Then number (Then number end)))

-- `Iname a b AMPERES`, `Iname a b DC AMPERES`
abbrev pub load : Pattern Sort
load = Then (One (the Load)) (Then name (Then name (Or (Then value load_end) (Then dc (Then number load_end)))))

-- `Cname a b FARADS`
abbrev pub capacitor : Pattern Sort
capacitor = Then (One (the Capacitor)) (Then name (Then name (Then number end)))

-- The first word of a dot line that is passed over, `.end`, or the first word of any other card or dot line, which shows a fault.
abbrev pub is_single : Sort → Bool
is_single Dc = true
is_single Mark = true
is_single Dot = true
is_single End = true
is_single Other = true
is_single _ = false

abbrev pub card : Pattern Sort
card = Or resistor (Or source (Or load (Or capacitor (One is_single))))

-- Each word of a dot line is passed over, and the line ends with its end.
abbrev pub is_passed : Sort → Bool
is_passed Range = false
is_passed Stray = false
is_passed TextEnd = false
is_passed _ = true

-- What may stand in each section. The text ends after `.end` alone.
abbrev pub pattern : Section → Pattern Sort
pattern Cards = card
pattern Passing = One is_passed
pattern Ended = One (the TextEnd)
