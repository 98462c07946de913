-- Where the units of a LEF library lead, and so what may follow: the units of the library, of a macro, of a pin, of a port
-- or of obstructions; one word of what is passed over; nothing but the end of the text after `END LIBRARY` (LEF/DEF 5.8
-- Language Reference, "LEF Syntax").
use Rattle.std.specs.Prelude.{ℕ, Bool, true, false, List, [], ◌∷◌, Option, Some, None, if◌then◌else◌, unwrap_or}
use Rattle.macro_blocks.specs.declared.section.Section.{Section}
use Rattle.macro_blocks.specs.declared.section.Section.TheVariants.{Top, Macro, Pin, Supplied, Port, Layered, Unfit, Passed, Ended}
use Rattle.macro_blocks.specs.declared.standing.OpenPin.{OpenPin}
use Rattle.macro_blocks.specs.declared.standing.Standing.{Standing}
use Rattle.macro_blocks.specs.declared.sort.Sort.{Sort}
use Rattle.macro_blocks.specs.declared.sort.Sort.TheVariants as sorts
use Rattle.macro_blocks.specs.Rule.{is_name}
use Rattle.macro_blocks.specs.Sort.{the, sort_of}
use Rattle.lef_statements.specs.declared.passing.Passing.{Passing}
use Rattle.lef_statements.specs.declared.passing.Passing.TheVariants as passed
use Rattle.lef_statements.specs.Passing.{passing_after, section_after}
use Rattle.lef_statements.specs.Word.{is_word}
use Rattle.reading.specs.Word.{Token, last_of}

-- ## the pin that is open

-- The name of the pin that is open.
abbrev pub pin_name : Option OpenPin → List ℕ
pin_name None = []
pin_name (Some pin) = pin.name

abbrev pub is_told : Option Bool → Bool
is_told None = false
is_told (Some power) = true

-- It is known what the words are for: for obstructions, or for a pin that a USE has said to be one of power or ground.
abbrev pub is_known : Option OpenPin → Bool
is_known None = true
is_known (Some pin) = is_told pin.power

-- The word is the name of the pin that is open.
abbrev pub is_own : Option OpenPin → Token → Bool
is_own None word = false
is_own (Some pin) word = is_word pin.name word

-- The pin after `USE POWER` or `USE GROUND`, of which the first counts.
abbrev pub used : Bool → Option OpenPin → Option OpenPin
used power None = None
used power (Some pin) = Some (record { name = pin.name; power = Some (unwrap_or pin.power power) })

-- ## the library

-- A word that begins what is passed over: a section that ends with `END` and the word, an extension, a statement.
abbrev pub passed_by : Sort → Token → Option Passing
passed_by sorts.TextEnd word = None
passed_by sorts.WordSection word = Some (passed.Section word.text)
passed_by sorts.BeginExt word = Some passed.Extension
passed_by _ word = Some passed.Statement

-- A macro opens, of which nothing is read yet.
abbrev pub in_macro : Token → Standing → Standing
in_macro name standing = record {
  section = Macro;
  passing = standing.passing;
  cell = name.text;
  has_origin = false;
  pin = None;
  last = standing.last;
}

-- `MACRO name`, `END LIBRARY`, or the head of a section that is passed over.
abbrev pub after_top : Sort → Token → Standing → Standing
after_top sorts.Macro name standing = in_macro name standing
after_top sorts.End name standing = record standing { section = Ended }
after_top _ name standing = record standing { passing = Some (passed.Section name.text) }

-- ## a macro

-- `OBS`, `DENSITY`, or another statement.
abbrev pub after_macro_word : Sort → Standing → Standing
after_macro_word sorts.Obs standing = record standing { section = Port; pin = None }
after_macro_word sorts.Density standing = record standing { passing = Some passed.Group }
after_macro_word _ standing = record standing { passing = Some passed.Statement }

-- `PIN name`, or `END name`, after which no macro is open.
abbrev pub after_macro : Sort → Token → Standing → Standing
after_macro sorts.Pin name standing =
    record standing { section = Pin; pin = Some (record { name = name.text; power = None }) }
after_macro _ name standing = record standing { section = Top }

-- ## a pin

-- `PORT`, a `;` that cannot stand there, or another statement.
abbrev pub after_pin_word : Sort → Standing → Standing
after_pin_word sorts.Port standing = record standing { section = Port }
after_pin_word sorts.Semicolon standing = record standing { section = Unfit }
after_pin_word _ standing = record standing { passing = Some passed.Statement }

-- The pin is none of power or ground: it is passed over to `END` and its name, from this word on.
abbrev pub unused : Token → Standing → Standing
unused word standing = record standing { section = Macro; passing = Some (section_after (pin_name standing.pin) word) }

-- `USE w` with another word than POWER and GROUND. After a first USE that was one of them it is a statement as others.
abbrev pub after_other_use : Bool → Sort → Token → Standing → Standing
after_other_use false _ word standing = unused word standing
after_other_use true sorts.Semicolon word standing = standing
after_other_use true _ word standing = record standing { passing = Some passed.Statement }

-- `USE w`.
abbrev pub after_use : Sort → Token → Standing → Standing
after_use sorts.Power word standing = record standing { section = Supplied; pin = used true standing.pin }
after_use sorts.Ground word standing = record standing { section = Supplied; pin = used false standing.pin }
after_use other word standing = after_other_use (is_known standing.pin) other word standing

-- `USE w`, or `END w`, where another word than the pin's name cannot stand.
abbrev pub after_pin : Sort → Token → Standing → Standing
after_pin sorts.Use word standing = after_use (sort_of word) word standing
after_pin _ word standing = record standing { section = if is_own standing.pin word then Macro else Unfit }

-- ## a port, and obstructions

-- What a port stands in, or obstructions.
abbrev pub around : Option OpenPin → Section
around None = Macro
around (Some pin) = Pin

-- `END`, a `;` that cannot stand there, or another statement.
abbrev pub after_port_word : Sort → Standing → Standing
after_port_word sorts.End standing = record standing { section = around standing.pin }
after_port_word sorts.Semicolon standing = record standing { section = Unfit }
after_port_word _ standing = record standing { passing = Some passed.Statement }

-- `LAYER l` and the rest of its statement; no other word can stand there, and none after RECT that ends it.
abbrev pub after_port : Sort → Sort → Standing → Standing
after_port sorts.Layer second standing =
    if is_name second then (record standing { section = Layered; passing = Some passed.Statement })
    else (record standing { section = Unfit })
after_port _ second standing = record standing { section = Unfit }

-- `RECT x1 y1 x2 y2 ;`, and not its words up to one that cannot stand there.
abbrev pub is_rect : List Token → Bool
is_rect (first ∷ x1 ∷ y1 ∷ x2 ∷ y2 ∷ stop ∷ []) = the sorts.Semicolon (sort_of stop)
is_rect _ = false

-- ## a pin that has a word which cannot stand in one of power or ground

-- Its words are passed over, to `END` and its name, and looked through for its USE.
abbrev pub after_unfit : Sort → Token → Standing → Standing
after_unfit sorts.End word standing = if is_own standing.pin word then (record standing { section = Macro }) else standing
after_unfit sorts.Use word standing = unused word standing
after_unfit _ word standing = standing

-- ## where units lead

-- What is passed over after one word more.
abbrev pub after_passed : Option Passing → Token → Option Passing
after_passed None word = None
after_passed (Some passing) word = passing_after passing word

-- After a unit of one word in this section.
abbrev pub after_one : Section → Token → Standing → Standing
after_one Top word standing = record standing { passing = passed_by (sort_of word) word }
after_one Macro word standing = after_macro_word (sort_of word) standing
after_one Pin word standing = after_pin_word (sort_of word) standing
after_one Supplied word standing = record standing { section = Pin }
after_one Port word standing = after_port_word (sort_of word) standing
after_one Layered word standing = after_port_word (sort_of word) standing
after_one Unfit word standing = after_unfit standing.last word standing
after_one Passed word standing = record standing { passing = after_passed standing.passing word }
after_one Ended word standing = standing

-- After a unit of two words.
abbrev pub after_two : Section → Sort → Token → Standing → Standing
after_two Top first second standing = after_top first second standing
after_two Macro first second standing = after_macro first second standing
after_two Pin first second standing = after_pin first second standing
after_two Port first second standing = after_port first (sort_of second) standing
after_two Layered first second standing = after_port first (sort_of second) standing
after_two section first second standing = standing

-- After `ORIGIN x y ;` in a macro, and after a RECT in a port or obstructions.
abbrev pub after_more : Section → Bool → Standing → Standing
after_more Macro fits standing = record standing { has_origin = true }
after_more Layered fits standing = record standing { section = if fits then Layered else Unfit }
after_more section fits standing = standing

abbrev pub after_words : Section → List Token → Standing → Standing
after_words section [] standing = standing
after_words section (word ∷ []) standing = after_one section word standing
after_words section (first ∷ second ∷ []) standing = after_two section (sort_of first) second standing
after_words section unit standing = after_more section (is_rect unit) standing

-- The section in which the next unit stands.
abbrev pub section_with : Section → Option Passing → Section
section_with section None = section
section_with section (Some passing) = Passed

abbrev pub section_in : Standing → Section
section_in standing = section_with standing.section standing.passing

-- The sort of the last word, which is kept where a word could not stand.
abbrev pub last_in : Section → Option Token → Sort → Sort
last_in Unfit (Some word) last = sort_of word
last_in section word last = last

abbrev pub with_last : List Token → Standing → Standing
with_last unit standing = record standing { last = last_in (section_in standing) (last_of unit) standing.last }

-- Where one more unit leads.
abbrev pub standing_after : Standing → List Token → Standing
standing_after standing unit = with_last unit (after_words (section_in standing) unit standing)

-- Where a text begins.
abbrev pub at_start : Standing
at_start = record { section = Top; passing = None; cell = []; has_origin = false; pin = None; last = sorts.Other }
