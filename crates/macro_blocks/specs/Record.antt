-- What the units of a LEF library say of its blocks: their pins of power and ground and their obstructions.
use Rattle.std.specs.Prelude.{◌≡◌, ℕ, ℤ, Bool, true, List, [], ◌∷◌, ◌++◌, Option, Some, None, if◌then◌else◌}
use Rattle.std.specs.Int.{int_min, int_max}
use Rattle.entry_list.specs.InTurn.{InTurn}
use Rattle.macro_blocks.specs.declared.act.Act.{Act}
use Rattle.macro_blocks.specs.declared.act.Act.TheVariants as acts
use Rattle.macro_blocks.specs.declared.record.BlockMacro.{BlockMacro}
use Rattle.macro_blocks.specs.declared.record.BlockPin.{BlockPin}
use Rattle.macro_blocks.specs.declared.record.BlockRect.{BlockRect}
use Rattle.macro_blocks.specs.declared.record.Blocks.{Blocks}
use Rattle.macro_blocks.specs.declared.section.Section.{Section}
use Rattle.macro_blocks.specs.declared.section.Section.TheVariants.{Macro, Pin, Port, Layered}
use Rattle.macro_blocks.specs.declared.sort.Sort.{Sort}
use Rattle.macro_blocks.specs.declared.sort.Sort.TheVariants as sorts
use Rattle.macro_blocks.specs.declared.standing.OpenPin.{OpenPin}
use Rattle.macro_blocks.specs.declared.standing.Standing.{Standing}
use Rattle.macro_blocks.specs.Number.{IsCoordinate}
use Rattle.macro_blocks.specs.Rule.{is_number}
use Rattle.macro_blocks.specs.Sort.{sort_of}
use Rattle.macro_blocks.specs.Standing.{standing_after, at_start, section_in, is_own, is_rect, pin_name}
use Rattle.reading.specs.Word.{Token}

-- ## what is said, in words of the text

-- A RECT with its layer: the name after the last LAYER before it.
pub record Shape : Type 0 where
  pub layer : List ℕ
  pub words : List Token

-- A pin of power or ground.
pub record SaidPin : Type 0 where
  pub name : List ℕ
  pub power : Bool
  pub shapes : List Shape

pub record SaidMacro : Type 0 where
  pub name : List ℕ
  pub pins : List SaidPin
  pub obstructions : List Shape

-- What units say: the macros that have ended, and what is open.
pub record Said : Type 0 where
  pub macros : List SaidMacro
  -- The pins of power and ground and the obstructions of the macro that is open, so far.
  pub pins : List SaidPin
  pub obstructions : List Shape
  -- The layer, the shapes and the words in places for numbers of the pin or the obstructions that are open, so far.
  pub layer : List ℕ
  pub shapes : List Shape
  pub numbers : List Token

-- ## what a unit does

-- The end of a pin, which counts where its use is known.
abbrev pub ends_pin : Option Bool → Bool → Act
ends_pin (Some power) true = acts.EndsPin power
ends_pin _ _ = acts.Nothing

abbrev pub act_of_pin : Option OpenPin → Token → Act
act_of_pin None word = acts.Nothing
act_of_pin (Some pin) word = ends_pin pin.power (is_own (Some pin) word)

abbrev pub ends_port : Option OpenPin → Act
ends_port None = acts.EndsObstructions
ends_port (Some pin) = acts.Nothing

-- `OBS`, and the `END` of obstructions.
abbrev pub act_of_one : Section → Sort → Option OpenPin → Act
act_of_one Macro sorts.Obs pin = acts.Opens
act_of_one Port sorts.End pin = ends_port pin
act_of_one Layered sorts.End pin = ends_port pin
act_of_one section first pin = acts.Nothing

-- `PIN name`, `LAYER name`, and the ends of a macro and of a pin. `RECT w` ends before its numbers do.
abbrev pub act_of_two : Section → Sort → Token → Option OpenPin → Act
act_of_two Macro sorts.Pin second pin = acts.Opens
act_of_two Macro sorts.End second pin = acts.EndsMacro
act_of_two Pin sorts.End second pin = act_of_pin pin second
act_of_two Port sorts.Layer second pin = acts.Layer
act_of_two Layered sorts.Layer second pin = acts.Layer
act_of_two Layered sorts.Rect second pin = acts.Draws
act_of_two section first second pin = acts.Nothing

-- A RECT.
abbrev pub act_of_more : Section → Act
act_of_more Layered = acts.Draws
act_of_more section = acts.Nothing

abbrev pub act_of : Section → Option OpenPin → List Token → Act
act_of section pin [] = acts.Nothing
act_of section pin (word ∷ []) = act_of_one section (sort_of word) pin
act_of section pin (first ∷ second ∷ []) = act_of_two section (sort_of first) second pin
act_of section pin unit = act_of_more section

-- The words with one more, if it stands for a number.
abbrev pub noted : List Token → Token → List Token
noted numbers word = if is_number (sort_of word) then (numbers ++ word ∷ []) else numbers

-- The words with those that stand for numbers in a RECT, or in its words up to the one that cannot stand there.
abbrev pub noted_in : List Token → List Token → List Token
noted_in numbers (first ∷ a ∷ []) = noted numbers a
noted_in numbers (first ∷ a ∷ b ∷ []) = noted (noted numbers a) b
noted_in numbers (first ∷ a ∷ b ∷ c ∷ []) = noted (noted (noted numbers a) b) c
noted_in numbers (first ∷ a ∷ b ∷ c ∷ d ∷ []) = noted (noted (noted (noted numbers a) b) c) d
noted_in numbers (first ∷ a ∷ b ∷ c ∷ d ∷ stop ∷ []) = noted (noted (noted (noted numbers a) b) c) d
noted_in numbers _ = numbers

-- The shape of a RECT, where it is whole.
abbrev pub drawn : List ℕ → List Token → List Shape
drawn layer unit = if is_rect unit then (record { layer = layer; words = unit } ∷ []) else []

-- The second word of a unit.
abbrev pub second_text : List Token → List ℕ
second_text (first ∷ second ∷ words) = second.text
second_text _ = []

-- What is said after a unit that does this.
abbrev pub said_by : Act → Standing → List Token → Said → Said
said_by acts.Nothing standing unit said = said
said_by acts.Opens standing unit said = record said { shapes = []; numbers = [] }
said_by acts.Layer standing unit said = record said { layer = second_text unit }
said_by acts.Draws standing unit said =
    record said { shapes = said.shapes ++ drawn said.layer unit; numbers = noted_in said.numbers unit }
said_by (acts.EndsPin power) standing unit said = record said {
  pins = said.pins ++ record { name = pin_name standing.pin; power = power; shapes = said.shapes } ∷ [];
  shapes = [];
}
said_by acts.EndsObstructions standing unit said = record said {
  obstructions = said.obstructions ++ said.shapes;
  shapes = [];
}
said_by acts.EndsMacro standing unit said = record said {
  macros = said.macros ++ record { name = standing.cell; pins = said.pins; obstructions = said.obstructions } ∷ [];
  pins = [];
  obstructions = [];
}

-- ## what all units say

-- Where the units so far lead, and what they say.
pub record Heard : Type 0 where
  pub standing : Standing
  pub said : Said

abbrev pub heard_after : Heard → List Token → Heard
heard_after heard unit =
    let standing = heard.standing in
    record {
      standing = standing_after standing unit;
      said = said_by (act_of (section_in standing) standing.pin unit) standing unit heard.said;
    }

abbrev pub heard_from : Heard → List (List Token) → Heard
heard_from heard [] = heard
heard_from heard (unit ∷ units) = heard_from (heard_after heard unit) units

abbrev pub nothing_said : Said
nothing_said = record { macros = []; pins = []; obstructions = []; layer = []; shapes = []; numbers = [] }

abbrev pub heard_of : List (List Token) → Heard
heard_of units = heard_from (record { standing = at_start; said = nothing_said }) units

-- ## the record

-- The least rectangle of the two corners of a RECT, which may come in any order.
abbrev pub SaysCorners : List Token → BlockRect → Type 0
SaysCorners (first ∷ a ∷ b ∷ c ∷ d ∷ stop ∷ []) rect =
    (x : ℤ) × (y : ℤ) × (z : ℤ) × (w : ℤ) × IsCoordinate a x × IsCoordinate b y × IsCoordinate c z × IsCoordinate d w
    × (rect.x1 ≡ int_min x z) × (rect.y1 ≡ int_min y w) × (rect.x2 ≡ int_max x z) × (rect.y2 ≡ int_max y w)
SaysCorners _ rect = ⊥

pub record SaysRect (shape : Shape) (rect : BlockRect) : Type 0 where
  pub layer : rect.layer ≡ shape.layer
  pub corners : SaysCorners shape.words rect

pub record SaysPin (said : SaidPin) (pin : BlockPin) : Type 0 where
  pub name : pin.name ≡ said.name
  pub power : pin.power ≡ said.power
  pub rects : InTurn SaysRect said.shapes pin.rects

pub record SaysMacro (said : SaidMacro) (cell : BlockMacro) : Type 0 where
  pub name : cell.name ≡ said.name
  pub pins : InTurn SaysPin said.pins cell.pins
  pub obstructions : InTurn SaysRect said.obstructions cell.obstructions

abbrev pub name_of : BlockMacro → List ℕ
name_of cell = cell.name

-- The record of the units: the macros in the order of the text, each with its pins of power and ground and its
-- obstructions in their order.
abbrev pub IsBlocks : List (List Token) → Blocks → Type 0
IsBlocks units blocks = InTurn SaysMacro (heard_of units).said.macros blocks.macros
