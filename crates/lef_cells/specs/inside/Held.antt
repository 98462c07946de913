-- What the reader holds after whole units.
use Rattle.std.specs.Prelude.{◌≡◌, Bool, true, false, List, [], ◌∷◌, ◌++◌, Option, Some, None, filter, map, Contains}
use Rattle.named_entries.specs.Named.{HoldsNamed}
use Rattle.lef_cells.specs.declared.held.Held.{Held}
use Rattle.lef_cells.specs.declared.held.Sections.{Sections}
use Rattle.lef_cells.specs.declared.held.Size.{Size}
use Rattle.lef_cells.specs.declared.section.Section.{Section}
use Rattle.lef_cells.specs.declared.section.Section.TheVariants as places
use Rattle.lef_cells.specs.declared.sort.Sort.{Sort}
use Rattle.lef_cells.specs.declared.sort.Sort.TheVariants as sorts
use Rattle.lef_cells.specs.Format.{format}
use Rattle.lef_cells.specs.Record.{SaysSize, SaysSite, SaysMacro, makes_block}
use Rattle.lef_cells.specs.Rule.{is_head, is_size, is_class, starts, name_of}
use Rattle.lef_cells.specs.Section.{standing_of, section_after}
use Rattle.lef_statements.specs.First.{first_with}
use Rattle.reading.specs.Blocks.{Block, blocks}
use Rattle.reading.specs.Grammar.{IsTaken}
use Rattle.reading.specs.Word.{Token}

-- A site or a macro is open.
abbrev pub is_open : Section → Bool
is_open places.Site = true
is_open places.SizedSite = true
is_open places.Macro = true
is_open places.SizedMacro = true
is_open _ = false

-- What these sections say, with their names.
pub record HoldsAll (all : List (Block Token)) (said : Sections) : Type 0 where
  pub sites : HoldsNamed SaysSite name_of (filter (starts sorts.Site) all) said.sites
  pub macros : HoldsNamed SaysMacro name_of (filter (starts sorts.Macro) all) said.macros

-- The first SIZE, if there is one.
abbrev pub IsSized : Option (List Token) → Option Size → Type 0
IsSized None None = Unit {0}
IsSized (Some unit) (Some size) = SaysSize (Some unit) size.width size.height
IsSized _ _ = ⊥

-- The size, and 0 by 0 where there is none.
abbrev pub first_size : Option Size → Size
first_size None = record { width = 0; height = 0 }
first_size (Some size) = size

-- Whether the first CLASS makes a block, if there is one.
abbrev pub class_said : Option (List Token) → Option Bool
class_said None = None
class_said (Some unit) = Some (makes_block unit)

-- What the section that is open has said so far.
pub record IsOpen (word : Sort) (section : Block Token) (said : Sections) : Type 0 where
  pub begins : starts word section ≡ true
  pub name : said.open.name.now ≡ name_of section
  pub size : IsSized (first_with is_size section.body) said.open.size
  pub block : said.open.block ≡ class_said (first_with is_class section.body)

-- A section that begins with this word is open: all before it say entries, and none of them has its name.
pub record HoldsOpen (word : Sort) (units : List (List Token)) (said : Sections) : Type 0 where
  pub before : List (Block Token)
  pub last : Block Token
  pub is : blocks is_head units ≡ before ++ last ∷ []
  pub all : HoldsAll before said
  pub one : IsOpen word last said
  pub fresh : Contains (map name_of (filter (starts word) before)) (name_of last) → ⊥

-- There is a size.
abbrev pub HasSize : Option Size → Type 0
HasSize None = ⊥
HasSize (Some size) = Unit {0}

-- What is held in each section.
abbrev pub HoldsIn : Section → List (List Token) → Sections → Type 0
HoldsIn places.Site units said = HoldsOpen sorts.Site units said
HoldsIn places.SizedSite units said = HoldsOpen sorts.Site units said × HasSize said.open.size
HoldsIn places.Macro units said = HoldsOpen sorts.Macro units said
HoldsIn places.SizedMacro units said = HoldsOpen sorts.Macro units said × HasSize said.open.size
HoldsIn _ units said = HoldsAll (blocks is_head units) said

pub record Holds (units : List (List Token)) (held : Held) : Type 0 where
  pub standing : held.standing ≡ standing_of units
  pub said : HoldsIn (standing_of units).section units held.said

-- What was held in this section leads to what is held after one more unit, which is whole and has shown no fault.
abbrev pub Leads : Section → List Token → Sections → Sections → Type 0
Leads section unit old new =
    (units : List (List Token)) → section ≡ (standing_of units).section → IsTaken format units unit →
    HoldsIn section units old → HoldsIn (section_after section unit) (units ++ unit ∷ []) new
