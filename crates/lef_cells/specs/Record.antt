-- What the sections of a LEF library say of its cells.
use Rattle.std.specs.Prelude.{◌≡◌, ℕ, Bool, false, List, [], ◌∷◌, Option, Some, None, Ok, pos, codes}
use Rattle.entry_list.specs.InTurn.{InTurn}
use Rattle.lef_cells.specs.declared.record.Cells.{Cells}
use Rattle.lef_cells.specs.declared.record.MacroCell.{MacroCell}
use Rattle.lef_cells.specs.declared.record.Site.{Site}
use Rattle.lef_cells.specs.declared.sort.Sort.TheVariants as sorts
use Rattle.lef_cells.specs.Rule.{is_size, is_class, sections, name_of}
use Rattle.lef_cells.specs.Number.{length}
use Rattle.lef_statements.specs.First.{first_with}
use Rattle.lef_statements.specs.Word.{is_word}
use Rattle.number_place.specs.Place.{IsNumberAt}
use Rattle.reading.specs.Blocks.{Block}
use Rattle.reading.specs.Word.{Token}

-- `SIZE w BY h ;` is of this width and height.
abbrev pub SaysSize : Option (List Token) → ℕ → ℕ → Type 0
SaysSize (Some (first ∷ w ∷ by ∷ h ∷ stop ∷ [])) width height =
    IsNumberAt length w.text (Ok (pos width)) × IsNumberAt length h.text (Ok (pos height))
SaysSize _ width height = ⊥

-- Whether the class of `CLASS c` is BLOCK.
abbrev pub makes_block : List Token → Bool
makes_block (first ∷ class ∷ []) = is_word (codes "BLOCK") class
makes_block _ = false

-- A macro without a CLASS is no block.
abbrev pub is_block : Option (List Token) → Bool
is_block None = false
is_block (Some unit) = makes_block unit

-- A section of a site: its name, and its first SIZE.
pub record SaysSite (section : Block Token) (site : Site) : Type 0 where
  pub name : site.name ≡ name_of section
  pub size : SaysSize (first_with is_size section.body) site.width site.height

-- A section of a macro: its name, its first SIZE, and whether its first CLASS makes it a block.
pub record SaysMacro (section : Block Token) (cell : MacroCell) : Type 0 where
  pub name : cell.name ≡ name_of section
  pub size : SaysSize (first_with is_size section.body) cell.width cell.height
  pub block : cell.block ≡ is_block (first_with is_class section.body)

-- The record of the units: the sites and the macros, each in the order of their sections.
pub record IsCells (units : List (List Token)) (cells : Cells) : Type 0 where
  pub sites : InTurn SaysSite (sections sorts.Site units) cells.sites
  pub macros : InTurn SaysMacro (sections sorts.Macro units) cells.macros
