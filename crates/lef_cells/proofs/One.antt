-- The units of a text say one record.
use Rattle.std.proofs.Common.{◌≡◌, ℕ, List, [], ◌∷◌, Option, Some, Ok, sym, ◌∙◌, ap}
use Rattle.entry_list.specs.Laws.{in-turn-one}
use Rattle.lef_cells.specs.declared.held.Held.{Held}
use Rattle.lef_cells.specs.declared.record.Cells.{Cells}
use Rattle.lef_cells.specs.declared.record.MacroCell.{MacroCell}
use Rattle.lef_cells.specs.declared.record.Site.{Site}
use Rattle.lef_cells.specs.Format.{format, kinds, ReadsCells}
use Rattle.lef_cells.specs.inside.Held.{Holds, HoldsAll}
use Rattle.lef_cells.specs.Record.{SaysSize, SaysSite, SaysMacro, IsCells}
use Rattle.lef_cells.specs.Rule.{is_head}
use Rattle.lef_cells.specs.Section.{standing_of}
use Rattle.lef_cells.proofs.Ending.{ended}
use Rattle.lef_cells.proofs.Limits.{all_held}
use Rattle.lef_cells.proofs.Numbers.{HasOne, one_length}
use Rattle.reading.specs.Blocks.{Block, blocks}
use Rattle.reading.specs.Error.{ReadsRecord}
use Rattle.reading.specs.Outcome.{IsReadAs}
use Rattle.reading.specs.Word.{Token, seen_text}
use Rattle.text_lex.specs.Split.{Split}
use Rattle.text_lex.specs.declared.word.Mode.TheVariants.{LefDef}

one_size : HasOne → (o : Option (List Token)) (v w x y : ℕ) → SaysSize o v w → SaysSize o x y → (v ≡ x) × (w ≡ y)
one_size one (Some (first ∷ width ∷ by ∷ height ∷ stop ∷ [])) v w x y h k =
    (one_length one width.text v x h.0 k.0, one_length one height.text w y h.1 k.1)
one_size one o v w x y h k = absurd h

abbrev the_site : Site → Site
the_site a = a

same_site : (a b : Site) → a.name ≡ b.name → a.width ≡ b.width → a.height ≡ b.height → a ≡ b
same_site a b e f g =
    ap (λ z. the_site (record { name = z; width = a.width; height = a.height })) e
    ∙ ap (λ z. the_site (record { name = b.name; width = z; height = a.height })) f
    ∙ ap (λ z. the_site (record { name = b.name; width = b.width; height = z })) g

abbrev the_cell : MacroCell → MacroCell
the_cell a = a

same_cell : (a b : MacroCell) → a.name ≡ b.name → a.block ≡ b.block → a.width ≡ b.width → a.height ≡ b.height → a ≡ b
same_cell a b e d f g =
    ap (λ z. the_cell (record { name = z; block = a.block; width = a.width; height = a.height })) e
    ∙ ap (λ z. the_cell (record { name = b.name; block = z; width = a.width; height = a.height })) d
    ∙ ap (λ z. the_cell (record { name = b.name; block = b.block; width = z; height = a.height })) f
    ∙ ap (λ z. the_cell (record { name = b.name; block = b.block; width = b.width; height = z })) g

one_site : HasOne → (section : Block Token) (a b : Site) → SaysSite section a → SaysSite section b → a ≡ b
one_site one section a b h k =
    let size = one_size one _ a.width a.height b.width b.height h.size k.size in
    same_site a b (h.name ∙ sym k.name) size.0 size.1

one_macro : HasOne → (section : Block Token) (a b : MacroCell) → SaysMacro section a → SaysMacro section b → a ≡ b
one_macro one section a b h k =
    let size = one_size one _ a.width a.height b.width b.height h.size k.size in
    same_cell a b (h.name ∙ sym k.name) (h.block ∙ sym k.block) size.0 size.1

-- Where the text has ended all sections have.
all_read : (split : Split) (units : List (List Token)) (held : Held) → IsReadAs format (seen_text split) units → Holds units held →
    HoldsAll (blocks is_head units) held.said
all_read split units held read h = all_held (standing_of units).section units held.said (ended split units read) h.said

abbrev the_cells : Cells → Cells
the_cells a = a

pub one_cells : HasOne → (units : List (List Token)) (a b : Cells) → IsCells units a → IsCells units b → a ≡ b
one_cells one units a b h k =
    ap (λ z. the_cells (record { sites = z; macros = a.macros })) (in-turn-one SaysSite (one_site one) _ a.sites b.sites h.sites k.sites)
    ∙ ap (λ z. the_cells (record { sites = b.sites; macros = z })) (in-turn-one SaysMacro (one_macro one) _ a.macros b.macros h.macros k.macros)

-- What the units that were held say is the text's record.
pub cells_read : (text : List ℕ) (held : Held) (x : Unit {0}) (cells : Cells) →
    ReadsRecord {R = Unit {0}} kinds LefDef text format (λ units told. Holds units held) (Ok x) →
    ((units : List (List Token)) → HoldsAll (blocks is_head units) held.said → IsCells units cells) → ReadsCells text (Ok cells)
cells_read text held x cells h told = (h.0, h.1, h.2, h.3, told h.2 (all_read h.0 h.2 held h.3 h.4))

-- And they say what the record keeps.
pub cells_keep : (text : List ℕ) (held : Held) (x : Unit {0}) (keeps : Type 0) →
    ReadsRecord {R = Unit {0}} kinds LefDef text format (λ units told. Holds units held) (Ok x) →
    ((units : List (List Token)) → HoldsAll (blocks is_head units) held.said → keeps) → keeps
cells_keep text held x keeps h told = told h.2 (all_read h.0 h.2 held h.3 h.4)
