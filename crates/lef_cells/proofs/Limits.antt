-- What a record keeps, by what its sections say.
use Rattle.std.proofs.Common.{◌≡◌, ℕ, ◌^◌, ◌≤◌, pos, true, false, List, [], ◌∷◌, map, All, Option, Some, sym, subst}
use Rattle.entry_list.specs.InTurn.{InTurn}
use Rattle.entry_list.specs.Laws.{in-turn-all}
use Rattle.named_entries.specs.Laws.{names-differ}
use Rattle.name_table.specs.Numbering.{AreDistinct}
use Rattle.lef_cells.specs.declared.held.Sections.{Sections}
use Rattle.lef_cells.specs.declared.record.Cells.{Cells}
use Rattle.lef_cells.specs.declared.record.MacroCell.{MacroCell}
use Rattle.lef_cells.specs.declared.record.Site.{Site}
use Rattle.lef_cells.specs.declared.section.Section.{Section}
use Rattle.lef_cells.specs.declared.section.Section.TheVariants as places
use Rattle.lef_cells.specs.declared.sort.Sort.TheVariants as sorts
use Rattle.lef_cells.specs.Limits.{CellsKeep, SiteKeeps, MacroKeeps}
use Rattle.lef_cells.specs.Number.{length}
use Rattle.lef_cells.specs.Record.{SaysSize, SaysSite, SaysMacro, IsCells}
use Rattle.lef_cells.specs.Rule.{is_head, sections, name_of}
use Rattle.lef_cells.specs.inside.Held.{is_open, HoldsAll, HoldsIn}
use Rattle.lef_cells.proofs.Numbers.{Limited}
use Rattle.reading.specs.Blocks.{Block, blocks}
use Rattle.reading.specs.Word.{Token}

-- What is held where no section is open.
pub all_held : (section : Section) (units : List (List Token)) (said : Sections) → is_open section ≡ false → HoldsIn section units said →
    HoldsAll (blocks is_head units) said
all_held places.Top units said h k = k
all_held places.Passed units said h k = k
all_held places.Ended units said h k = k
all_held section units said h k = absurd (let t : true ≡ false = h in cc)

size_kept : Limited → (o : Option (List Token)) (w h : ℕ) → SaysSize o w h → (w ≤ 10 ^ 11) × (h ≤ 10 ^ 11)
size_kept limited (Some (first ∷ width ∷ by ∷ height ∷ stop ∷ [])) w h s =
    (limited length width.text (pos w) s.0, limited length height.text (pos h) s.1)
size_kept limited o w h s = absurd s

site_kept : Limited → (section : Block Token) (site : Site) → SaysSite section site → SiteKeeps site
site_kept limited section site h = size_kept limited _ site.width site.height h.size

macro_kept : Limited → (section : Block Token) (cell : MacroCell) → SaysMacro section cell → MacroKeeps cell
macro_kept limited section cell h = size_kept limited _ cell.width cell.height h.size

pub cells_is : (units : List (List Token)) (said : Sections) (cells : Cells) → HoldsAll (blocks is_head units) said →
    cells.sites ≡ said.sites.entries → cells.macros ≡ said.macros.entries → IsCells units cells
cells_is units said cells h sites macros = record {
  sites = subst (λ z. InTurn SaysSite (sections sorts.Site units) z) (sym sites) h.sites.entries;
  macros = subst (λ z. InTurn SaysMacro (sections sorts.Macro units) z) (sym macros) h.macros.entries;
}

pub cells_kept : Limited → (units : List (List Token)) (said : Sections) (cells : Cells) → HoldsAll (blocks is_head units) said →
    cells.sites ≡ said.sites.entries → cells.macros ≡ said.macros.entries → AreDistinct said.sites.names → AreDistinct said.macros.names →
    CellsKeep cells
cells_kept limited units said cells h sites macros one two = record {
  sites = subst (λ z. All SiteKeeps z) (sym sites) (in-turn-all SaysSite SiteKeeps (site_kept limited) _ _ h.sites.entries);
  macros = subst (λ z. All MacroKeeps z) (sym macros) (in-turn-all SaysMacro MacroKeeps (macro_kept limited) _ _ h.macros.entries);
  site_names = subst (λ (z : List Site). AreDistinct (map (λ site. site.name) z)) (sym sites)
      (names-differ SaysSite name_of (λ site. site.name) (λ section site says. says.name) _ said.sites h.sites one);
  macro_names = subst (λ (z : List MacroCell). AreDistinct (map (λ cell. cell.name) z)) (sym macros)
      (names-differ SaysMacro name_of (λ cell. cell.name) (λ section cell says. says.name) _ said.macros h.macros two);
}
