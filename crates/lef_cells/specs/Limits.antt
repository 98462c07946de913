-- What every record of cells that is read keeps: names stand once, and lengths are within their limit. Lengths are not
-- negative, since they are whole numbers without a sign.
use Rattle.name_table.specs.Numbering.{AreDistinct}
use Rattle.std.specs.Prelude.{◌^◌, ◌≤◌, map, All}
use Rattle.lef_cells.specs.declared.record.Cells.{Cells}
use Rattle.lef_cells.specs.declared.record.MacroCell.{MacroCell}
use Rattle.lef_cells.specs.declared.record.Site.{Site}

-- A site is at most 100 mm wide and high.
abbrev pub SiteKeeps : Site → Type 0
SiteKeeps site = (site.width ≤ 10 ^ 11) × (site.height ≤ 10 ^ 11)

-- A macro is at most 100 mm wide and high.
abbrev pub MacroKeeps : MacroCell → Type 0
MacroKeeps cell = (cell.width ≤ 10 ^ 11) × (cell.height ≤ 10 ^ 11)

-- All sites and macros keep their limits, no two sites have one name, and no two macros.
pub record CellsKeep (cells : Cells) : Type 0 where
  pub sites : All SiteKeeps cells.sites
  pub macros : All MacroKeeps cells.macros
  pub site_names : AreDistinct (map (λ site. site.name) cells.sites)
  pub macro_names : AreDistinct (map (λ cell. cell.name) cells.macros)
