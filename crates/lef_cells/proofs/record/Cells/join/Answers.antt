use Rattle.lef_cells.specs.declared.record.MacroCell.{MacroCell}
use Rattle.lef_cells.specs.declared.record.Site.{Site}
use Rattle.lef_cells.specs.Limits.{SiteKeeps, MacroKeeps}
use Rattle.lef_cells.specs.Laws.Joining.{joined_all}
use Rattle.lef_cells.proofs.Joining.{joined_distinct}
use Rattle.lef_cells.proofs.record.Cells.join.Goals as goal

pub returns-clause-keeps : goal.returns-clause-keeps
returns-clause-keeps c = λ h k. record {
  sites = joined_all SiteKeeps (λ (site : Site). site.name) c.args.self.sites c.args.other.sites c.in_ok-joined.field-0 c.in_ok-joined.ensures h.sites k.sites;
  macros = joined_all MacroKeeps (λ (cell : MacroCell). cell.name) c.args.self.macros c.args.other.macros c.in_ok-joined-2.field-0 c.in_ok-joined-2.ensures h.macros k.macros;
  site_names = joined_distinct (λ (site : Site). site.name) c.args.self.sites c.args.other.sites c.in_ok-joined.field-0 c.in_ok-joined.ensures h.site_names k.site_names;
  macro_names = joined_distinct (λ (cell : MacroCell). cell.name) c.args.self.macros c.args.other.macros c.in_ok-joined-2.field-0 c.in_ok-joined-2.ensures h.macro_names k.macro_names;
}
