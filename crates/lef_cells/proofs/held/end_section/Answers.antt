use Rattle.std.proofs.Common.{[], ◌∷◌, OnOk, ◌≡◌, sym, subst}
use Rattle.lef_cells.specs.declared.section.Section.{Section}
use Rattle.lef_cells.specs.declared.sort.Sort.TheVariants.{End}
use Rattle.lef_cells.specs.Sort.{sort_of}
use Rattle.lef_cells.specs.inside.Held.{Leads}
use Rattle.lef_cells.proofs.Taking.{with_sites, with_macros, site_leads, macro_leads, end_leads}
use Rattle.reading.specs.Word.{Token}
use Rattle.lef_cells.proofs.held.end_section.Goals as goal

pub returns-in_ok-site-in-SizedSite : goal.returns-in_ok-site-in-SizedSite
returns-in_ok-site-in-SizedSite c =
    let said = c.args.said.now in
    let site = c.in_ok-site-in-SizedSite in
    subst (λ (z : Section). OnOk c.add.result ((first name : Token) → sort_of first ≡ End → Leads z (first ∷ name ∷ []) said (with_sites said c.add.new.self)))
    (sym c.in-SizedSite.is)
    (site_leads said c.add.new.self site.site c.add.result site.ensures.name site.ensures.size c.add.ensures.names c.add.ensures.entries)

pub returns-in_ok-cell-in-SizedMacro : goal.returns-in_ok-cell-in-SizedMacro
returns-in_ok-cell-in-SizedMacro c =
    let said = c.args.said.now in
    let cell = c.in_ok-cell-in-SizedMacro in
    let add = c.add-in-SizedMacro in
    subst (λ (z : Section). OnOk add.result ((first name : Token) → sort_of first ≡ End → Leads z (first ∷ name ∷ []) said (with_macros said add.new.self)))
    (sym c.in-SizedMacro.is)
    (macro_leads said add.new.self cell.cell add.result cell.ensures.name cell.ensures.size cell.ensures.block add.ensures.names add.ensures.entries)

pub returns-in_default : goal.returns-in_default
returns-in_default c = λ first name is.
    end_leads c.args.section first name c.args.said.now is c.in_default.not-SizedSite c.in_default.not-SizedMacro
