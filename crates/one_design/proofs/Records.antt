-- The records of five texts are one, and a text that is refused has none.
use Rattle.std.proofs.Common.{◌≡◌, ℕ, List, refl, sym, ap, ◌∙◌}
use Rattle.answers.specs.declared.answer.Answer.{Answer}
use Rattle.answers.specs.declared.answer.Answer.TheVariants.{Want}
use Rattle.lef_tech.specs.declared.error.TechKind.TheVariants as tech
use Rattle.lef_tech.specs.declared.tech.Tech.{Tech}
use Rattle.lef_tech.specs.Format.{ReadsTech}
use Rattle.lef_cells.specs.declared.error.CellsKind.TheVariants as cells
use Rattle.lef_cells.specs.declared.record.Cells.{Cells}
use Rattle.lef_cells.specs.declared.record.MacroCell.{MacroCell}
use Rattle.lef_cells.specs.declared.record.Site.{Site}
use Rattle.lef_cells.specs.Format.{ReadsCells}
use Rattle.lef_cells.specs.Join.{joined}
use Rattle.def_design.specs.declared.error.DefKind.TheVariants as def
use Rattle.def_design.specs.declared.record.Design.{Design as Placed}
use Rattle.def_design.specs.Format.{ReadsDesign}
use Rattle.pdn_script.specs.declared.error.ScriptKind.TheVariants as script
use Rattle.pdn_script.specs.declared.record.Script.{Script}
use Rattle.pdn_script.specs.Format.{ReadsScript}
use Rattle.bias_file.specs.declared.error.BiasKind.TheVariants as bias
use Rattle.bias_file.specs.declared.record.Bias.{Bias}
use Rattle.bias_file.specs.Format.{ReadsBias}
use Rattle.building.specs.declared.records.Records.{Records}
use Rattle.building.specs.Inputs.{FiveTexts}
use Rattle.building.specs.Kinds.{tech_kind, cells_kind, def_kind, script_kind, bias_kind}
use Rattle.building.specs.Reading.{AreCellsOf, AreRecords, IsUnread}
use Rattle.one_design.proofs.Readings as reads
use Rattle.one_design.specs.Laws.Causes.{One}
use Rattle.one_design.specs.Laws.Texts.{HasOneResult, one_record}

-- What is told of the five readers.
pub record AreReaders : Type 0 where
  pub tech : HasOneResult ReadsTech tech.Want
  pub cells : HasOneResult ReadsCells cells.Want
  pub design : HasOneResult ReadsDesign def.Want
  pub script : HasOneResult ReadsScript script.Want
  pub bias : HasOneResult ReadsBias bias.Want

abbrev cells_from : List Site → List MacroCell → Cells
cells_from sites macros = record { sites = sites; macros = macros }

-- The cells of two texts are one.
pub same_cells : HasOneResult ReadsCells cells.Want → (lef other : List ℕ) (c d : Cells) → AreCellsOf lef other c → AreCellsOf lef other d → c ≡ d
same_cells one lef other c d x y =
    let first : x.first ≡ y.first = one_record ReadsCells cells.Want cells_kind refl one lef x.first y.first x.first_reads y.first_reads in
    let second : x.second ≡ y.second = one_record ReadsCells cells.Want cells_kind refl one other x.second y.second x.second_reads y.second_reads in
    let sites : c.sites ≡ d.sites = x.sites ∙ ap (λ (z : Cells). joined (λ (site : Site). site.name) z.sites x.second.sites) first ∙ ap (λ (z : Cells). joined (λ (site : Site). site.name) y.first.sites z.sites) second ∙ sym y.sites in
    let macros : c.macros ≡ d.macros = x.macros ∙ ap (λ (z : Cells). joined (λ (cell : MacroCell). cell.name) z.macros x.second.macros) first ∙ ap (λ (z : Cells). joined (λ (cell : MacroCell). cell.name) y.first.macros z.macros) second ∙ sym y.macros in
    ap (λ s. cells_from s c.macros) sites ∙ ap (cells_from d.sites) macros

abbrev records_from : Tech → Cells → Placed → Script → Bias → Records
records_from t c d s b = record { tech = t; cells = c; design = d; script = s; bias = b }

module _ (readers : AreReaders) (t : FiveTexts) where
  pub one_unread : One (IsUnread t)
  one_unread = reads.one_unread t.lef t.cells t.def t.pdn t.bias readers.tech readers.cells ReadsDesign def.Want def_kind refl readers.design ReadsScript script.Want script_kind refl readers.script ReadsBias bias.Want bias_kind refl readers.bias

  pub unread_or_read : (a : Answer) (r : Records) → IsUnread t a → AreRecords t r → a ≡ Want
  unread_or_read a r x are =
      reads.unread_or_read t.lef t.cells t.def t.pdn t.bias readers.tech readers.cells ReadsDesign def.Want def_kind refl readers.design ReadsScript script.Want script_kind refl readers.script ReadsBias bias.Want bias_kind refl readers.bias a
      ((r.tech, are.tech), (are.cells.first, are.cells.first_reads), (are.cells.second, are.cells.second_reads)) (r.design, are.design) (r.script, are.script) (r.bias, are.bias) x

  -- ---- one record
  pub same_records : (r s : Records) → AreRecords t r → AreRecords t s → r ≡ s
  same_records r s x y =
      let of_tech : r.tech ≡ s.tech = one_record ReadsTech tech.Want tech_kind refl readers.tech t.lef.text r.tech s.tech x.tech y.tech in
      let of_cells : r.cells ≡ s.cells = same_cells readers.cells t.lef.text t.cells.text r.cells s.cells x.cells y.cells in
      let of_design : r.design ≡ s.design = one_record ReadsDesign def.Want def_kind refl readers.design t.def.text r.design s.design x.design y.design in
      let of_script : r.script ≡ s.script = one_record ReadsScript script.Want script_kind refl readers.script t.pdn.text r.script s.script x.script y.script in
      let of_bias : r.bias ≡ s.bias = one_record ReadsBias bias.Want bias_kind refl readers.bias t.bias.text r.bias s.bias x.bias y.bias in
      ap (λ z. records_from z r.cells r.design r.script r.bias) of_tech
      ∙ ap (λ z. records_from s.tech z r.design r.script r.bias) of_cells
      ∙ ap (λ z. records_from s.tech s.cells z r.script r.bias) of_design
      ∙ ap (λ z. records_from s.tech s.cells s.design z r.bias) of_script
      ∙ ap (records_from s.tech s.cells s.design s.script) of_bias
