-- The records of the five texts of a sign-off are one, and a text that is refused has none.
use Rattle.std.proofs.Common.{◌≡◌, refl, ap, ◌∙◌}
use Rattle.answers.specs.declared.answer.Answer.{Answer}
use Rattle.answers.specs.declared.answer.Answer.TheVariants.{Want}
use Rattle.lef_tech.specs.declared.error.TechKind.TheVariants as tech
use Rattle.lef_tech.specs.declared.tech.Tech.{Tech}
use Rattle.lef_tech.specs.Format.{ReadsTech}
use Rattle.lef_cells.specs.declared.error.CellsKind.TheVariants as cells
use Rattle.lef_cells.specs.declared.record.Cells.{Cells}
use Rattle.lef_cells.specs.Format.{ReadsCells}
use Rattle.def_design.specs.declared.error.DefKind.TheVariants as def
use Rattle.def_design.specs.declared.record.Design.{Design as Placed}
use Rattle.def_design.specs.Format.{ReadsPlaced}
use Rattle.def_wiring.specs.declared.error.WiresKind.TheVariants as wires
use Rattle.def_wiring.specs.declared.record.Wires.{Wires}
use Rattle.def_wiring.specs.Format.{ReadsWires}
use Rattle.bias_file.specs.declared.error.BiasKind.TheVariants as bias
use Rattle.bias_file.specs.declared.record.Bias.{Bias}
use Rattle.bias_file.specs.Format.{ReadsBias}
use Rattle.building.specs.Kinds.{tech_kind, cells_kind, def_kind, bias_kind}
use Rattle.signing_off.specs.declared.records.WiredRecords.{WiredRecords}
use Rattle.signing_off.specs.Inputs.{WiredTexts}
use Rattle.signing_off.specs.Kinds.{wires_kind}
use Rattle.signing_off.specs.Reading.{AreWiredRecords, IsUnread}
use Rattle.one_design.proofs.Readings as reads
use Rattle.one_design.specs.Laws.Causes.{One}
use Rattle.one_design.proofs.Records.{same_cells}
use Rattle.one_design.specs.Laws.Texts.{HasOneResult, one_record}

-- What is told of the five readers.
pub record AreWiredReaders : Type 0 where
  pub tech : HasOneResult ReadsTech tech.Want
  pub cells : HasOneResult ReadsCells cells.Want
  pub design : HasOneResult ReadsPlaced def.Want
  pub wires : HasOneResult ReadsWires wires.Want
  pub bias : HasOneResult ReadsBias bias.Want

abbrev records_from : Tech → Cells → Placed → Wires → Bias → WiredRecords
records_from t c d w b = record { tech = t; cells = c; design = d; wires = w; bias = b }

module _ (readers : AreWiredReaders) (t : WiredTexts) where
  pub one_unread : One (IsUnread t)
  one_unread = reads.one_unread t.lef t.cells t.def t.wires t.bias readers.tech readers.cells ReadsPlaced def.Want def_kind refl readers.design ReadsWires wires.Want wires_kind refl readers.wires ReadsBias bias.Want bias_kind refl readers.bias

  pub unread_or_read : (a : Answer) (r : WiredRecords) → IsUnread t a → AreWiredRecords t r → a ≡ Want
  unread_or_read a r x are = reads.unread_or_read t.lef t.cells t.def t.wires t.bias readers.tech readers.cells ReadsPlaced def.Want def_kind refl readers.design ReadsWires wires.Want wires_kind refl readers.wires ReadsBias bias.Want bias_kind refl readers.bias a
      ((r.tech, are.tech), (are.cells.first, are.cells.first_reads), (are.cells.second, are.cells.second_reads)) (r.design, are.design) (r.wires, are.wires) (r.bias, are.bias) x

  -- ---- one record
  pub same_records : (r s : WiredRecords) → AreWiredRecords t r → AreWiredRecords t s → r ≡ s
  same_records r s x y =
      let of_tech : r.tech ≡ s.tech = one_record ReadsTech tech.Want tech_kind refl readers.tech t.lef.text r.tech s.tech x.tech y.tech in
      let of_cells : r.cells ≡ s.cells = same_cells readers.cells t.lef.text t.cells.text r.cells s.cells x.cells y.cells in
      let of_design : r.design ≡ s.design = one_record ReadsPlaced def.Want def_kind refl readers.design t.def.text r.design s.design x.design y.design in
      let of_wires : r.wires ≡ s.wires = one_record ReadsWires wires.Want wires_kind refl readers.wires t.wires.text r.wires s.wires x.wires y.wires in
      let of_bias : r.bias ≡ s.bias = one_record ReadsBias bias.Want bias_kind refl readers.bias t.bias.text r.bias s.bias x.bias y.bias in
      ap (λ z. records_from z r.cells r.design r.wires r.bias) of_tech
      ∙ ap (λ z. records_from s.tech z r.design r.wires r.bias) of_cells
      ∙ ap (λ z. records_from s.tech s.cells z r.wires r.bias) of_design
      ∙ ap (λ z. records_from s.tech s.cells s.design z r.bias) of_wires
      ∙ ap (records_from s.tech s.cells s.design s.wires) of_bias
