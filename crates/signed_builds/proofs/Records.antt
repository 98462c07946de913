-- The records of a sign-off are those of the build.
use Rattle.std.proofs.Common.{◌≡◌, ℕ, List, Ok, sym, ap, subst, ◌∙◌}
use Rattle.bias_file.specs.declared.record.Bias.{Bias}
use Rattle.bias_file.specs.Format.{ReadsBias}
use Rattle.lef_tech.specs.declared.tech.Tech.{Tech}
use Rattle.lef_tech.specs.Format.{ReadsTech}
use Rattle.lef_cells.specs.declared.record.Cells.{Cells}
use Rattle.lef_cells.specs.declared.record.MacroCell.{MacroCell}
use Rattle.lef_cells.specs.declared.record.Site.{Site}
use Rattle.lef_cells.specs.Format.{ReadsCells}
use Rattle.lef_cells.specs.Join.{joined}
use Rattle.def_design.specs.declared.record.Design.{Design as Placed}
use Rattle.def_design.specs.Format.{ReadsDesign, ReadsPlaced}
use Rattle.building.specs.declared.outputs.Outputs.{Outputs}
use Rattle.building.specs.declared.records.Records.{Records}
use Rattle.building.specs.Inputs.{FiveTexts}
use Rattle.building.specs.Reading.{AreCellsOf, AreRecords}
use Rattle.signing_off.specs.declared.records.WiredRecords.{WiredRecords}
use Rattle.signing_off.specs.Inputs.{WiredTexts}
use Rattle.signing_off.specs.Reading.{AreWiredRecords}
use Rattle.signed_builds.specs.Again.{AreOfBuild}

-- What is told of the readers: a text has one record, and a design without wires is read as the same one where wires are
-- passed over.
pub record AreReaders : Type 0 where
  pub tech : (text : List ℕ) (a b : Tech) → ReadsTech text (Ok a) → ReadsTech text (Ok b) → a ≡ b
  pub cells : (text : List ℕ) (a b : Cells) → ReadsCells text (Ok a) → ReadsCells text (Ok b) → a ≡ b
  pub design : (text : List ℕ) (a b : Placed) → ReadsPlaced text (Ok a) → ReadsPlaced text (Ok b) → a ≡ b
  pub bias : (text : List ℕ) (a b : Bias) → ReadsBias text (Ok a) → ReadsBias text (Ok b) → a ≡ b
  pub placed : (text : List ℕ) (design : Placed) → ReadsDesign text (Ok design) → ReadsPlaced text (Ok design)

-- What a grid is drawn and signed off over is the same.
pub record AreSame (r : Records) (s : WiredRecords) : Type 0 where
  pub tech : s.tech ≡ r.tech
  pub cells : s.cells ≡ r.cells
  pub design : s.design ≡ r.design
  pub bias : s.bias ≡ r.bias

-- Two lists of which one is joined out of two others.
same_cells : AreReaders → (lef other : List ℕ) (c d : Cells) → AreCellsOf lef other c → AreCellsOf lef other d → c ≡ d
same_cells readers lef other c d x y = whole
  where
    first : x.first ≡ y.first
    first = readers.cells lef x.first y.first x.first_reads y.first_reads

    second : x.second ≡ y.second
    second = readers.cells other x.second y.second x.second_reads y.second_reads

    sites : c.sites ≡ d.sites
    sites =
        x.sites ∙ ap (λ (z : Cells). joined (λ (site : Site). site.name) z.sites x.second.sites) first
        ∙ ap (λ (z : Cells). joined (λ (site : Site). site.name) y.first.sites z.sites) second ∙ sym y.sites

    macros : c.macros ≡ d.macros
    macros =
        x.macros ∙ ap (λ (z : Cells). joined (λ (cell : MacroCell). cell.name) z.macros x.second.macros) first
        ∙ ap (λ (z : Cells). joined (λ (cell : MacroCell). cell.name) y.first.macros z.macros) second ∙ sym y.macros

    whole : c ≡ d
    whole i = record { sites = sites i; macros = macros i }

pub same_records : AreReaders → (t : FiveTexts) (outputs : Outputs) (w : WiredTexts) (r : Records) (s : WiredRecords) → AreOfBuild t outputs w → AreRecords t r → AreWiredRecords w s → AreSame r s
same_records readers t outputs w r s of x y = record {
  tech = readers.tech t.lef.text s.tech r.tech (subst (λ text. ReadsTech text (Ok s.tech)) of.lef y.tech) x.tech;
  cells = same_cells readers t.lef.text t.cells.text s.cells r.cells
      (subst (λ text. AreCellsOf text t.cells.text s.cells) of.lef (subst (λ text. AreCellsOf w.lef.text text s.cells) of.cells y.cells)) x.cells;
  design = readers.design t.def.text s.design r.design (subst (λ text. ReadsPlaced text (Ok s.design)) of.def y.design) (readers.placed t.def.text r.design x.design);
  bias = readers.bias t.bias.text s.bias r.bias (subst (λ text. ReadsBias text (Ok s.bias)) of.bias y.bias) x.bias;
}
