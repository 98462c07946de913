-- The network of a sign-off of what a build wrote is that of the build.
use Rattle.std.proofs.Common.{◌≡◌, ℕ, ◌≤◌, ℤ, List, Option, Ok, length, sym, ap, subst, ◌∙◌}
use Rattle.bias_file.specs.declared.record.Bias.{Bias}
use Rattle.bias_file.specs.Limits.{BiasKeeps}
use Rattle.lef_tech.specs.declared.tech.Tech.{Tech}
use Rattle.lef_cells.specs.declared.record.Cells.{Cells}
use Rattle.def_design.specs.declared.record.Design.{Design as Placed}
use Rattle.def_wiring.specs.declared.record.Wires.{Wires}
use Rattle.def_wiring.specs.Format.{ReadsWires}
use Rattle.pdn_script.specs.declared.record.Script.{Script}
use Rattle.pdn_script.specs.Format.{ReadsScript}
use Rattle.grid_pieces.specs.declared.grid.Grid.{Grid}
use Rattle.grid_network.specs.declared.extracted.Extracted.{Extracted}
use Rattle.grid_extract.specs.Extraction.{IsExtracted}
use Rattle.grid_shapes.specs.Drawing.{IsDrawingOf}
use Rattle.def_writer.specs.Written.{written_def}
use Rattle.drawn_wiring.specs.Drawn.{AreRead, IsDrawn}
use Rattle.wired_grid.specs.Wired.{IsWiredGrid}
use Rattle.rewired_networks.specs.Over.{HasOneDomain}
use Rattle.spice_grid.specs.Written.{written_netlist}
use Rattle.building.specs.declared.outputs.Outputs.{Outputs}
use Rattle.building.specs.declared.records.Records.{Records}
use Rattle.building.specs.Building.{Design, GridStands, IsDesignOf, AreOutputsOf}
use Rattle.building.specs.Inputs.{FiveTexts}
use Rattle.building.specs.Reading.{AreRecords}
use Rattle.grid_signing.specs.declared.signed.SignedGrid.{SignedGrid}
use Rattle.grid_signing.specs.Signing.{AreSignedTexts}
use Rattle.signing_off.specs.declared.records.WiredRecords.{WiredRecords}
use Rattle.signing_off.specs.Inputs.{WiredTexts}
use Rattle.signing_off.specs.Signing.{WiredDesign, IsWiredDesign}
use Rattle.signed_builds.specs.Again.{AreOfBuild}
use Rattle.signed_builds.proofs.Records.{AreReaders, AreSame, same_records}

-- What is told of the wiring that is written of a drawn grid.
abbrev pub HaveOneNetwork : Type 0
HaveOneNetwork = (tech : Tech) (cells : Cells) (design : Placed) (script : Script) (text : List ℕ) (bias : Bias) (grid again : Grid) (wires : Wires) (one other : Extracted)
    → AreRead tech cells design script → ReadsScript text (Ok script) → BiasKeeps bias → IsDrawn tech cells design script grid → HasOneDomain grid
    → ReadsWires (written_def design tech grid) (Ok wires) → IsWiredGrid tech design wires again → IsExtracted grid tech cells design bias one
    → IsExtracted again tech cells design bias other → one ≡ other

are_read : (t : FiveTexts) (r : Records) → AreRecords t r → AreRead r.tech r.cells r.design r.script
are_read t r are = record {
  tech_text = t.lef.text;
  is_tech = are.tech;
  tech_keeps = are.kept.tech;
  cells_keep = are.kept.cells;
  design_text = t.def.text;
  is_design = are.design;
  design_keeps = are.kept.design;
  script_keeps = are.kept.script;
}

is_drawn : (d : Design) → IsDrawingOf d.records.tech d.records.cells d.records.design d.records.script d.grid → GridStands d.records d.grid
    → IsDrawn d.records.tech d.records.cells d.records.design d.records.script d.grid
is_drawn d drawing stands = record {
  is = drawing;
  pieces = stands.pieces;
  stacks = stands.stacks;
  few_pieces = stands.few_pieces;
  few_stacks = stands.few_stacks;
}

-- The wired grid and its network over the records of the build.
wired_over : (r : Records) (s : WiredRecords) (grid : Grid) → AreSame r s → IsWiredGrid s.tech s.design s.wires grid → IsWiredGrid r.tech r.design s.wires grid
wired_over r s grid same is =
    subst (λ (tech : Tech). IsWiredGrid tech r.design s.wires grid) same.tech (subst (λ (design : Placed). IsWiredGrid s.tech design s.wires grid) same.design is)

extracted_over : (r : Records) (s : WiredRecords) (grid : Grid) (e : Extracted) → AreSame r s → IsExtracted grid s.tech s.cells s.design s.bias e
    → IsExtracted grid r.tech r.cells r.design r.bias e
extracted_over r s grid e same is =
    subst (λ (tech : Tech). IsExtracted grid tech r.cells r.design r.bias e) same.tech
    (subst (λ (cells : Cells). IsExtracted grid s.tech cells r.design r.bias e) same.cells
    (subst (λ (design : Placed). IsExtracted grid s.tech s.cells design r.bias e) same.design
    (subst (λ (bias : Bias). IsExtracted grid s.tech s.cells s.design bias e) same.bias is)))

pub same_network : AreReaders → HaveOneNetwork → (told told' : Option (List ℤ × List ℤ)) (t : FiveTexts) (w : WiredTexts) (d : Design) (outputs : Outputs) (e : WiredDesign)
    → IsDesignOf told t d → HasOneDomain d.grid → AreOutputsOf d outputs → AreOfBuild t outputs w → IsWiredDesign told' w e → d.extracted ≡ e.signing.extracted
same_network readers one told told' t w d outputs e is over are of wired =
    let r = d.records in
    let s = e.records in
    let same : AreSame r s = same_records readers t outputs w r s of is.records wired.records in
    let reads : ReadsWires (written_def r.design r.tech d.grid) (Ok s.wires) = subst (λ text. ReadsWires text (Ok s.wires)) (of.wires ∙ are.def) wired.records.wires in
    one r.tech r.cells r.design r.script t.pdn.text r.bias d.grid e.grid s.wires d.extracted e.signing.extracted (are_read t r is.records) is.records.script is.records.kept.bias
    (is_drawn d is.grid is.stands) over reads (wired_over r s e.grid same wired.grid) is.network (extracted_over r s e.grid e.signing.extracted same wired.signing.network)

pub same_netlist : (d : Design) (e : WiredDesign) (outputs : Outputs) (signed : SignedGrid) → d.extracted ≡ e.signing.extracted → AreOutputsOf d outputs
    → AreSignedTexts e.grid e.signing signed → signed.netlist ≡ outputs.netlist
same_netlist d e outputs signed same are texts = texts.netlist ∙ ap (λ (x : Extracted). written_netlist x.net x.names x.notes) (sym same) ∙ sym are.netlist
