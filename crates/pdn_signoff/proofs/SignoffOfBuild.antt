-- A sign-off of what a build wrote leaves the netlist of the build.
use Rattle.std.proofs.Common.{◌≡◌, inl, inr, ℕ, ℤ, true, false, List, [], Option, Some, None, unwrap_or, sym, ap, ◌∙◌, arith}
use Rattle.outside.specs.Files.{Holdings, bytes_in}
use Rattle.outside.specs.Known.{WhereKnown}
use Rattle.building.specs.declared.outputs.Outputs.{Outputs}
use Rattle.building.specs.Building.{Design, IsDesignOf, AreOutputsOf}
use Rattle.building.specs.Inputs.{FiveTexts}
use Rattle.def_writer.specs.Written.{written_def}
use Rattle.grid_signing.specs.declared.signed.SignedGrid.{SignedGrid}
use Rattle.grid_signing.specs.Signing.{AreSignedTexts}
use Rattle.macro_building.specs.Blocks.{is_over_blocks}
use Rattle.macro_building.specs.Built.{BuiltDesign, IsPlain, IsBuiltDesign, AreBuiltOutputs}
use Rattle.rewired_networks.specs.Over.{HasOneDomain}
use Rattle.signed_builds.specs.Again.{AreOfBuild}
use Rattle.signing_off.specs.Inputs.{WiredTexts}
use Rattle.signing_off.specs.Signing.{WiredDesign, IsWiredDesign}
use Rattle.pdn_signoff.specs.declared.signoff_files.SignoffFiles.{SignoffFiles}
use Rattle.pdn_signoff.specs.Signoff.{AreWiredInputs, HoldBuild, LeavesSignedOff, LeavesNetlistOfBuild}

-- The law of builds whose DEF is signed off, as it is handed in.
abbrev pub AreSignedAgain : Type 0
AreSignedAgain = (told told' : Option (List ℤ × List ℤ)) (t : FiveTexts) (w : WiredTexts) (built : Design) (outputs : Outputs) (wired : WiredDesign) (signed : SignedGrid)
    → IsDesignOf told t built → HasOneDomain built.grid → AreOutputsOf built outputs → AreOfBuild t outputs w → IsWiredDesign told' w wired
    → AreSignedTexts wired.grid wired.signing signed → signed.netlist ≡ outputs.netlist

-- What is built where no grid over macros meets a block is built as without blocks.
plain_of : (told : Option (List ℤ × List ℤ)) (t : FiveTexts) (d : BuiltDesign) → IsBuiltDesign told t d → is_over_blocks d.design.records ≡ false → IsPlain told t d
plain_of told t d (inl plain) none = plain
plain_of told t d (inr over) none = absurd (let clash : true ≡ false = sym over.some ∙ none in cc)

-- Its outputs are those of its design, of which the whole grid is written.
plain_outputs : (d : BuiltDesign) (outputs : Outputs) → d.written ≡ d.design.grid → AreBuiltOutputs d outputs → AreOutputsOf d.design outputs
plain_outputs d outputs written are = record {
  def = are.def ∙ ap (written_def d.design.records.design d.design.records.tech) written;
  netlist = are.netlist;
  certificate = are.certificate;
  report = are.report;
  numbers = are.numbers;
}

-- The texts that are signed off are those of the build.
are_of : (held : Holdings) (f : SignoffFiles) (t : FiveTexts) (outputs : Outputs) (w : WiredTexts) → HoldBuild held f t outputs → AreWiredInputs (Some held) f w → AreOfBuild t outputs w
are_of held f t outputs w hold are = record {
  lef = are.lef.text_is ∙ sym hold.lef;
  cells = are.cells.text_is ∙ sym hold.cells;
  def = are.def.text_is ∙ sym hold.def;
  wires = are.wires.text_is ∙ sym hold.wires;
  bias = are.bias.text_is ∙ sym hold.bias;
}

pub netlist_of_build : AreSignedAgain → (told : Option (List ℤ × List ℤ)) (f : SignoffFiles) (status : ℕ) (k l : Option Holdings) → WhereKnown (LeavesSignedOff told f status) k l
    → WhereKnown (LeavesNetlistOfBuild f) k l
netlist_of_build law told f status None None left = tt
netlist_of_build law told f status None (Some y) left = left
netlist_of_build law told f status (Some x) None left = left
netlist_of_build law told f status (Some x) (Some y) left = λ t outputs build hold.
    let files = left.signs in
    let signs = files.signs in
    let plain = plain_of build.told t build.design build.is_design build.none in
    let are_outputs = plain_outputs build.design outputs plain.written build.are_outputs in
    let same : left.signed.netlist ≡ outputs.netlist = law build.told told t files.texts build.design.design outputs signs.design left.signed plain.is_design build.over are_outputs
    (are_of x f t outputs files.texts hold files.are_inputs) signs.is_design signs.are_texts in
    let held : left.signed.netlist ≡ bytes_in y f.netlist = ap (λ o. unwrap_or o []) (sym (left.files.each 0 ([], []) (omega arith))) in
    sym same ∙ held
