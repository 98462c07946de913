-- The reading of the five texts: what they say together, and which of them is refused first.
use Rattle.std.specs.Prelude.{◌≡◌, ◌⊎◌, All, Ok}
use Rattle.answers.specs.declared.answer.Answer.{Answer}
use Rattle.answers.specs.declared.answer.Answer.TheVariants.{Want}
use Rattle.bias_file.specs.Format.{ReadsBias}
use Rattle.bias_file.specs.Limits.{BiasKeeps}
use Rattle.building.specs.Kinds.{def_kind, bias_kind}
use Rattle.building.specs.Reading.{HasLayerNames, AreCellsOf, IsRefused, HasRecord, HasLef, RefusesTech, RefusesOwnCells, RefusesCells}
use Rattle.def_design.specs.Format.{ReadsPlaced}
use Rattle.def_design.specs.Limits.{DesignKeeps}
use Rattle.def_wiring.specs.declared.record.WiredNet.{WiredNet}
use Rattle.def_wiring.specs.declared.record.Wires.{Wires}
use Rattle.def_wiring.specs.Format.{ReadsWires}
use Rattle.def_wiring.specs.Limits.{WiresKeep}
use Rattle.lef_cells.specs.Format.{ReadsCells}
use Rattle.lef_cells.specs.Limits.{CellsKeep}
use Rattle.lef_tech.specs.Format.{ReadsTech}
use Rattle.lef_tech.specs.Limits.{TechKeeps}
use Rattle.text_lex.specs.Name.{IsName}
use Rattle.signing_off.specs.declared.records.WiredRecords.{WiredRecords}
use Rattle.signing_off.specs.Inputs.{WiredTexts}
use Rattle.signing_off.specs.Kinds.{wires_kind}

-- The names of the nets are names of DEF.
abbrev pub HasNetNames : Wires → Type 0
HasNetNames wires = All (λ (net : WiredNet). IsName net.name) wires.nets

-- The records keep the limits of their formats; the routing layers have names of LEF, and the nets of DEF.
pub record WiredRecordsKeep (r : WiredRecords) : Type 0 where
  pub tech : TechKeeps r.tech
  pub layer_names : HasLayerNames r.tech
  pub cells : CellsKeep r.cells
  pub design : DesignKeeps r.design
  pub wires : WiresKeep r.wires
  pub net_names : HasNetNames r.wires
  pub bias : BiasKeeps r.bias

-- Each text has its record: the technology, the cells of both LEF texts, the design, whose nets may have wires, the wiring
-- and the bias file; and these keep the limits of their formats.
pub record AreWiredRecords (t : WiredTexts) (r : WiredRecords) : Type 0 where
  pub tech : ReadsTech t.lef.text (Ok r.tech)
  pub cells : AreCellsOf t.lef.text t.cells.text r.cells
  pub design : ReadsPlaced t.def.text (Ok r.design)
  pub wires : ReadsWires t.wires.text (Ok r.wires)
  pub bias : ReadsBias t.bias.text (Ok r.bias)
  pub kept : WiredRecordsKeep r

-- A text of a design, of wiring or of a bias file that is refused, where none before it is.
abbrev pub RefusesDesign : WiredTexts → Answer → Type 0
RefusesDesign t answer = HasLef t.lef t.cells × IsRefused ReadsPlaced def_kind t.def answer

abbrev pub RefusesWires : WiredTexts → Answer → Type 0
RefusesWires t answer = HasLef t.lef t.cells × HasRecord ReadsPlaced t.def × IsRefused ReadsWires wires_kind t.wires answer

abbrev pub RefusesBias : WiredTexts → Answer → Type 0
RefusesBias t answer =
    HasLef t.lef t.cells × HasRecord ReadsPlaced t.def × HasRecord ReadsWires t.wires × IsRefused ReadsBias bias_kind t.bias answer

-- Why the texts are not read: memory ran out, or one of them is refused and none before it.
abbrev pub IsUnread : WiredTexts → Answer → Type 0
IsUnread t answer =
    (answer ≡ Want)
    ⊎ (RefusesTech t.lef answer
    ⊎ (RefusesOwnCells t.lef answer
    ⊎ (RefusesCells t.lef t.cells answer
    ⊎ (RefusesDesign t answer
    ⊎ (RefusesWires t answer
    ⊎ RefusesBias t answer)))))
