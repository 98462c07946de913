-- The reading of the five texts: what they say together, and which of them is refused first.
use Rattle.std.specs.Prelude.{◌≡◌, ◌⊎◌, ℕ, List, All, Option, Some, None, Result, Ok, Err}
use Rattle.text_lex.specs.Name.{IsName}
use Rattle.outside.specs.declared.place.Place.{Place}
use Rattle.answers.specs.declared.answer.Answer.{Answer}
use Rattle.answers.specs.declared.answer.Answer.TheVariants.{Want, Refused}
use Rattle.answers.specs.declared.kind.TextKind.{TextKind}
use Rattle.reading.specs.declared.error.ReadError.{ReadError}
use Rattle.lef_tech.specs.declared.layer.RoutingLayer.{RoutingLayer}
use Rattle.lef_tech.specs.declared.tech.Tech.{Tech}
use Rattle.lef_tech.specs.Format.{ReadsTech}
use Rattle.lef_tech.specs.Limits.{TechKeeps}
use Rattle.lef_cells.specs.declared.record.Cells.{Cells}
use Rattle.lef_cells.specs.Format.{ReadsCells}
use Rattle.lef_cells.specs.Join.{joined}
use Rattle.lef_cells.specs.Limits.{CellsKeep}
use Rattle.def_design.specs.Format.{ReadsDesign}
use Rattle.def_design.specs.Limits.{DesignKeeps}
use Rattle.pdn_script.specs.Format.{ReadsScript}
use Rattle.pdn_script.specs.Limits.{ScriptKeeps}
use Rattle.bias_file.specs.Format.{ReadsBias}
use Rattle.bias_file.specs.Limits.{BiasKeeps}
use Rattle.building.specs.declared.records.Records.{Records}
use Rattle.building.specs.Inputs.{FileText, FiveTexts}
use Rattle.building.specs.Kinds.{tech_kind, cells_kind, def_kind, script_kind, bias_kind}

-- The sites and macros of two LEF texts: those of the first, and then those of the second whose names the first has not.
pub record AreCellsOf (lef other : List ℕ) (cells : Cells) : Type 0 where
  pub first : Cells
  pub second : Cells
  pub first_reads : ReadsCells lef (Ok first)
  pub second_reads : ReadsCells other (Ok second)
  pub sites : cells.sites ≡ joined (λ site. site.name) first.sites second.sites
  pub macros : cells.macros ≡ joined (λ cell. cell.name) first.macros second.macros

-- The names of the routing layers are names of LEF.
abbrev pub HasLayerNames : Tech → Type 0
HasLayerNames tech = All (λ (layer : RoutingLayer). IsName layer.name) tech.routing

-- The records keep the limits of their formats, and the routing layers have names of LEF.
pub record RecordsKeep (r : Records) : Type 0 where
  pub tech : TechKeeps r.tech
  pub layer_names : HasLayerNames r.tech
  pub cells : CellsKeep r.cells
  pub design : DesignKeeps r.design
  pub script : ScriptKeeps r.script
  pub bias : BiasKeeps r.bias

-- Each text has its record: the technology, the cells of both LEF texts, the design, the script and the bias file; and these
-- keep the limits of their formats.
pub record AreRecords (t : FiveTexts) (r : Records) : Type 0 where
  pub tech : ReadsTech t.lef.text (Ok r.tech)
  pub cells : AreCellsOf t.lef.text t.cells.text r.cells
  pub design : ReadsDesign t.def.text (Ok r.design)
  pub script : ReadsScript t.pdn.text (Ok r.script)
  pub bias : ReadsBias t.bias.text (Ok r.bias)
  pub kept : RecordsKeep r

-- The answer to a text that is refused at a place; none is the kind of want of memory.
abbrev pub text_answer : List ℕ → Place → Option TextKind → Answer
text_answer file place None = Want
text_answer file place (Some kind) = Refused file place kind

-- A text has no record of its format, and the answer tells its file, the word and what is wrong with it.
pub record IsRefused {R K : Type 0} (reads : List ℕ → Result R (ReadError K) → Type 0) (kind_of : K → Option TextKind)
    (t : FileText) (answer : Answer) : Type 0 where
  pub error : ReadError K
  pub refused : reads t.text (Err error)
  pub told : answer ≡ text_answer t.file error.place (kind_of error.kind)

-- A text has a record of its format.
abbrev pub HasRecord : {R K : Type 0} → (List ℕ → Result R (ReadError K) → Type 0) → FileText → Type 0
HasRecord {R} reads t = (r : R) × reads t.text (Ok r)

-- Why two texts give no cells: memory ran out, the first is refused, or the second is and the first is not.
abbrev pub AreCellsRefused : (lef other : FileText) → Answer → Type 0
AreCellsRefused lef other answer =
    (answer ≡ Want)
    ⊎ (IsRefused ReadsCells cells_kind lef answer
    ⊎ (HasRecord ReadsCells lef × IsRefused ReadsCells cells_kind other answer))

-- The text that is refused first. The text of the technology is read as a technology and then for its cells.
abbrev pub RefusesTech : FileText → Answer → Type 0
RefusesTech lef answer = IsRefused ReadsTech tech_kind lef answer

abbrev pub RefusesOwnCells : FileText → Answer → Type 0
RefusesOwnCells lef answer = HasRecord ReadsTech lef × IsRefused ReadsCells cells_kind lef answer

abbrev pub RefusesCells : (lef other : FileText) → Answer → Type 0
RefusesCells lef other answer =
    HasRecord ReadsTech lef × HasRecord ReadsCells lef × IsRefused ReadsCells cells_kind other answer

-- Both LEF texts have their records.
abbrev pub HasLef : (lef other : FileText) → Type 0
HasLef lef other = HasRecord ReadsTech lef × HasRecord ReadsCells lef × HasRecord ReadsCells other

abbrev pub RefusesDesign : FiveTexts → Answer → Type 0
RefusesDesign t answer = HasLef t.lef t.cells × IsRefused ReadsDesign def_kind t.def answer

abbrev pub RefusesScript : FiveTexts → Answer → Type 0
RefusesScript t answer = HasLef t.lef t.cells × HasRecord ReadsDesign t.def × IsRefused ReadsScript script_kind t.pdn answer

abbrev pub RefusesBias : FiveTexts → Answer → Type 0
RefusesBias t answer =
    HasLef t.lef t.cells × HasRecord ReadsDesign t.def × HasRecord ReadsScript t.pdn × IsRefused ReadsBias bias_kind t.bias answer

-- Why the texts are not read: memory ran out, or one of them is refused and none before it.
abbrev pub IsUnread : FiveTexts → Answer → Type 0
IsUnread t answer =
    (answer ≡ Want)
    ⊎ (RefusesTech t.lef answer
    ⊎ (RefusesOwnCells t.lef answer
    ⊎ (RefusesCells t.lef t.cells answer
    ⊎ (RefusesDesign t answer
    ⊎ (RefusesScript t answer
    ⊎ RefusesBias t answer)))))
