-- What is asked of a network that is signed off, the network of a grid over blocks has.
use Rattle.std.proofs.Common.{◌≡◌, ◌≤◌, ℤ, All, List, Option, length, sym, subst}
use Rattle.def_design.specs.declared.record.Design.{Design}
use Rattle.def_design.specs.Limits.{DesignKeeps}
use Rattle.lef_cells.specs.declared.record.Cells.{Cells}
use Rattle.lef_cells.specs.Limits.{CellsKeep}
use Rattle.lef_tech.specs.declared.tech.Tech.{Tech}
use Rattle.lef_tech.specs.Limits.{TechKeeps}
use Rattle.pdn_script.specs.declared.record.Script.{Script}
use Rattle.pdn_script.specs.Limits.{ScriptKeeps}
use Rattle.building.specs.declared.records.Records.{Records}
use Rattle.building.specs.Building.{base_of}
use Rattle.building.specs.Laws.Naming.{nets_are_names}
use Rattle.building.specs.Reading.{RecordsKeep}
use Rattle.grid_network.specs.declared.extracted.Extracted.{Extracted}
use Rattle.grid_network.specs.Network.{IsNetworkOn}
use Rattle.grid_pieces.specs.declared.grid.Grid.{Grid}
use Rattle.grid_plan.specs.Names.{AreNets}
use Rattle.grid_shapes.specs.Drawing.{PieceStands, StackStands}
use Rattle.grid_signing.specs.declared.signed.SignedGrid.{SignedGrid}
use Rattle.grid_signing.specs.Basis.{BaseKeeps}
use Rattle.grid_signing.specs.Checked.{SignsWith}
use Rattle.macro_blocks.specs.declared.record.Blocks.{Blocks}
use Rattle.macro_grid.specs.declared.record.MacroGrid.{MacroGrid}
use Rattle.macro_grid.specs.Drawing.{IsMacroDrawing}
use Rattle.macro_building.specs.inside.Stages.{IsDrawn, DrawnStands, IsNetworkOver}
use Rattle.network_texts.specs.Texts.{AreNames}

-- A law of drawings over blocks, as it is handed in, and what it says of a grid that is drawn of what was read.
abbrev pub SaidOfDrawings : (MacroGrid → Tech → Type 0) → Type 0
SaidOfDrawings Keeps = (tech : Tech) (cells : Cells) (blocks : Blocks) (design : Design) (script : Script) (drawn : MacroGrid) → TechKeeps tech → CellsKeep cells → DesignKeeps design → ScriptKeeps script
    → IsMacroDrawing tech cells blocks design script drawn → All (PieceStands tech drawn.grid) drawn.grid.pieces → All (StackStands tech drawn.grid) drawn.grid.stacks
    → length drawn.grid.pieces ≤ 4000000 → length drawn.grid.stacks ≤ 1000000 → Keeps drawn tech

pub said_of_drawn : (Keeps : MacroGrid → Tech → Type 0) (r : Records) (blocks : Blocks) (drawn : MacroGrid) → SaidOfDrawings Keeps → RecordsKeep r → IsDrawn r blocks drawn → DrawnStands r drawn → Keeps drawn r.tech
said_of_drawn Keeps r blocks drawn law keep is stands =
    law r.tech r.cells blocks r.design r.script drawn keep.tech keep.cells keep.design keep.script is stands.pieces stands.stacks stands.few_pieces stands.few_stacks

pub base_keeps : (r : Records) → RecordsKeep r → BaseKeeps (base_of r)
base_keeps r keep = record { tech = keep.tech; cells = keep.cells; design = keep.design; bias = keep.bias }

pub are_names : (r : Records) (grid : Grid) → RecordsKeep r → AreNets r.script grid.nets → AreNames r.tech grid
are_names r grid keep nets = record { layers = keep.layer_names; nets = nets_are_names r.script keep.script grid.nets nets }

pub network_on : (r : Records) (drawn : MacroGrid) (e : Extracted) → IsNetworkOver r drawn e → IsNetworkOn drawn.grid r.tech e
network_on r drawn e is = record { pads = is.pads; taps = is.taps; network = is.network }

-- What is signed off with one network is signed off with the network over the grid that it is.
pub signs_over : (told : Option (List ℤ × List ℤ)) (r : Records) (drawn : MacroGrid) (e : Extracted) (signed : SignedGrid) → IsNetworkOver r drawn e → SignsWith (λ d. d ≡ e) told (base_of r) drawn.grid signed
    → SignsWith (IsNetworkOver r drawn) told (base_of r) drawn.grid signed
signs_over told r drawn e signed of is = record {
  signing = is.signing;
  is_signing = record {
    network = subst (IsNetworkOver r drawn) (sym is.is_signing.network) of;
    limits = is.is_signing.limits;
    supplied = is.is_signing.supplied;
    certified = is.is_signing.certified;
  };
  are_texts = is.are_texts;
  keep = is.keep;
  checked = is.checked;
}
