-- A grid put together of a plan, its pieces and its stacks.
use Rattle.std.proofs.Common.{ℕ, ◌<◌, ◌≤◌, List, All, length, get_or, sym, ap, ◌∙◌, subst}
use Rattle.lef_tech.specs.declared.tech.Tech.{Tech}
use Rattle.lef_cells.specs.declared.record.Cells.{Cells}
use Rattle.def_design.specs.declared.record.Design.{Design}
use Rattle.macro_blocks.specs.declared.record.Blocks.{Blocks}
use Rattle.pdn_script.specs.declared.record.Script.{Script}
use Rattle.grid_pieces.specs.declared.grid.Grid.{Grid}
use Rattle.grid_pieces.specs.declared.piece.Piece.{Piece}
use Rattle.grid_pieces.specs.declared.piece.StackAt.{StackAt}
use Rattle.grid_pieces.specs.Limits.{PieceKeeps}
use Rattle.grid_plan.specs.declared.record.Plan.{Plan}
use Rattle.grid_shapes.specs.Drawing.{NothingTouches, PieceStands, StackStands}
use Rattle.grid_shapes.specs.inside.Facts.{PieceFacts, StackFacts}
use Rattle.placed_blocks.specs.declared.block.PlacedBlock.{PlacedBlock}
use Rattle.pin_pieces.specs.Pins.{ArePinPieces}
use Rattle.macro_grid.specs.declared.record.MacroGrid.{MacroGrid}
use Rattle.macro_grid.specs.Drawing.{Lays, AreMacroPieces, AreMacroStacks, IsMacroDrawing}
use Rattle.macro_grid.specs.inside.Drawn.{IsGridWith, IsDrawn}

pub is_drawn : (tech : Tech) (plan : Plan) (placed : List PlacedBlock) (straps pieces : List Piece) (stacks : List StackAt) (drawn : MacroGrid)
    → AreMacroPieces tech plan placed straps pieces → AreMacroStacks tech plan placed pieces stacks → NothingTouches pieces stacks
    → IsGridWith plan pieces stacks drawn.grid → IsGridWith plan straps stacks drawn.written
    → ArePinPieces tech plan.domains placed pieces drawn.pins → IsDrawn tech plan placed drawn
is_drawn tech plan placed straps pieces stacks drawn are are_stacks apart grid written pins = record {
  grid_is = grid.of_plan;
  written_is = written.of_plan;
  pieces = subst (λ (ps : List Piece). AreMacroPieces tech plan placed ps drawn.grid.pieces) (sym written.pieces)
      (subst (λ (ps : List Piece). AreMacroPieces tech plan placed straps ps) (sym grid.pieces) are);
  stacks = subst (λ (ps : List Piece). AreMacroStacks tech plan placed ps drawn.grid.stacks) (sym grid.pieces)
      (subst (λ (ss : List StackAt). AreMacroStacks tech plan placed pieces ss) (sym grid.stacks) are_stacks);
  apart = subst (λ (ps : List Piece). NothingTouches ps drawn.grid.stacks) (sym grid.pieces)
      (subst (λ (ss : List StackAt). NothingTouches pieces ss) (sym grid.stacks) apart);
  written_stacks = written.stacks ∙ sym grid.stacks;
  pins = subst (λ (ps : List Piece). ArePinPieces tech plan.domains placed ps drawn.pins) (sym grid.pieces) pins;
}

pub is_drawing : (tech : Tech) (cells : Cells) (blocks : Blocks) (design : Design) (script : Script) (plan : Plan) (placed : List PlacedBlock)
    (drawn : MacroGrid) → Lays tech cells blocks design script plan placed → IsDrawn tech plan placed drawn
    → IsMacroDrawing tech cells blocks design script drawn
is_drawing tech cells blocks design script plan placed drawn lays is = record {
  plan = plan;
  placed = placed;
  lays = lays;
  grid_is = is.grid_is;
  written_is = is.written_is;
  pieces = is.pieces;
  stacks = is.stacks;
  apart = is.apart;
  written_stacks = is.written_stacks;
  pins = is.pins;
}

pub pieces_stand : (tech : Tech) (plan : Plan) (placed : List PlacedBlock) (pieces : List Piece) (stacks : List StackAt) (grid : Grid) → All PieceKeeps pieces
    → All (PieceFacts tech plan) pieces → AreMacroStacks tech plan placed pieces stacks → IsGridWith plan pieces stacks grid
    → All (PieceStands tech grid) grid.pieces
pieces_stand tech plan placed pieces stacks grid keep facts are is =
    subst (λ (ps : List Piece). All (PieceStands tech grid) ps) (sym is.pieces)
    (λ k d within. record {
      keeps = keep k d within;
      even = (facts k d within).even.1;
      net = subst (λ (n : ℕ). (get_or pieces k d).net < n) (sym (ap length is.of_plan.nets)) (facts k d within).net;
      layer = (facts k d within).layer;
      sheet = are.2 k d within;
    })

pub stacks_stand : (tech : Tech) (plan : Plan) (pieces : List Piece) (stacks : List StackAt) (grid : Grid) → All (StackFacts tech plan) stacks
    → IsGridWith plan pieces stacks grid → All (StackStands tech grid) grid.stacks
stacks_stand tech plan pieces stacks grid facts is =
    subst (λ (ss : List StackAt). All (StackStands tech grid) ss) (sym is.stacks)
    (λ k d within. record {
      net = subst (λ (n : ℕ). (get_or stacks k d).net < n) (sym (ap length is.of_plan.nets)) (facts k d within).net;
      rising = (facts k d within).rising;
      layers = (facts k d within).layers;
      arrays = (facts k d within).arrays;
      ohms = (facts k d within).ohms;
    })

pub few_stand : (tech : Tech) (plan : Plan) (placed : List PlacedBlock) (pieces : List Piece) (stacks : List StackAt) (grid : Grid)
    → AreMacroStacks tech plan placed pieces stacks → IsGridWith plan pieces stacks grid
    → (length grid.pieces ≤ 4000000) × (length grid.stacks ≤ 1000000)
few_stand tech plan placed pieces stacks grid are is = (
  subst (λ (ps : List Piece). length ps ≤ 4000000) (sym is.pieces) are.1.few_pieces,
  subst (λ (ss : List StackAt). length ss ≤ 1000000) (sym is.stacks) (subst (λ (n : ℕ). n ≤ 1000000) (sym are.3.as_many) are.1.few),
)
