-- Why there is no drawing: what refuses a plan, and what refuses the pieces over it.
use Rattle.std.proofs.Common.{◌≡◌, ◌⊎◌, inl, inr, List, subst, sym}
use Rattle.lef_tech.specs.declared.tech.Tech.{Tech}
use Rattle.lef_cells.specs.declared.record.Cells.{Cells}
use Rattle.def_design.specs.declared.record.Design.{Design}
use Rattle.macro_blocks.specs.declared.record.Blocks.{Blocks}
use Rattle.pdn_script.specs.declared.record.Script.{Script}
use Rattle.grid_pieces.specs.declared.error.Counted.TheVariants.{Lines}
use Rattle.grid_pieces.specs.declared.error.DrawError.{DrawError}
use Rattle.grid_pieces.specs.declared.error.DrawError.TheVariants.{TooMany, Touch, Want}
use Rattle.grid_pieces.specs.declared.piece.Piece.{Piece}
use Rattle.grid_pieces.specs.declared.piece.StackAt.{StackAt}
use Rattle.grid_stacks.specs.Crossing.{Stands}
use Rattle.grid_stacks.specs.Stacking.{AreRefused}
use Rattle.grid_plan.specs.declared.record.Plan.{Plan}
use Rattle.grid_shapes.specs.inside.Facts.{IsTouchRefused}
use Rattle.placed_blocks.specs.declared.block.PlacedBlock.{PlacedBlock}
use Rattle.macro_shapes.specs.Shapes.{MacroLinesAreMany}
use Rattle.macro_grid.specs.declared.error.MacroError.{MacroError}
use Rattle.macro_grid.specs.declared.error.MacroError.TheVariants.{Halo, Draw}
use Rattle.macro_grid.specs.Drawing.{Lays, all_blocks, AreMacroPieces, AreMacroStacks, HasNoPlan, IsDrawRefused, IsMacroRefused, without_places}
use Rattle.macro_grid.specs.inside.Refused.{IsUnlaid, IsUnjoined, IsUndrawn}
use Rattle.grid_shapes.specs.Laws.Plain.{plain_refused}

-- ## what refuses a plan

no_plan : (tech : Tech) (cells : Cells) (blocks : Blocks) (design : Design) (script : Script) (error : DrawError) → HasNoPlan tech cells design script error
    → IsDrawRefused tech cells blocks design script error
no_plan tech cells blocks design script Want has = tt
no_plan tech cells blocks design script (TooMany Lines) has =
    absurd (plain_refused tech cells (without_places design) script (TooMany Lines) (λ same. absurd (cc)) has.1)
no_plan tech cells blocks design script (Touch touching) has =
    absurd (plain_refused tech cells (without_places design) script (Touch touching) (λ same. absurd (cc)) has.1)
no_plan tech cells blocks design script error has = inl has

pub unlaid : (tech : Tech) (cells : Cells) (blocks : Blocks) (design : Design) (script : Script) (error : MacroError) → IsUnlaid tech cells design script error
    → IsMacroRefused tech cells blocks design script error
unlaid tech cells blocks design script (Halo grid) is = is
unlaid tech cells blocks design script (Draw error) (inl want) = subst (IsDrawRefused tech cells blocks design script) (sym want) tt
unlaid tech cells blocks design script (Draw error) (inr has) = no_plan tech cells blocks design script error has

-- ## what refuses the pieces

pub undrawn : (tech : Tech) (cells : Cells) (blocks : Blocks) (design : Design) (script : Script) (plan : Plan) (placed : List PlacedBlock) (error : DrawError)
    → Lays tech cells blocks design script plan placed → IsUndrawn tech plan placed error → IsDrawRefused tech cells blocks design script error
undrawn tech cells blocks design script plan placed Want lays is = tt
undrawn tech cells blocks design script plan placed (TooMany Lines) lays is = record { plan = plan; placed = placed; lays = lays; many = is }
undrawn tech cells blocks design script plan placed (Touch touching) lays is = record {
  plan = plan;
  placed = placed;
  lays = lays;
  straps = is.straps;
  pieces = is.pieces;
  are_pieces = is.are_pieces;
  stacks = is.unjoined.0;
  are_stacks = is.unjoined.1;
  first = is.unjoined.2;
}
undrawn tech cells blocks design script plan placed error lays is = inr (record {
  plan = plan;
  placed = placed;
  lays = lays;
  straps = is.straps;
  pieces = is.pieces;
  are_pieces = is.are_pieces;
  refused = is.unjoined;
})

pub lines_many : (tech : Tech) (plan : Plan) (placed : List PlacedBlock) (error : DrawError)
    → (error ≡ Want) ⊎ ((error ≡ TooMany Lines) × MacroLinesAreMany plan placed) → IsUndrawn tech plan placed error
lines_many tech plan placed error (inl want) = subst (IsUndrawn tech plan placed) (sym want) tt
lines_many tech plan placed error (inr (is, many)) = subst (IsUndrawn tech plan placed) (sym is) many

-- Pieces are not joined.
pub not_joined : (tech : Tech) (plan : Plan) (placed : List PlacedBlock) (straps pieces : List Piece) (error : DrawError)
    → AreMacroPieces tech plan placed straps pieces → IsUnjoined tech plan placed pieces error → IsUndrawn tech plan placed error
not_joined tech plan placed straps pieces Want are is = tt
not_joined tech plan placed straps pieces (TooMany Lines) are is = absurd is
not_joined tech plan placed straps pieces error are is = record { straps = straps; pieces = pieces; are_pieces = are; unjoined = is }

-- They have no stacks.
pub no_stacks : (tech : Tech) (plan : Plan) (placed : List PlacedBlock) (pieces : List Piece) (error : DrawError)
    → AreRefused (Stands tech pieces plan.connects (all_blocks tech plan placed)) tech plan.units pieces error → IsUnjoined tech plan placed pieces error
no_stacks tech plan placed pieces Want is = tt
no_stacks tech plan placed pieces (Touch touching) is = absurd is
no_stacks tech plan placed pieces error is = is

-- Metal touches.
pub touched : (tech : Tech) (plan : Plan) (placed : List PlacedBlock) (pieces : List Piece) (stacks : List StackAt) (error : DrawError)
    → AreMacroStacks tech plan placed pieces stacks → IsTouchRefused pieces stacks error → IsUnjoined tech plan placed pieces error
touched tech plan placed pieces stacks error are (inl want) = subst (IsUnjoined tech plan placed pieces) (sym want) tt
touched tech plan placed pieces stacks error are (inr (touching, is, first)) = subst (IsUnjoined tech plan placed pieces) (sym is) (stacks, are, first)
