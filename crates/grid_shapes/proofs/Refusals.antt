-- Why there is no drawing: what refuses a plan and its stacks.
use Rattle.std.proofs.Common.{inl, inr, List}
use Rattle.lef_tech.specs.declared.tech.Tech.{Tech}
use Rattle.lef_cells.specs.declared.record.Cells.{Cells}
use Rattle.def_design.specs.declared.record.Design.{Design}
use Rattle.pdn_script.specs.declared.record.Script.{Script}
use Rattle.grid_pieces.specs.declared.error.Counted.TheVariants.{Lines}
use Rattle.grid_pieces.specs.declared.error.DrawError.{DrawError}
use Rattle.grid_pieces.specs.declared.error.DrawError.TheVariants.{TooMany, Touch, Want}
use Rattle.grid_pieces.specs.declared.piece.Piece.{Piece}
use Rattle.grid_stacks.specs.Crossing.{Stands}
use Rattle.grid_stacks.specs.Stacking.{AreRefused}
use Rattle.grid_plan.specs.declared.record.Plan.{Plan}
use Rattle.grid_plan.specs.Planning.{IsPlanRefused}
use Rattle.grid_shapes.specs.Drawing.{IsDrawRefused, HasPieces}
use Rattle.grid_shapes.specs.Laws.Plain.{plain_refused}

pub from_plan : (tech : Tech) (cells : Cells) (design : Design) (script : Script) (error : DrawError) → IsPlanRefused tech cells design script error
    → IsDrawRefused tech cells design script error
from_plan tech cells design script Want refused = tt
from_plan tech cells design script (TooMany Lines) refused = absurd (plain_refused tech cells design script (TooMany Lines) (λ same. absurd (cc)) refused)
from_plan tech cells design script (Touch touching) refused = absurd (plain_refused tech cells design script (Touch touching) (λ same. absurd (cc)) refused)
from_plan tech cells design script error refused = inl refused

pub from_stacks : (tech : Tech) (cells : Cells) (design : Design) (script : Script) (plan : Plan) (pieces : List Piece) (error : DrawError)
    → HasPieces tech cells design script plan pieces → AreRefused (Stands tech pieces plan.connects plan.blocks) tech plan.units pieces error
    → IsDrawRefused tech cells design script error
from_stacks tech cells design script plan pieces Want has refused = tt
from_stacks tech cells design script plan pieces (TooMany Lines) has refused = absurd refused
from_stacks tech cells design script plan pieces (Touch touching) has refused = absurd refused
from_stacks tech cells design script plan pieces error has refused = inr (record { plan = plan; pieces = pieces; has = has; refused = refused })
