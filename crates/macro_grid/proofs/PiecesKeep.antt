-- What stacks keep.
use Rattle.std.proofs.Common.{List, All}
use Rattle.lef_tech.specs.declared.tech.Tech.{Tech}
use Rattle.grid_pieces.specs.declared.piece.StackAt.{StackAt}
use Rattle.grid_pieces.specs.Limits.{StackKeeps}
use Rattle.grid_plan.specs.declared.record.Plan.{Plan}
use Rattle.grid_shapes.specs.inside.Facts.{StackFacts}

pub stacks_keep : (tech : Tech) (plan : Plan) (stacks : List StackAt) → All (StackFacts tech plan) stacks → All StackKeeps stacks
stacks_keep tech plan stacks facts k d within = (facts k d within).in_order
