use Rattle.std.proofs.Common.{pos}
use Rattle.grid_pieces.specs.declared.metal.Metal.{Metal}
use Rattle.grid_pieces.proofs.First.{first_touch}
use Rattle.grid_pieces.proofs.touch.touch_at.Goals as goal

nothing : Metal
nothing = record { layer = 0; rect = record { x1 = pos 0; y1 = pos 0; x2 = pos 0; y2 = pos 0 }; net = 0 }

pub returns : goal.returns
unfolding nothing
returns c = first_touch c.args.metal.now c.args.first c.args.second nothing c.one_net.result c.requires.in_order c.requires.places c.one_net.ensures
