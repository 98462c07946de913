use Rattle.grid_network.proofs.Ends.{ends_by_x, ends_by_y}
use Rattle.grid_network.proofs.junction.add_ends_of.Goals as goal

pub returns-in_ok-add_ends_on-in-X : goal.returns-in_ok-add_ends_on-in-X
returns-in_ok-add_ends_on-in-X c stacks all_x all_y = ends_by_x stacks c.args.along_x.now c.args.piece.now c.args.number c.args.places.now.items c.add_ends_on.new.places.items c.in-X.is all_x c.in_ok-add_ends_on-in-X.ensures

pub returns-in_ok-add_ends_on-in-Y : goal.returns-in_ok-add_ends_on-in-Y
returns-in_ok-add_ends_on-in-Y c stacks all_x all_y = ends_by_y stacks c.args.along_y.now c.args.piece.now c.args.number c.args.places.now.items c.add_ends_on-in-Y.new.places.items c.in-Y.is all_y c.in_ok-add_ends_on-in-Y.ensures
