use Rattle.std.proofs.Common.{◌≡◌, ℕ, pos, List, get_or}
use Rattle.grid_pieces.specs.declared.piece.Piece.{Piece}
use Rattle.grid_network.specs.declared.junction.Junction.{Junction}
use Rattle.grid_network.specs.declared.key.Key.{Key}
use Rattle.grid_network.specs.Drawing.{key_at}
use Rattle.grid_network.proofs.Growing.{adds_pushed, over_none, over_more, over_all}
use Rattle.grid_network.proofs.place.add_junctions.Goals as goal

abbrev Lies : List Piece → Junction → Key → Type 0
Lies pieces j key = key ≡ key_at pieces j.piece j.along

pub loop-junction-init : goal.loop-junction-init
loop-junction-init c = over_none (Lies c.args.pieces.now) c.args.junctions.now c.args.keys.now.items

pub loop-junction-preserved : goal.loop-junction-preserved
loop-junction-preserved c =
    let i : ℕ = c.loop-junction.junction-index in
    let j : Junction = get_or c.args.junctions.now i (record { piece = 0; along = pos 0 }) in
    over_more (Lies c.args.pieces.now) c.args.junctions.now i (record { piece = 0; along = pos 0 }) c.args.keys.now.items c.loop-junction.keys.items c.push.new.self.items c.loop-junction-test.true c.loop-junction.invariant
    (adds_pushed (key_at c.args.pieces.now j.piece j.along) c.loop-junction.keys.items c.push.new.self.items c.key_at.result c.in_ok-push.ensures.items c.key_at.ensures)

pub returns : goal.returns
returns c = over_all (Lies c.args.pieces.now) c.args.junctions.now c.loop-junction.junction-index c.args.keys.now.items c.loop-junction.keys.items c.loop-junction-test.false c.loop-junction.invariant
