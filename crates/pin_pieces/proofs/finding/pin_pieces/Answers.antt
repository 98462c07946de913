use Rattle.pin_pieces.specs.Pins.{IsPinPiece}
use Rattle.pin_pieces.proofs.Growing.{all_from_none}
use Rattle.pin_pieces.proofs.Answered.{answered}
use Rattle.pin_pieces.proofs.finding.pin_pieces.Goals as goal

pub returns : goal.returns
returns c =
    let tech = c.args.tech.now in
    let domains = c.args.domains.now in
    let blocks = c.args.blocks.now in
    let pieces = c.args.pieces.now in
    let all = c.add_blocks.new.pins.items in
    answered tech domains blocks pieces all c.put_in_order.new.items.items
    (all_from_none (IsPinPiece tech domains blocks pieces) c.new-pins.result.items all c.new-pins.ensures.items c.in_ok-add_blocks.ensures)
    c.put_in_order.ensures.same c.put_in_order.ensures.sorted
