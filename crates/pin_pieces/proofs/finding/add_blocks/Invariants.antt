use Rattle.std.proofs.Common.{take}
use Rattle.pin_pieces.specs.inside.Steps.{Adds, OfAny}
use Rattle.pin_pieces.proofs.Answered.{OfBlock}
use Rattle.pin_pieces.proofs.finding.add_blocks.Given as goal

abbrev pub invariant-loop-block : goal.invariant-loop-block
invariant-loop-block l = Adds (OfAny (OfBlock l.tech l.domains l.pieces) (take l.block-index l.blocks)) l.fn.pins.items l.pins.items
