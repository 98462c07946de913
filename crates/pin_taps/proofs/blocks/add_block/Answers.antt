use Rattle.std.proofs.Common.{◌∙◌}
use Rattle.pin_taps.proofs.Indexed.{numbers_within}
use Rattle.pin_taps.proofs.blocks.add_block.Goals as goal

pub share-requires-clause-within : goal.share-requires-clause-within
share-requires-clause-within c =
    numbers_within c.args.drawn.now c.requires.drawn c.args.number c.args.domain.power c.as_slice-pieces.result.now c.deref.result.now c.as_slice-pieces.ensures
    (c.deref.ensures.value ∙ c.in_ok-power.ensures)

pub share-requires-2-clause-within : goal.share-requires-2-clause-within
share-requires-2-clause-within c =
    numbers_within c.args.drawn.now c.requires.drawn c.args.number c.args.domain.ground c.as_slice-pieces.result.now c.deref-2.result.now c.as_slice-pieces.ensures
    (c.deref-2.ensures.value ∙ c.in_ok-ground.ensures)
