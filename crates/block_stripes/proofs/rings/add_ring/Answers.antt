use Rattle.std.proofs.Common.{List, All, subst, sym, ◌∙◌}
use Rattle.geom_rect.specs.declared.rect.Rect.{Rect}
use Rattle.ring_layout.specs.Rings.{FitDrawing}
use Rattle.block_stripes.proofs.rings.add_ring.Goals as goal

pub add_around-requires-clause-fits : goal.add_around-requires-clause-fits
add_around-requires-clause-fits c =
    subst (λ (cores : List Rect). All (FitDrawing c.args.ring.now.rule) cores) (sym (c.deref.ensures.value ∙ c.in_ok-own.ensures)) (c.requires.fits c.if-ring-grid.true)
