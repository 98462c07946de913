use Rattle.std.proofs.Common.{inr, refl, sym, ◌∙◌}
use Rattle.std.proofs.lemmas.Bool.{false≢true}
use Rattle.grid_stacks.proofs.crossed.meet.Goals as goal

pub returns-else-fits-clause-met : goal.returns-else-fits-clause-met
returns-else-fits-clause-met c = inr (λ fits. false≢true (sym c.if-fits.false ∙ c.fits.ensures.1 fits), refl)
