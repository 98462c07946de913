use Rattle.grid_stacks.specs.inside.Standing.{IsStandingTo}
use Rattle.grid_stacks.proofs.places.standing.Given as goal

abbrev pub invariant-loop-connect : goal.invariant-loop-connect
invariant-loop-connect l = IsStandingTo l.tech l.pieces l.blocks l.connect-items l.connect-index l.sites.items
