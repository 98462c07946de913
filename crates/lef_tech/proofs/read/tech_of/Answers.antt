use Rattle.lef_tech.proofs.Kept.{tech_kept}
use Rattle.lef_tech.proofs.read.tech_of.Goals as goal

pub returns-then-keeps_limits-clause-keeps : goal.returns-then-keeps_limits-clause-keeps
returns-then-keeps_limits-clause-keeps c = λ kept.
    let t = c.if-keeps_limits.true in
    tech_kept c.in_ok-tech.tech c.args.statements.now c.in_ok-tech.ensures kept (c.is_few.ensures c.if-is_few.true)
    (c.keeps_limits.ensures.routing t) (c.keeps_limits.ensures.cuts t) (c.keeps_limits.ensures.rules t)
