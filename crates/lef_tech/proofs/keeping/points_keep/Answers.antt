use Rattle.std.proofs.Common.{ℕ, ◌≤◌, All, subst, arith}
use Rattle.std.proofs.lemmas.List.{take_all}
use Rattle.std.proofs.lemmas.List.Elements.{All-more}
use Rattle.lef_tech.proofs.keeping.points_keep.Goals as goal

pub loop-point-preserved : goal.loop-point-preserved
loop-point-preserved c =
    All-more (λ (p : ℕ × ℕ). (p.0 ≤ c.args.point_limit) × (p.1 ≤ c.args.value_limit)) c.args.points.now c.loop-point.point-index (0, 0)
    (omega (arith, c.loop-point-test.true)) c.loop-point.invariant (c.if-point_limit-point.false, c.if-value_limit-point.false)

pub returns : goal.returns
returns c = λ t.
    subst (λ z. All (λ (p : ℕ × ℕ). (p.0 ≤ c.args.point_limit) × (p.1 ≤ c.args.value_limit)) z)
    (take_all c.loop-point.point-index c.args.points.now (omega (arith, c.loop-point-test.false))) c.loop-point.invariant
