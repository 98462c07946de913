use Rattle.std.proofs.Common.{ℤ, ◌≡◌, rules, subst, sym}
use Rattle.em_rules.specs.declared.words.Verdict.{Verdict}
use Rattle.em_rules.specs.Verdict.{verdict_by_ends, IsVerdict}
use Rattle.em_rules.proofs.Ends.{ends_tell}
use Rattle.em_rules.proofs.judging.verdict.Goals as goal

pub returns-in-Some-clause-meaning : goal.returns-in-Some-clause-meaning
returns-in-Some-clause-meaning c = λ order.
    let low : ℤ = c.args.low in
    let high : ℤ = c.args.high in
    let is : c.judged.result ≡ verdict_by_ends low high c.args.limit = search rules in
    subst (λ (v : Verdict). IsVerdict low high c.args.limit v) (sym is) (ends_tell low high c.args.limit order)
