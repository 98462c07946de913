use Rattle.std.proofs.Common.{◌≡◌, ℤ, pos, ◌-ℤ◌, ◌*ℤ◌, SFits, to_z-of_z, Some, rules, ap, ◌∙◌, arith}
use mir.Syntax.{w128}
use Rattle.std.proofs.lemmas.Int.{ints}
use Rattle.bound_check.specs.Certified.{nanovolt}
use Rattle.em_rules.specs.Verdict.{verdict_by_ends}
use Rattle.signoff_report.proofs.judging.voltage_verdict.Goals as goal

pub returns : goal.returns
returns c =
    let low = c.args.shown.0 in
    let high = c.args.shown.1 in
    let supply = c.args.supply in
    let a : SFits w128 low = search rules in
    let b : SFits w128 high = search rules in
    let s : SFits w128 supply = search rules in
    let d : SFits w128 c.args.drop = search rules in
    let am : SFits w128 (low *ℤ pos nanovolt) = omega (arith, ints, c.requires.shown.low) in
    let bm : SFits w128 (high *ℤ pos nanovolt) = omega (arith, ints, c.requires.shown.high) in
    let as_ : SFits w128 ((low *ℤ pos nanovolt) -ℤ supply) = omega (arith, ints, c.requires.shown.low, c.requires.supply) in
    let bs : SFits w128 ((high *ℤ pos nanovolt) -ℤ supply) = omega (arith, ints, c.requires.shown.high, c.requires.supply) in
    let size = simp to_z-of_z at c.unsigned_abs.ensures.value in
    let told = simp to_z-of_z at c.verdict.ensures.by_ends in
    told ∙ ap (λ n. verdict_by_ends ((low *ℤ pos nanovolt) -ℤ supply) ((high *ℤ pos nanovolt) -ℤ supply) (Some n)) size
