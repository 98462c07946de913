use Rattle.std.proofs.Common.{rules}
use Rattle.via_arrays.proofs.Rules.{none_more, rule_read}
use Rattle.via_arrays.proofs.choice.choose_rule.Goals as goal

pub loop-place-preserved : goal.loop-place-preserved
loop-place-preserved c =
    let items = c.as_slice-rule-items.ensures in
    none_more c.args.tech.now c.args.lower c.args.upper c.args.crossing c.args.units c.loop-place.place c.rule-item.result c.loop-place.invariant
    (rule_read c.args.tech.now c.loop-place.place c.rule-item.result (search rules) (search rules)) (search rules)

pub returns-then-suits : goal.returns-then-suits
returns-then-suits c =
    let items = c.as_slice-rule-items.ensures in
    record {
      rule = c.rule-item.result;
      is = rule_read c.args.tech.now c.loop-place.place c.rule-item.result (search rules) (search rules);
      suits = search rules;
      none = c.loop-place.invariant;
    }
