use Rattle.std.proofs.Common.{rules, ◌≡◌, inl, inr, subst, sym, ap, arith}
use Rattle.geom_rect.specs.declared.direction.Axis.TheVariants.{X, Y}
use Rattle.via_arrays.specs.declared.parts.CutArray.{CutArray}
use Rattle.via_arrays.specs.Arrays.{IsCount, array_of}
use Rattle.via_arrays.proofs.Rules.{rule_read}
use Rattle.via_arrays.proofs.Counted.{count_is, array_is}
use Rattle.via_arrays.proofs.arrays.array.Goals as goal
use Rattle.via_arrays.proofs.arrays.array.Goals.{then-columns-eq0-via-then-columns-eq0, then-columns-eq0-via-else-columns-eq0+then-rows-eq0}

pub returns-then-columns-eq0 : goal.returns-then-columns-eq0
returns-then-columns-eq0 c =
    let tech = c.args.tech.now in
    let rule = c.index-as_slice-rule.result in
    let items = c.as_slice.ensures in
    let in_x : IsCount tech rule c.args.units X c.args.crossing c.args.max_columns c.most-columns.result =
    count_is tech rule c.args.units X c.args.crossing c.args.max_columns c.most-columns.result c.extent.result c.lengths_along-in_x.result
    c.extent.ensures c.lengths_along-in_x.ensures.lengths c.most-columns.ensures in
    let in_y : IsCount tech rule c.args.units Y c.args.crossing c.args.max_rows c.most-rows.result =
    count_is tech rule c.args.units Y c.args.crossing c.args.max_rows c.most-rows.result c.extent-2.result c.lengths_along-in_y.result
    c.extent-2.ensures c.lengths_along-in_y.ensures.lengths c.most-rows.ensures in (
      rule,
      rule_read tech c.args.rule rule (search rules) (search rules),
      (
        search rules,
        elim c.then-columns-eq0.either [
          | inl none ↦ inl (subst (IsCount tech rule c.args.units X c.args.crossing c.args.max_columns) none in_x)
          | inr none ↦ inr (subst (IsCount tech rule c.args.units Y c.args.crossing c.args.max_rows) none.1 in_y)
        ],
      ),
    )

pub returns : goal.returns
returns c =
    let tech = c.args.tech.now in
    let rule = c.index-as_slice-rule.result in
    let items = c.as_slice.ensures in
    let columns_are : c.array_along.result.columns ≡ c.most-columns.result = ap (λ (a : CutArray). a.columns) c.array_along.ensures in
    let rows_are : c.array_along.result.rows ≡ c.most-rows.result = ap (λ (a : CutArray). a.rows) c.array_along.ensures in
    record {
      rule = rule;
      is_rule = rule_read tech c.args.rule rule (search rules) (search rules);
      on_grid = search rules;
      columns = subst (IsCount tech rule c.args.units X c.args.crossing c.args.max_columns) (sym columns_are)
          (count_is tech rule c.args.units X c.args.crossing c.args.max_columns c.most-columns.result c.extent.result c.lengths_along-in_x.result
          c.extent.ensures c.lengths_along-in_x.ensures.lengths c.most-columns.ensures);
      rows = subst (IsCount tech rule c.args.units Y c.args.crossing c.args.max_rows) (sym rows_are)
          (count_is tech rule c.args.units Y c.args.crossing c.args.max_rows c.most-rows.result c.extent-2.result c.lengths_along-in_y.result
          c.extent-2.ensures c.lengths_along-in_y.ensures.lengths c.most-rows.ensures);
      some_columns = omega (arith, columns_are);
      some_rows = omega (arith, rows_are);
      is = subst (λ n. c.array_along.result ≡ array_of tech rule c.args.units c.args.rule n c.array_along.result.rows) (sym columns_are)
          (subst (λ n. c.array_along.result ≡ array_of tech rule c.args.units c.args.rule c.most-columns.result n) (sym rows_are)
          (array_is tech rule c.args.units c.args.rule c.most-columns.result c.most-rows.result c.lengths_along-in_x.result c.lengths_along-in_y.result c.array_along.result
          c.lengths_along-in_x.ensures.lengths c.lengths_along-in_y.ensures.lengths c.array_along.ensures));
    }
