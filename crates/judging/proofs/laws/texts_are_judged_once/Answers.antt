use Rattle.judging.proofs.Judged.{AreLaws, IsPrinciple, one, tested, bounded}
use Rattle.judging.proofs.laws.texts_are_judged_once.Goals as goal

pub returns-clause-one : goal.returns-clause-one
returns-clause-one c =
    let laws : AreLaws = record {
      netlists = record { one_named = c.texts_have_one_netlist.ensures.«record»; one_kind = c.texts_have_one_netlist.ensures.kind; one_place = c.texts_have_one_netlist.ensures.place; not_both = c.texts_have_one_netlist.ensures.not_both };
      no_failing = c.no_failing_test.ensures.none;
    } in
    one laws

pub returns-clause-tested : goal.returns-clause-tested
returns-clause-tested c =
    let laws : AreLaws = record {
      netlists = record { one_named = c.texts_have_one_netlist.ensures.«record»; one_kind = c.texts_have_one_netlist.ensures.kind; one_place = c.texts_have_one_netlist.ensures.place; not_both = c.texts_have_one_netlist.ensures.not_both };
      no_failing = c.no_failing_test.ensures.none;
    } in
    tested laws

pub returns-clause-bounded : goal.returns-clause-bounded
returns-clause-bounded c =
    let laws : AreLaws = record {
      netlists = record { one_named = c.texts_have_one_netlist.ensures.«record»; one_kind = c.texts_have_one_netlist.ensures.kind; one_place = c.texts_have_one_netlist.ensures.place; not_both = c.texts_have_one_netlist.ensures.not_both };
      no_failing = c.no_failing_test.ensures.none;
    } in
    let principle : IsPrinciple = record {
      at_least_low = c.maximum_principle.ensures.at_least_low;
      at_most_high = c.maximum_principle.ensures.at_most_high;
      by_groups = c.bounds_of_groups.ensures;
    } in
    bounded laws principle
