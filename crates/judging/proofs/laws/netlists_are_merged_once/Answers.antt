use Rattle.judging.proofs.Judged.{AreNetlistLaws, one_network, one_refusal, want_alone, netlist_sort}
use Rattle.judging.proofs.laws.netlists_are_merged_once.Goals as goal

pub returns-clause-network : goal.returns-clause-network
returns-clause-network c text named other merged fellow =
    let laws : AreNetlistLaws = record {
      one_named = c.texts_have_one_netlist.ensures.«record»;
      one_kind = c.texts_have_one_netlist.ensures.kind;
      one_place = c.texts_have_one_netlist.ensures.place;
      not_both = c.texts_have_one_netlist.ensures.not_both;
    } in
    one_network laws text text named other merged fellow

pub returns-clause-refusal : goal.returns-clause-refusal
returns-clause-refusal c =
    let laws : AreNetlistLaws = record {
      one_named = c.texts_have_one_netlist.ensures.«record»;
      one_kind = c.texts_have_one_netlist.ensures.kind;
      one_place = c.texts_have_one_netlist.ensures.place;
      not_both = c.texts_have_one_netlist.ensures.not_both;
    } in
    one_refusal laws

pub returns-clause-not_both : goal.returns-clause-not_both
returns-clause-not_both c =
    let laws : AreNetlistLaws = record {
      one_named = c.texts_have_one_netlist.ensures.«record»;
      one_kind = c.texts_have_one_netlist.ensures.kind;
      one_place = c.texts_have_one_netlist.ensures.place;
      not_both = c.texts_have_one_netlist.ensures.not_both;
    } in
    want_alone laws

pub returns-clause-sort : goal.returns-clause-sort
returns-clause-sort c = netlist_sort
