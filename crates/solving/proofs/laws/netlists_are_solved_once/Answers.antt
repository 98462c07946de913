use Rattle.solving.proofs.Refused.{AreNetlistLaws, one_refusal, supply_alone, sort}
use Rattle.solving.proofs.laws.netlists_are_solved_once.Goals as goal

pub returns : goal.returns
returns c =
    let netlists = c.netlists_are_merged_once.ensures in
    let laws : AreNetlistLaws = record { network = netlists.network; refusal = netlists.refusal; not_both = netlists.not_both; sort = netlists.sort } in
    record { refusal = one_refusal laws; supply = supply_alone laws; network = netlists.network; sort = sort laws }
