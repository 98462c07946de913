use Rattle.stepping.proofs.Alike.{AreNetlistLaws, one_refusal, limit_of, sort}
use Rattle.stepping.proofs.laws.netlists_are_stepped_alike.Goals as goal

pub returns : goal.returns
returns c =
    let netlists = c.netlists_are_merged_once.ensures in
    let laws : AreNetlistLaws = record { network = netlists.network; refusal = netlists.refusal; not_both = netlists.not_both; sort = netlists.sort } in
    record { refusal = one_refusal laws; limit = limit_of laws; sort = sort laws }
