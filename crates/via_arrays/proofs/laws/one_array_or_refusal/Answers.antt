use Rattle.via_arrays.proofs.Single.{array_unique, array_or_refused, refusal_unique}
use Rattle.via_arrays.proofs.laws.one_array_or_refusal.Goals as goal

pub returns-clause-one : goal.returns-clause-one
returns-clause-one c = array_unique

pub returns-clause-or_refused : goal.returns-clause-or_refused
returns-clause-or_refused c = array_or_refused

pub returns-clause-one_refusal : goal.returns-clause-one_refusal
returns-clause-one_refusal c = refusal_unique
