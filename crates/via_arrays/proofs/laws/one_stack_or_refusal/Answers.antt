use Rattle.via_arrays.proofs.Whole.{stack_unique, stack_or_refused, lowest_unique}
use Rattle.via_arrays.proofs.laws.one_stack_or_refusal.Goals as goal

pub returns-clause-one : goal.returns-clause-one
returns-clause-one c = stack_unique

pub returns-clause-or_refused : goal.returns-clause-or_refused
returns-clause-or_refused c = stack_or_refused

pub returns-clause-one_refusal : goal.returns-clause-one_refusal
returns-clause-one_refusal c = lowest_unique
