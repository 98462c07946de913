use Rattle.grid_net.specs.Laws.Search.{found_below, found_of, none_next}
use Rattle.bound_check.proofs.laws.a_search_goes_up.Goals as goal

pub returns-clause-over_numbers : goal.returns-clause-over_numbers
returns-clause-over_numbers s n i test f l none e = found_below n i test f l none e

pub returns-clause-over_entries : goal.returns-clause-over_entries
returns-clause-over_entries s test rs k d f l none e = found_of test rs k d f l none e

pub returns-clause-one_more_entry : goal.returns-clause-one_more_entry
returns-clause-one_more_entry s test rs k d l none e = none_next test rs k d l none e
