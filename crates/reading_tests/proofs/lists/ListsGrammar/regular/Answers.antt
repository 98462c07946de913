use Rattle.reading_tests.specs.Trial.{trial-regular}
use Rattle.reading_tests.proofs.lists.ListsGrammar.regular.Goals as goal

pub returns : goal.returns
returns c = trial-regular
