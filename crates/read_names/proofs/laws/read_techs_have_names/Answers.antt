use Rattle.read_names.proofs.Techs.{names_are}
use Rattle.read_names.proofs.laws.read_techs_have_names.Goals as goal

pub returns : goal.returns
returns c = record {
  routing = λ text tech reads. (names_are text tech reads).routing;
  cuts = λ text tech reads. (names_are text tech reads).cuts;
  rules = λ text tech reads. (names_are text tech reads).rules;
}
