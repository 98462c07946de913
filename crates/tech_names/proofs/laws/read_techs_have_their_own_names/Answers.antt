use Rattle.tech_names.proofs.Own.{has_own}
use Rattle.tech_names.proofs.laws.read_techs_have_their_own_names.Goals as goal

pub returns : goal.returns
returns c = record {
  routing = λ text tech reads. (has_own text tech reads).routing;
  cuts = λ text tech reads. (has_own text tech reads).cuts;
  rules = λ text tech reads. (has_own text tech reads).rules;
}
