use Rattle.list_laws.specs.Laws.Among.{among, member}
use Rattle.list_laws.proofs.laws.among_is_membership.Goals as goal

pub returns : goal.returns
returns c = λ names name. (λ h. member names name h, λ there. among names name there)
