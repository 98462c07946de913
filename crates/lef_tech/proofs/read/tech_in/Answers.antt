use Rattle.std.proofs.Common.{sym, ◌∙◌, subst}
use Rattle.lef_tech.specs.State.{first_state}
use Rattle.lef_tech.specs.inside.Looks.{StatementsKeep}
use Rattle.lef_tech.proofs.HasRead.{tech_is}
use Rattle.lef_tech.proofs.Within.{told_kept}
use Rattle.lef_tech.proofs.read.tech_in.Goals as goal

pub returns-clause-is : goal.returns-clause-is
returns-clause-is c = tech_is c.tech_of.result c.args.held c.deref.result.now c.deref.ensures.value c.tech_of.ensures.is

pub returns-clause-keeps : goal.returns-clause-keeps
returns-clause-keeps c = λ units h.
    c.tech_of.ensures.keeps (subst StatementsKeep (sym (c.deref.ensures.value ∙ h.statements)) (told_kept c.values_fit_their_places.ensures.limit first_state units h.told h.tells))
