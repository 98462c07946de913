use Rattle.pdn_signoff.proofs.Alike.{alike}
use Rattle.pdn_signoff.proofs.Causes.{AreLaws}
use Rattle.pdn_signoff.proofs.Exclude.{one_answer}
use Rattle.pdn_signoff.proofs.Once.{AreBuildLaws, built_once}
use Rattle.pdn_signoff.proofs.Signing.{AreSolvingLaws}
use Rattle.pdn_signoff.proofs.SignoffRuns.{AreWiredLaws, signed_alike}
use Rattle.pdn_signoff.proofs.Stepping.{AreSteppingLaws, stepped_alike}
use Rattle.pdn_signoff.proofs.command.one_answer_has_its_cause.Goals as goal

pub returns-clause-one : goal.returns-clause-one
returns-clause-one c words solver solver' before after held a b known can other not_build not_step not_signoff x y =
    let laws : AreLaws = record {
      one = c.texts_are_judged_once.ensures.one;
      tested = c.texts_are_judged_once.ensures.tested;
      bounded = c.texts_are_judged_once.ensures.bounded;
      one_command = c.words_have_one_command.ensures;
    } in
    one_answer laws words solver solver' before after held a b known can other not_build not_step not_signoff x y

pub returns-clause-solved : goal.returns-clause-solved
returns-clause-solved c =
    let laws : AreLaws = record {
      one = c.texts_are_judged_once.ensures.one;
      tested = c.texts_are_judged_once.ensures.tested;
      bounded = c.texts_are_judged_once.ensures.bounded;
      one_command = c.words_have_one_command.ensures;
    } in
    let solving : AreSolvingLaws = record { refusal = c.netlists_are_solved_once.ensures.refusal; supply = c.netlists_are_solved_once.ensures.supply; network = c.netlists_are_solved_once.ensures.network } in
    alike laws solving

pub returns-clause-built : goal.returns-clause-built
returns-clause-built c =
    let laws : AreLaws = record {
      one = c.texts_are_judged_once.ensures.one;
      tested = c.texts_are_judged_once.ensures.tested;
      bounded = c.texts_are_judged_once.ensures.bounded;
      one_command = c.words_have_one_command.ensures;
    } in
    let build : AreBuildLaws = record { refusal = c.texts_have_one_build.ensures.refusal; apart = c.texts_have_one_build.ensures.apart; design = c.texts_have_one_build.ensures.design } in
    built_once laws build

pub returns-clause-stepped : goal.returns-clause-stepped
returns-clause-stepped c =
    let laws : AreLaws = record {
      one = c.texts_are_judged_once.ensures.one;
      tested = c.texts_are_judged_once.ensures.tested;
      bounded = c.texts_are_judged_once.ensures.bounded;
      one_command = c.words_have_one_command.ensures;
    } in
    let steps : AreSteppingLaws = record { refusal = c.netlists_are_stepped_alike.ensures.refusal; limit = c.netlists_are_stepped_alike.ensures.limit } in
    stepped_alike laws steps

pub returns-clause-signed_off : goal.returns-clause-signed_off
returns-clause-signed_off c =
    let laws : AreLaws = record {
      one = c.texts_are_judged_once.ensures.one;
      tested = c.texts_are_judged_once.ensures.tested;
      bounded = c.texts_are_judged_once.ensures.bounded;
      one_command = c.words_have_one_command.ensures;
    } in
    let wired : AreWiredLaws = record { refusal = c.texts_have_one_wired_design.ensures.refusal; apart = c.texts_have_one_wired_design.ensures.apart; design = c.texts_have_one_wired_design.ensures.design } in
    signed_alike laws wired
