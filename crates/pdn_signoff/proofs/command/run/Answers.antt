use Rattle.pdn_signoff.specs.Solve.{SolverThen}
use Rattle.pdn_signoff.proofs.Causes.{AreLaws, check_writes_nothing, ran_other, kept, calm, usage, refused, certified, judged, bounded}
use Rattle.pdn_signoff.proofs.Completing.{among_built, built, accepted_built, asked_built, completed}
use Rattle.pdn_signoff.proofs.Making.{among, generated, made}
use Rattle.pdn_signoff.proofs.Signing.{AreSolvingLaws, others, signed, accepted, asked, solved}
use Rattle.pdn_signoff.proofs.SignoffOfBuild.{netlist_of_build}
use Rattle.pdn_signoff.proofs.SignoffRuns.{among_signed, signed_off, accepted_signed, asked_signed, completed_signed}
use Rattle.pdn_signoff.proofs.Stepping.{among_stepped, stepped, asked_stepped, completed_steps}
use Rattle.pdn_signoff.proofs.command.run.Goals as goal

pub returns-clause-kept : goal.returns-clause-kept
returns-clause-kept g c =
    let s : SolverThen = record { told = g.V.Solver.told c.args.solver.now; proposals = g.V.Solver.proposals c.args.solver.now } in let s' : SolverThen = record { told = g.V.Solver.told c.run_command.new.solver; proposals = g.V.Solver.proposals c.run_command.new.solver } in
    kept _ s s' _ _ _ _ _ c.run_command.ensures.answer

pub returns-clause-others : goal.returns-clause-others
returns-clause-others g c =
    let s : SolverThen = record { told = g.V.Solver.told c.args.solver.now; proposals = g.V.Solver.proposals c.args.solver.now } in let s' : SolverThen = record { told = g.V.Solver.told c.run_command.new.solver; proposals = g.V.Solver.proposals c.run_command.new.solver } in let laws : AreLaws = record { one = c.texts_are_judged_once.ensures.one; tested = c.texts_are_judged_once.ensures.tested; bounded = c.texts_are_judged_once.ensures.bounded; one_command = c.words_have_one_command.ensures } in
    others laws _ s s' _ _ _ _ _ c.run_command.ensures.answer

pub returns-clause-calm : goal.returns-clause-calm
returns-clause-calm g c =
    let s : SolverThen = record { told = g.V.Solver.told c.args.solver.now; proposals = g.V.Solver.proposals c.args.solver.now } in let s' : SolverThen = record { told = g.V.Solver.told c.run_command.new.solver; proposals = g.V.Solver.proposals c.run_command.new.solver } in
    calm c.netlists_are_stepped_alike.ensures.sort _ s s' _ _ _ _ _ c.run_command.ensures.answer

pub returns-clause-usage : goal.returns-clause-usage
returns-clause-usage g c =
    let s : SolverThen = record { told = g.V.Solver.told c.args.solver.now; proposals = g.V.Solver.proposals c.args.solver.now } in let s' : SolverThen = record { told = g.V.Solver.told c.run_command.new.solver; proposals = g.V.Solver.proposals c.run_command.new.solver } in
    usage c.netlists_are_stepped_alike.ensures.sort c.answers_to_wiring.ensures _ s s' _ _ _ _ _ c.run_command.ensures.answer

pub returns-clause-refused : goal.returns-clause-refused
returns-clause-refused g c =
    let s : SolverThen = record { told = g.V.Solver.told c.args.solver.now; proposals = g.V.Solver.proposals c.args.solver.now } in let s' : SolverThen = record { told = g.V.Solver.told c.run_command.new.solver; proposals = g.V.Solver.proposals c.run_command.new.solver } in
    refused _ s s' _ _ _ _ _ c.run_command.ensures.answer

pub returns-clause-certified : goal.returns-clause-certified
returns-clause-certified g c netlist certificate is =
    let s : SolverThen = record { told = g.V.Solver.told c.args.solver.now; proposals = g.V.Solver.proposals c.args.solver.now } in let s' : SolverThen = record { told = g.V.Solver.told c.run_command.new.solver; proposals = g.V.Solver.proposals c.run_command.new.solver } in let laws : AreLaws = record { one = c.texts_are_judged_once.ensures.one; tested = c.texts_are_judged_once.ensures.tested; bounded = c.texts_are_judged_once.ensures.bounded; one_command = c.words_have_one_command.ensures } in
    certified c.answers_to_texts.ensures.certified _ _ _ _ _ _ (ran_other _ s s' _ _ _ _ _ (check_writes_nothing laws _ netlist certificate is) c.run_command.ensures.answer)

pub returns-clause-judged : goal.returns-clause-judged
returns-clause-judged g c held named merged lists known whole =
    let s : SolverThen = record { told = g.V.Solver.told c.args.solver.now; proposals = g.V.Solver.proposals c.args.solver.now } in let s' : SolverThen = record { told = g.V.Solver.told c.run_command.new.solver; proposals = g.V.Solver.proposals c.run_command.new.solver } in let laws : AreLaws = record { one = c.texts_are_judged_once.ensures.one; tested = c.texts_are_judged_once.ensures.tested; bounded = c.texts_are_judged_once.ensures.bounded; one_command = c.words_have_one_command.ensures } in
    judged laws c.no_failing_test.ensures.none _ _ _ _ _ _ (ran_other _ s s' _ _ _ _ _ (check_writes_nothing laws _ whole.netlist whole.certificate whole.words_are) c.run_command.ensures.answer) held named merged lists known whole

pub returns-clause-bounded : goal.returns-clause-bounded
returns-clause-bounded g c held named merged lists known whole =
    let s : SolverThen = record { told = g.V.Solver.told c.args.solver.now; proposals = g.V.Solver.proposals c.args.solver.now } in let s' : SolverThen = record { told = g.V.Solver.told c.run_command.new.solver; proposals = g.V.Solver.proposals c.run_command.new.solver } in let laws : AreLaws = record { one = c.texts_are_judged_once.ensures.one; tested = c.texts_are_judged_once.ensures.tested; bounded = c.texts_are_judged_once.ensures.bounded; one_command = c.words_have_one_command.ensures } in
    bounded laws _ _ _ _ _ _ (ran_other _ s s' _ _ _ _ _ (check_writes_nothing laws _ whole.netlist whole.certificate whole.words_are) c.run_command.ensures.answer) held named merged lists known whole

pub returns-clause-signed : goal.returns-clause-signed
returns-clause-signed g c =
    let s : SolverThen = record { told = g.V.Solver.told c.args.solver.now; proposals = g.V.Solver.proposals c.args.solver.now } in let s' : SolverThen = record { told = g.V.Solver.told c.run_command.new.solver; proposals = g.V.Solver.proposals c.run_command.new.solver } in let laws : AreLaws = record { one = c.texts_are_judged_once.ensures.one; tested = c.texts_are_judged_once.ensures.tested; bounded = c.texts_are_judged_once.ensures.bounded; one_command = c.words_have_one_command.ensures } in
    signed laws _ s s' _ _ _ _ _ c.run_command.ensures.answer

pub returns-clause-accepted : goal.returns-clause-accepted
returns-clause-accepted g c =
    let s : SolverThen = record { told = g.V.Solver.told c.args.solver.now; proposals = g.V.Solver.proposals c.args.solver.now } in let s' : SolverThen = record { told = g.V.Solver.told c.run_command.new.solver; proposals = g.V.Solver.proposals c.run_command.new.solver } in let laws : AreLaws = record { one = c.texts_are_judged_once.ensures.one; tested = c.texts_are_judged_once.ensures.tested; bounded = c.texts_are_judged_once.ensures.bounded; one_command = c.words_have_one_command.ensures } in
    accepted laws _ s s' _ _ _ _ _ c.run_command.ensures.answer

pub returns-clause-asked : goal.returns-clause-asked
returns-clause-asked g c =
    let s : SolverThen = record { told = g.V.Solver.told c.args.solver.now; proposals = g.V.Solver.proposals c.args.solver.now } in let s' : SolverThen = record { told = g.V.Solver.told c.run_command.new.solver; proposals = g.V.Solver.proposals c.run_command.new.solver } in let laws : AreLaws = record { one = c.texts_are_judged_once.ensures.one; tested = c.texts_are_judged_once.ensures.tested; bounded = c.texts_are_judged_once.ensures.bounded; one_command = c.words_have_one_command.ensures } in
    asked laws _ s s' _ _ _ _ _ c.run_command.ensures.answer

pub returns-clause-solved : goal.returns-clause-solved
returns-clause-solved g c =
    let s : SolverThen = record { told = g.V.Solver.told c.args.solver.now; proposals = g.V.Solver.proposals c.args.solver.now } in let s' : SolverThen = record { told = g.V.Solver.told c.run_command.new.solver; proposals = g.V.Solver.proposals c.run_command.new.solver } in let laws : AreLaws = record { one = c.texts_are_judged_once.ensures.one; tested = c.texts_are_judged_once.ensures.tested; bounded = c.texts_are_judged_once.ensures.bounded; one_command = c.words_have_one_command.ensures } in
    let solving : AreSolvingLaws = record { refusal = c.netlists_are_solved_once.ensures.refusal; supply = c.netlists_are_solved_once.ensures.supply; network = c.netlists_are_solved_once.ensures.network } in
    solved laws solving _ s s' _ _ _ _ _ c.run_command.ensures.answer

pub returns-clause-among : goal.returns-clause-among
returns-clause-among g c =
    let s : SolverThen = record { told = g.V.Solver.told c.args.solver.now; proposals = g.V.Solver.proposals c.args.solver.now } in let s' : SolverThen = record { told = g.V.Solver.told c.run_command.new.solver; proposals = g.V.Solver.proposals c.run_command.new.solver } in let laws : AreLaws = record { one = c.texts_are_judged_once.ensures.one; tested = c.texts_are_judged_once.ensures.tested; bounded = c.texts_are_judged_once.ensures.bounded; one_command = c.words_have_one_command.ensures } in
    among laws _ s s' _ _ _ _ _ c.run_command.ensures.answer

pub returns-clause-generated : goal.returns-clause-generated
returns-clause-generated g c =
    let s : SolverThen = record { told = g.V.Solver.told c.args.solver.now; proposals = g.V.Solver.proposals c.args.solver.now } in let s' : SolverThen = record { told = g.V.Solver.told c.run_command.new.solver; proposals = g.V.Solver.proposals c.run_command.new.solver } in let laws : AreLaws = record { one = c.texts_are_judged_once.ensures.one; tested = c.texts_are_judged_once.ensures.tested; bounded = c.texts_are_judged_once.ensures.bounded; one_command = c.words_have_one_command.ensures } in
    generated laws _ s s' _ _ _ _ _ c.run_command.ensures.answer

pub returns-clause-made : goal.returns-clause-made
returns-clause-made g c =
    let s : SolverThen = record { told = g.V.Solver.told c.args.solver.now; proposals = g.V.Solver.proposals c.args.solver.now } in let s' : SolverThen = record { told = g.V.Solver.told c.run_command.new.solver; proposals = g.V.Solver.proposals c.run_command.new.solver } in let laws : AreLaws = record { one = c.texts_are_judged_once.ensures.one; tested = c.texts_are_judged_once.ensures.tested; bounded = c.texts_are_judged_once.ensures.bounded; one_command = c.words_have_one_command.ensures } in
    made laws _ s s' _ _ _ _ _ c.run_command.ensures.answer

pub returns-clause-outputs : goal.returns-clause-outputs
returns-clause-outputs g c =
    let s : SolverThen = record { told = g.V.Solver.told c.args.solver.now; proposals = g.V.Solver.proposals c.args.solver.now } in let s' : SolverThen = record { told = g.V.Solver.told c.run_command.new.solver; proposals = g.V.Solver.proposals c.run_command.new.solver } in let laws : AreLaws = record { one = c.texts_are_judged_once.ensures.one; tested = c.texts_are_judged_once.ensures.tested; bounded = c.texts_are_judged_once.ensures.bounded; one_command = c.words_have_one_command.ensures } in
    among_built laws _ s s' _ _ _ _ _ c.run_command.ensures.answer

pub returns-clause-built : goal.returns-clause-built
returns-clause-built g c =
    let s : SolverThen = record { told = g.V.Solver.told c.args.solver.now; proposals = g.V.Solver.proposals c.args.solver.now } in let s' : SolverThen = record { told = g.V.Solver.told c.run_command.new.solver; proposals = g.V.Solver.proposals c.run_command.new.solver } in let laws : AreLaws = record { one = c.texts_are_judged_once.ensures.one; tested = c.texts_are_judged_once.ensures.tested; bounded = c.texts_are_judged_once.ensures.bounded; one_command = c.words_have_one_command.ensures } in
    built laws _ s s' _ _ _ _ _ c.run_command.ensures.answer

pub returns-clause-build_accepted : goal.returns-clause-build_accepted
returns-clause-build_accepted g c =
    let s : SolverThen = record { told = g.V.Solver.told c.args.solver.now; proposals = g.V.Solver.proposals c.args.solver.now } in let s' : SolverThen = record { told = g.V.Solver.told c.run_command.new.solver; proposals = g.V.Solver.proposals c.run_command.new.solver } in let laws : AreLaws = record { one = c.texts_are_judged_once.ensures.one; tested = c.texts_are_judged_once.ensures.tested; bounded = c.texts_are_judged_once.ensures.bounded; one_command = c.words_have_one_command.ensures } in
    accepted_built laws _ s s' _ _ _ _ _ c.run_command.ensures.answer

pub returns-clause-build_asked : goal.returns-clause-build_asked
returns-clause-build_asked g c =
    let s : SolverThen = record { told = g.V.Solver.told c.args.solver.now; proposals = g.V.Solver.proposals c.args.solver.now } in let s' : SolverThen = record { told = g.V.Solver.told c.run_command.new.solver; proposals = g.V.Solver.proposals c.run_command.new.solver } in let laws : AreLaws = record { one = c.texts_are_judged_once.ensures.one; tested = c.texts_are_judged_once.ensures.tested; bounded = c.texts_are_judged_once.ensures.bounded; one_command = c.words_have_one_command.ensures } in
    asked_built laws _ s s' _ _ _ _ _ c.run_command.ensures.answer

pub returns-clause-completed : goal.returns-clause-completed
returns-clause-completed g c =
    let s : SolverThen = record { told = g.V.Solver.told c.args.solver.now; proposals = g.V.Solver.proposals c.args.solver.now } in let s' : SolverThen = record { told = g.V.Solver.told c.run_command.new.solver; proposals = g.V.Solver.proposals c.run_command.new.solver } in let laws : AreLaws = record { one = c.texts_are_judged_once.ensures.one; tested = c.texts_are_judged_once.ensures.tested; bounded = c.texts_are_judged_once.ensures.bounded; one_command = c.words_have_one_command.ensures } in
    completed laws _ s s' _ _ _ _ _ c.run_command.ensures.answer

pub returns-clause-step_outputs : goal.returns-clause-step_outputs
returns-clause-step_outputs g c =
    let s : SolverThen = record { told = g.V.Solver.told c.args.solver.now; proposals = g.V.Solver.proposals c.args.solver.now } in let s' : SolverThen = record { told = g.V.Solver.told c.run_command.new.solver; proposals = g.V.Solver.proposals c.run_command.new.solver } in let laws : AreLaws = record { one = c.texts_are_judged_once.ensures.one; tested = c.texts_are_judged_once.ensures.tested; bounded = c.texts_are_judged_once.ensures.bounded; one_command = c.words_have_one_command.ensures } in
    among_stepped laws c.netlists_are_stepped_alike.ensures.sort _ s s' _ _ _ _ _ c.run_command.ensures.answer

pub returns-clause-stepped : goal.returns-clause-stepped
returns-clause-stepped g c =
    let s : SolverThen = record { told = g.V.Solver.told c.args.solver.now; proposals = g.V.Solver.proposals c.args.solver.now } in let s' : SolverThen = record { told = g.V.Solver.told c.run_command.new.solver; proposals = g.V.Solver.proposals c.run_command.new.solver } in let laws : AreLaws = record { one = c.texts_are_judged_once.ensures.one; tested = c.texts_are_judged_once.ensures.tested; bounded = c.texts_are_judged_once.ensures.bounded; one_command = c.words_have_one_command.ensures } in
    stepped laws c.netlists_are_stepped_alike.ensures.sort _ s s' _ _ _ _ _ c.run_command.ensures.answer

pub returns-clause-step_asked : goal.returns-clause-step_asked
returns-clause-step_asked g c =
    let s : SolverThen = record { told = g.V.Solver.told c.args.solver.now; proposals = g.V.Solver.proposals c.args.solver.now } in let s' : SolverThen = record { told = g.V.Solver.told c.run_command.new.solver; proposals = g.V.Solver.proposals c.run_command.new.solver } in let laws : AreLaws = record { one = c.texts_are_judged_once.ensures.one; tested = c.texts_are_judged_once.ensures.tested; bounded = c.texts_are_judged_once.ensures.bounded; one_command = c.words_have_one_command.ensures } in
    asked_stepped laws c.netlists_are_stepped_alike.ensures.sort _ s s' _ _ _ _ _ c.run_command.ensures.answer

pub returns-clause-step_completed : goal.returns-clause-step_completed
returns-clause-step_completed g c =
    let s : SolverThen = record { told = g.V.Solver.told c.args.solver.now; proposals = g.V.Solver.proposals c.args.solver.now } in let s' : SolverThen = record { told = g.V.Solver.told c.run_command.new.solver; proposals = g.V.Solver.proposals c.run_command.new.solver } in let laws : AreLaws = record { one = c.texts_are_judged_once.ensures.one; tested = c.texts_are_judged_once.ensures.tested; bounded = c.texts_are_judged_once.ensures.bounded; one_command = c.words_have_one_command.ensures } in
    completed_steps laws c.netlists_are_stepped_alike.ensures.sort _ s s' _ _ _ _ _ c.run_command.ensures.answer

pub returns-clause-signoff_outputs : goal.returns-clause-signoff_outputs
returns-clause-signoff_outputs g c =
    let s : SolverThen = record { told = g.V.Solver.told c.args.solver.now; proposals = g.V.Solver.proposals c.args.solver.now } in let s' : SolverThen = record { told = g.V.Solver.told c.run_command.new.solver; proposals = g.V.Solver.proposals c.run_command.new.solver } in let laws : AreLaws = record { one = c.texts_are_judged_once.ensures.one; tested = c.texts_are_judged_once.ensures.tested; bounded = c.texts_are_judged_once.ensures.bounded; one_command = c.words_have_one_command.ensures } in
    among_signed laws c.answers_to_wiring.ensures _ s s' _ _ _ _ _ c.run_command.ensures.answer

pub returns-clause-signed_off : goal.returns-clause-signed_off
returns-clause-signed_off g c =
    let s : SolverThen = record { told = g.V.Solver.told c.args.solver.now; proposals = g.V.Solver.proposals c.args.solver.now } in let s' : SolverThen = record { told = g.V.Solver.told c.run_command.new.solver; proposals = g.V.Solver.proposals c.run_command.new.solver } in let laws : AreLaws = record { one = c.texts_are_judged_once.ensures.one; tested = c.texts_are_judged_once.ensures.tested; bounded = c.texts_are_judged_once.ensures.bounded; one_command = c.words_have_one_command.ensures } in
    signed_off laws c.answers_to_wiring.ensures _ s s' _ _ _ _ _ c.run_command.ensures.answer

pub returns-clause-signoff_accepted : goal.returns-clause-signoff_accepted
returns-clause-signoff_accepted g c =
    let s : SolverThen = record { told = g.V.Solver.told c.args.solver.now; proposals = g.V.Solver.proposals c.args.solver.now } in let s' : SolverThen = record { told = g.V.Solver.told c.run_command.new.solver; proposals = g.V.Solver.proposals c.run_command.new.solver } in let laws : AreLaws = record { one = c.texts_are_judged_once.ensures.one; tested = c.texts_are_judged_once.ensures.tested; bounded = c.texts_are_judged_once.ensures.bounded; one_command = c.words_have_one_command.ensures } in
    accepted_signed laws c.answers_to_wiring.ensures _ s s' _ _ _ _ _ c.run_command.ensures.answer

pub returns-clause-signoff_of_build : goal.returns-clause-signoff_of_build
returns-clause-signoff_of_build g c names is low =
    let s : SolverThen = record { told = g.V.Solver.told c.args.solver.now; proposals = g.V.Solver.proposals c.args.solver.now } in let s' : SolverThen = record { told = g.V.Solver.told c.run_command.new.solver; proposals = g.V.Solver.proposals c.run_command.new.solver } in let laws : AreLaws = record { one = c.texts_are_judged_once.ensures.one; tested = c.texts_are_judged_once.ensures.tested; bounded = c.texts_are_judged_once.ensures.bounded; one_command = c.words_have_one_command.ensures } in
    netlist_of_build c.built_wiring_is_signed_off_alike.ensures.netlist _ names _ _ _ (signed_off laws c.answers_to_wiring.ensures _ s s' _ _ _ _ _ c.run_command.ensures.answer names is low)

pub returns-clause-signoff_asked : goal.returns-clause-signoff_asked
returns-clause-signoff_asked g c =
    let s : SolverThen = record { told = g.V.Solver.told c.args.solver.now; proposals = g.V.Solver.proposals c.args.solver.now } in let s' : SolverThen = record { told = g.V.Solver.told c.run_command.new.solver; proposals = g.V.Solver.proposals c.run_command.new.solver } in let laws : AreLaws = record { one = c.texts_are_judged_once.ensures.one; tested = c.texts_are_judged_once.ensures.tested; bounded = c.texts_are_judged_once.ensures.bounded; one_command = c.words_have_one_command.ensures } in
    asked_signed laws c.answers_to_wiring.ensures _ s s' _ _ _ _ _ c.run_command.ensures.answer

pub returns-clause-signoff_completed : goal.returns-clause-signoff_completed
returns-clause-signoff_completed g c =
    let s : SolverThen = record { told = g.V.Solver.told c.args.solver.now; proposals = g.V.Solver.proposals c.args.solver.now } in let s' : SolverThen = record { told = g.V.Solver.told c.run_command.new.solver; proposals = g.V.Solver.proposals c.run_command.new.solver } in let laws : AreLaws = record { one = c.texts_are_judged_once.ensures.one; tested = c.texts_are_judged_once.ensures.tested; bounded = c.texts_are_judged_once.ensures.bounded; one_command = c.words_have_one_command.ensures } in
    completed_signed laws c.answers_to_wiring.ensures _ s s' _ _ _ _ _ c.run_command.ensures.answer
