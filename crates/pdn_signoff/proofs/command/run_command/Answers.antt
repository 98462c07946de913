use Rattle.std.proofs.Common.{inl, inr}
use Rattle.answers.specs.declared.answer.Answer.TheVariants.{Want}
use Rattle.pdn_signoff.specs.Solve.{SolverThen}
use Rattle.pdn_signoff.proofs.Solving.{want_too}
use Rattle.pdn_signoff.proofs.command.run_command.Goals as goal

pub returns-clause-answer : goal.returns-clause-answer
returns-clause-answer g c =
    let s : SolverThen = record { told = g.V.Solver.told c.args.solver.now; proposals = g.V.Solver.proposals c.args.solver.now } in
    let s' : SolverThen = record { told = g.V.Solver.told c.answer_of-answer.new.solver; proposals = g.V.Solver.proposals c.answer_of-answer.new.solver } in
    elim c.tell.ensures [
      | inl told ↦ (c.answer_of-answer.result, c.answer_of-answer.ensures.cause, told)
      | inr want ↦ (Want, want_too _ s s' _ _ _ c.answer_of-answer.ensures.cause, want)
    ]
