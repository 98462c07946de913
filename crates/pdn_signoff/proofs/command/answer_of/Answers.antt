use Rattle.std.proofs.Common.{Err, inl, inr, refl, ap}
use Rattle.command_words.specs.declared.command.Command.TheVariants.{Build, Check, Solve, Generate, Step, Signoff}
use Rattle.pdn_signoff.proofs.command.answer_of.Goals as goal

pub returns-in-Err-Usage-clause-cause : goal.returns-in-Err-Usage-clause-cause
returns-in-Err-Usage-clause-cause g c =
    let none = c.in-Err-Usage.ensures.usage (ap Err c.in-Err-Usage.field-0-is) in
    inl (refl, inr (refl, (λ n m check. none (Check n m) check, λ n m r solve. none (Solve n m r) solve, λ k s f made. none (Generate k s f.lef f.cells f.def f.pdn f.bias) made, λ f built. none (Build f.lef f.cells f.def f.pdn f.bias f.out_def f.netlist f.certificate f.report) built, λ f steps. none (Step f.netlist f.waves f.time f.steps f.certificate f.report) steps, λ f signed. none (Signoff f.lef f.cells f.def f.wires f.bias f.netlist f.certificate f.report) signed), refl))

pub returns-in-Ok-clause-cause : goal.returns-in-Ok-clause-cause
returns-in-Ok-clause-cause g c = c.carry_out.ensures.cause c.args.words.now c.in-Ok.ensures.command
