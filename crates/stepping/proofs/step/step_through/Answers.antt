use Rattle.std.proofs.Common.{inl}
use Rattle.std.proofs.lemmas.Result.{IfOk-weaker, MatchResult-weaker}
use Rattle.stepping.proofs.step.step_through.Goals as goal

pub returns-in-Ok-clause-stepped : goal.returns-in-Ok-clause-stepped
returns-in-Ok-clause-stepped g c =
    let (named, gives) = c.in-Ok.ensures.network in
    IfOk-weaker c.step_merged.result _ _ (λ stepped made. let all = made c.args.netlist_text.now named gives in (named, c.in-Ok.merged, all.0, all.1, all.2, all.3)) c.step_merged.ensures.stepped

pub returns-in-Ok-clause-refused : goal.returns-in-Ok-clause-refused
returns-in-Ok-clause-refused g c =
    let (named, gives) = c.in-Ok.ensures.network in
    MatchResult-weaker c.step_merged.result c.step_merged.ensures.refused (λ stepped made. made) (λ answer refuses. refuses c.args.netlist.now c.args.netlist_text.now named gives)

pub returns-in-Err-clause-refused : goal.returns-in-Err-clause-refused
returns-in-Err-clause-refused g c = inl c.in-Err.ensures.refused
