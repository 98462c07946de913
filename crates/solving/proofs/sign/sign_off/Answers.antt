use Rattle.std.proofs.Common.{inl}
use Rattle.std.proofs.lemmas.Result.{IfOk-weaker, MatchResult-weaker}
use Rattle.solving.proofs.sign.sign_off.Goals as goal

pub returns-in-Ok-clause-signed : goal.returns-in-Ok-clause-signed
returns-in-Ok-clause-signed g c =
    let (named, gives) = c.in-Ok.ensures.network in
    IfOk-weaker c.sign_network.result _ _ (λ signed made. let all = made c.args.netlist_text.now named gives in (named, c.in-Ok.merged, all.0, all.1, all.2, all.3)) c.sign_network.ensures.signed

pub returns-in-Ok-clause-refused : goal.returns-in-Ok-clause-refused
returns-in-Ok-clause-refused g c =
    let (named, gives) = c.in-Ok.ensures.network in
    MatchResult-weaker c.sign_network.result c.sign_network.ensures.refused (λ signed made. made) (λ answer refuses. refuses c.args.netlist.now c.args.netlist_text.now named gives)

pub returns-in-Err-clause-refused : goal.returns-in-Err-clause-refused
returns-in-Err-clause-refused g c = inl c.in-Err.ensures.refused
