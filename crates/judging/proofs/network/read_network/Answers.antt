use Rattle.std.proofs.Common.{inl, inr}
use Rattle.std.proofs.lemmas.Result.{IfOk-weaker, MatchResult-weaker}
use Rattle.judging.proofs.network.read_network.Goals as goal

pub returns-in-Ok-clause-network : goal.returns-in-Ok-clause-network
returns-in-Ok-clause-network c = IfOk-weaker c.merge_named.result _ _ (λ merged gives. (c.in-Ok.named, gives c.args.netlist_text.now c.in-Ok.ensures.reads)) c.merge_named.ensures.network

pub returns-in-Ok-clause-refused : goal.returns-in-Ok-clause-refused
returns-in-Ok-clause-refused c = MatchResult-weaker c.merge_named.result c.merge_named.ensures.refused (λ merged made. made) (λ answer refuses. refuses c.args.netlist.now c.args.netlist_text.now c.in-Ok.ensures.reads)

pub returns-in-Err-clause-refused : goal.returns-in-Err-clause-refused
returns-in-Err-clause-refused c =
    elim c.netlist_refused.ensures [
      | inl want ↦ inl want
      | inr told ↦ inr (inl (record { error = c.in-Err.error; refused = c.in-Err.ensures.reads; told = told }))
    ]
