use Rattle.std.proofs.Common.{inl, inr}
use Rattle.std.proofs.lemmas.Result.{IfOk-weaker, MatchResult-weaker}
use Rattle.macro_building.proofs.whole.build_blocks.Goals as goal

pub returns-in-Ok-clause-built : goal.returns-in-Ok-clause-built
returns-in-Ok-clause-built g c = IfOk-weaker c.build_drawn.result _ _ (λ outputs is. (c.in-Ok.drawn, c.in-Ok.ensures.drawn, is)) c.build_drawn.ensures.built

pub returns-in-Ok-clause-refused : goal.returns-in-Ok-clause-refused
returns-in-Ok-clause-refused g c =
    MatchResult-weaker c.build_drawn.result c.build_drawn.ensures.refused (λ outputs is. is) (λ answer is. inr (c.in-Ok.drawn, c.in-Ok.ensures.drawn, is))

pub returns-in-Err-clause-refused : goal.returns-in-Err-clause-refused
returns-in-Err-clause-refused g c = inl c.in-Err.ensures.refused
