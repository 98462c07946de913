use Rattle.std.proofs.Common.{inl}
use Rattle.std.proofs.lemmas.Result.{IfOk-weaker, MatchResult-weaker}
use Rattle.building.specs.Inputs.{five_texts}
use Rattle.building.specs.Laws.Building.{built}
use Rattle.building.specs.Laws.Refusing.{unbuilt}
use Rattle.building.proofs.whole.build.Goals as goal

pub returns-in-Ok-clause-built : goal.returns-in-Ok-clause-built
returns-in-Ok-clause-built g c =
    IfOk-weaker c.build_of.result _ _ (λ outputs is. built (g.V.Solver.told c.args.solver.now) (five_texts c.args.inputs.now) c.in-Ok.records outputs c.in-Ok.ensures.records is) c.build_of.ensures.built

pub returns-in-Ok-clause-refused : goal.returns-in-Ok-clause-refused
returns-in-Ok-clause-refused g c =
    MatchResult-weaker c.build_of.result c.build_of.ensures.refused (λ outputs is. is) (λ answer is. unbuilt (five_texts c.args.inputs.now) c.in-Ok.records answer c.in-Ok.ensures.records is)

pub returns-in-Err-clause-refused : goal.returns-in-Err-clause-refused
returns-in-Err-clause-refused g c = inl c.in-Err.ensures.refused
