use Rattle.std.proofs.Common.{inl, inr, sym, ◌∙◌}
use Rattle.std.proofs.lemmas.Result.{IfOk-weaker, MatchResult-weaker}
use Rattle.building.specs.Inputs.{five_texts}
use Rattle.building.specs.Laws.Refusing.{unbuilt}
use Rattle.macro_building.proofs.Building.{built_plain}
use Rattle.macro_building.proofs.whole.build.Goals as goal

pub returns-in-Err-clause-refused : goal.returns-in-Err-clause-refused
returns-in-Err-clause-refused g c = inl c.in-Err.ensures.refused

pub returns-in-Ok-true-clause-refused : goal.returns-in-Ok-true-clause-refused
returns-in-Ok-true-clause-refused g c =
    MatchResult-weaker c.build_over_blocks.result c.build_over_blocks.ensures.refused (λ outputs is. is) (λ answer is. inr (inr is))

pub returns-in-Ok-false-clause-built : goal.returns-in-Ok-false-clause-built
returns-in-Ok-false-clause-built g c =
    let none = sym c.in-Ok-false.ensures ∙ c.in-Ok-false.field-0-test in
    IfOk-weaker c.build_of.result _ _ (λ outputs is. built_plain (g.V.Solver.told c.args.solver.now) (five_texts c.args.inputs.now) c.in-Ok.records outputs c.in-Ok.ensures.records none is) c.build_of.ensures.built

pub returns-in-Ok-false-clause-refused : goal.returns-in-Ok-false-clause-refused
returns-in-Ok-false-clause-refused g c =
    let none = sym c.in-Ok-false.ensures ∙ c.in-Ok-false.field-0-test in
    MatchResult-weaker c.build_of.result c.build_of.ensures.refused (λ outputs is. is)
    (λ answer is. inr (inl (record { records = c.in-Ok.records; reads = c.in-Ok.ensures.records; none = none }, unbuilt (five_texts c.args.inputs.now) c.in-Ok.records answer c.in-Ok.ensures.records is)))
