use Rattle.std.proofs.lemmas.Result.{IfOk-weaker, MatchResult-weaker}
use Rattle.building.specs.Inputs.{five_texts}
use Rattle.macro_building.proofs.Building.{built_over}
use Rattle.macro_building.proofs.Refusing.{without_pins, unbuilt_over}
use Rattle.macro_building.proofs.whole.build_over_blocks.Goals as goal

pub returns-in-Ok-clause-built : goal.returns-in-Ok-clause-built
returns-in-Ok-clause-built g c =
    IfOk-weaker c.build_blocks.result _ _ (λ outputs is. built_over (g.V.Solver.told c.args.solver.now) (five_texts c.args.inputs.now) c.args.records.now c.in-Ok.blocks outputs c.requires.records c.requires.some c.in-Ok.ensures.blocks is)
    c.build_blocks.ensures.built

pub returns-in-Ok-clause-refused : goal.returns-in-Ok-clause-refused
returns-in-Ok-clause-refused g c =
    MatchResult-weaker c.build_blocks.result c.build_blocks.ensures.refused (λ outputs is. is)
    (λ answer is. unbuilt_over (five_texts c.args.inputs.now) c.args.records.now answer c.requires.records c.requires.some c.in-Ok.blocks c.in-Ok.ensures.blocks is)

pub returns-in-Err-clause-refused : goal.returns-in-Err-clause-refused
returns-in-Err-clause-refused g c = without_pins (five_texts c.args.inputs.now) c.args.records.now c.in-Err.answer c.requires.records c.requires.some c.in-Err.ensures.refused
