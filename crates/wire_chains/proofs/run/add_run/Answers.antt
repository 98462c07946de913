-- The chains through the layers of a run, and where the next run begins.
use Rattle.std.proofs.Common.{◌≡◌, subst, sym, ◌∙◌, arith}
use Rattle.std.proofs.lemmas.Bool.{false≢true}
use Rattle.wire_chains.specs.inside.Run.{GoesOn, InRun}
use Rattle.wire_chains.proofs.Column.{starts_behind}
use Rattle.wire_chains.proofs.Runs.{run_begun, run_more, run_done}
use Rattle.wire_chains.proofs.run.add_run.Goals as goal

pub levels-init : goal.levels-init
levels-init c =
    let all = c.args.all.now in
    let end = c.level_end-to.ensures in
    subst (InRun all c.args.from c.level_end-to.result) (sym c.in_ok-paths.ensures)
    (run_begun all c.args.from c.level_end-to.result c.requires.sorted c.requires.from c.requires.start (record { some = end.some; within = end.within; level = end.level; behind = end.behind }))

pub levels-preserved : goal.levels-preserved
levels-preserved c =
    let all = c.args.all.now in
    let end = c.level_end-next.ensures in
    subst (InRun all c.args.from c.level_end-next.result) (sym c.in_ok-go_on.ensures)
    (run_more all c.args.from c.levels.to c.level_end-next.result c.levels.paths.items c.requires.sorted c.requires.held c.levels.invariant (c.goes_on.ensures.0 c.levels-test.true)
    (record { some = end.some; within = end.within; level = end.level; behind = end.behind }))

pub returns-clause-start : goal.returns-clause-start
returns-clause-start c =
    let none : GoesOn c.args.all.now c.levels.to → ⊥ = λ goes. false≢true (sym c.levels-test.false ∙ c.goes_on.ensures.1 goes) in
    let run = c.levels.invariant in
    starts_behind c.args.all.now c.requires.sorted c.requires.held c.levels.to (omega (arith, run.some)) run.ends none

pub returns-clause-added : goal.returns-clause-added
returns-clause-added c =
    let none : GoesOn c.args.all.now c.levels.to → ⊥ = λ goes. false≢true (sym c.levels-test.false ∙ c.goes_on.ensures.1 goes) in (
      c.levels.paths.items,
      c.in_ok-append.ensures.items,
      run_done c.args.all.now c.args.from c.levels.to c.levels.paths.items c.requires.sorted c.requires.held c.requires.from c.requires.start c.levels.invariant none,
    )
