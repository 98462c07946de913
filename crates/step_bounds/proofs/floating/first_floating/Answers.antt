use Rattle.std.proofs.Common.{◌∙◌, ap, sym, List}
use Rattle.std.proofs.lemmas.List.{take_all}
use Rattle.capacitors.specs.declared.Cap.{Cap}
use Rattle.grid_net.specs.Search.{first_of}
use Rattle.grid_net.specs.Laws.Search.{found_of, none_next}
use Rattle.step_bounds.specs.Capacitors.{floats_at}
use Rattle.step_bounds.proofs.floating.first_floating.Goals as goal

pub returns-in-Some : goal.returns-in-Some
returns-in-Some c =
    sym (found_of (floats_at c.args.net.now) c.args.caps.now c.loop-cap.cap-index _ c.in-Some.node c.loop-cap-test.true c.loop-cap.invariant
    (sym c.in-Some.ensures))

pub loop-cap-preserved : goal.loop-cap-preserved
loop-cap-preserved c =
    none_next (floats_at c.args.net.now) c.args.caps.now c.loop-cap.cap-index _ c.loop-cap-test.true c.loop-cap.invariant
    (sym c.in_default.ensures)

pub returns : goal.returns
returns c =
    sym (ap (λ (xs : List Cap). first_of (floats_at c.args.net.now) xs)
    (sym (take_all c.loop-cap.cap-index c.args.caps.now c.loop-cap-test.false)) ∙ c.loop-cap.invariant)
