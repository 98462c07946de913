use Rattle.std.proofs.Common.{◌≡◌, ap, sym, ◌∙◌}
use Rattle.wiring_file.specs.Number.{quantity_at}
use Rattle.wiring_file.proofs.Numbers.{found, passed, none_left}
use Rattle.wiring_file.proofs.number.number_at.Goals as goal

pub loop-place-init : goal.loop-place-init
loop-place-init c = ap (quantity_at c.args.n) c.numbers_in-place-items.ensures

pub loop-place-preserved : goal.loop-place-preserved
loop-place-preserved c =
    sym (passed c.args.n c.numbers_in-place-items.result.now c.loop-place.place-index _ c.loop-place-test.true c.if-place-n.false) ∙ c.loop-place.invariant

pub returns-then-place-n : goal.returns-then-place-n
returns-then-place-n c = sym (found c.args.n c.numbers_in-place-items.result.now c.loop-place.place-index _ c.loop-place-test.true c.if-place-n.true) ∙ c.loop-place.invariant

pub returns : goal.returns
returns c = sym (none_left c.args.n c.numbers_in-place-items.result.now c.loop-place.place-index c.loop-place-test.false) ∙ c.loop-place.invariant
