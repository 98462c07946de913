use Rattle.std.proofs.Common.{sym, ◌∙◌}
use Rattle.outside.specs.Calls.{CountsWrite}
use Rattle.outside.proofs.Tallies.{counted_after, none_falls_after, none_falls_same, fails_before, fails_still, only_same, only_write, write_rose}
use Rattle.outside.proofs.calls.Calls.begin_write.Goals as goal

pub returns-in_err-place-clause-none_falls : goal.returns-in_err-place-clause-none_falls
returns-in_err-place-clause-none_falls c = none_falls_same _ _ c.in_err-place.ensures.uncounted.counts

pub returns-then-fails_next-clause-cause : goal.returns-then-fails_next-clause-cause
returns-then-fails_next-clause-cause c =
    λ _. fails_before c.args.name.now c.args.self.now c.place.new.self c.in_ok-place.ensures.uncounted (c.fails_next.ensures.0 c.if-fails_next.true)

pub returns-then-fails_next-clause-counted_failed : goal.returns-then-fails_next-clause-counted_failed
returns-then-fails_next-clause-counted_failed c =
    λ _. counted_after c.args.name.now c.args.self.now c.place.new.self c.in_ok-place.ensures.uncounted c.count_failed_write.new.self
    (CountsWrite c.args.name.now) (c.count_failed_write.ensures.counted c.args.name.now c.in_ok-place.ensures.place)

pub returns-then-fails_next-clause-failed_write : goal.returns-then-fails_next-clause-failed_write
returns-then-fails_next-clause-failed_write c = λ failed. (write_rose c.args.name.now _ _ (returns-then-fails_next-clause-counted_failed c failed).counts).1

pub returns-then-fails_next-clause-none_falls : goal.returns-then-fails_next-clause-none_falls
returns-then-fails_next-clause-none_falls c =
    none_falls_after c.args.name.now c.args.self.now c.place.new.self c.in_ok-place.ensures.uncounted c.count_failed_write.new.self
    (c.count_failed_write.ensures.none_falls c.args.name.now c.in_ok-place.ensures.place)

pub returns-clause-no_cause : goal.returns-clause-no_cause
returns-clause-no_cause c fails =
    let clash = sym c.if-fails_next.false ∙ c.fails_next.ensures.1 (fails_still c.args.name.now c.args.self.now c.place.new.self c.in_ok-place.ensures.uncounted fails) in cc

pub returns-clause-none_falls : goal.returns-clause-none_falls
returns-clause-none_falls c = none_falls_same _ _ c.in_ok-place.ensures.uncounted.counts

pub returns-in_err-place-clause-only : goal.returns-in_err-place-clause-only
returns-in_err-place-clause-only c = (only_same c.args.name.now _ _ c.in_err-place.ensures.uncounted.counts).1

pub returns-then-fails_next-clause-only : goal.returns-then-fails_next-clause-only
returns-then-fails_next-clause-only c =
    only_write c.args.name.now _ _ (counted_after c.args.name.now c.args.self.now c.place.new.self c.in_ok-place.ensures.uncounted c.count_failed_write.new.self
    (CountsWrite c.args.name.now) (c.count_failed_write.ensures.counted c.args.name.now c.in_ok-place.ensures.place)).counts

pub returns-clause-only : goal.returns-clause-only
returns-clause-only c = (only_same c.args.name.now _ _ c.in_ok-place.ensures.uncounted.counts).1
