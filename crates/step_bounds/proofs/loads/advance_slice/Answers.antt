use Rattle.std.proofs.Common.{◌∙◌, length, take}
use Rattle.step_bounds.specs.Changes.{range_after}
use Rattle.step_bounds.proofs.Course.{after_pieces}
use Rattle.step_bounds.proofs.loads.advance_slice.Goals as goal

pub returns-clause-loads : goal.returns-clause-loads
returns-clause-loads c = λ f e.
    c.apply.ensures (λ i. range_after (take c.args.from c.args.changes.now) i (f i)) e
    ∙ after_pieces f c.args.changes.now c.args.from c.end_of-end.result (length c.args.loads.now) c.end_of-end.ensures.from
