-- The order of stacks is total.
use Rattle.std.specs.Cmp.{IsTotalOrder}
use Rattle.std.proofs.lemmas.Cmp.{nat_cmp_total, int_cmp_total, on_total, then_total}
use Rattle.wire_stacks.specs.declared.made.Made.{Made}
use Rattle.wire_stacks.specs.inside.Made.{made_order}

pub made_total : IsTotalOrder made_order
made_total =
    then_total
    (then_total
    (then_total
    (then_total
    (then_total
    (then_total
    (then_total
    (then_total
    (then_total (on_total (λ (m : Made). m.at.net) nat_cmp_total) (on_total (λ (m : Made). m.at.x) int_cmp_total))
    (on_total (λ (m : Made). m.at.y) int_cmp_total))
    (on_total (λ (m : Made). m.at.stack.from) nat_cmp_total))
    (on_total (λ (m : Made). m.at.stack.to) nat_cmp_total))
    (on_total (λ (m : Made). m.at.crossing.x1) int_cmp_total))
    (on_total (λ (m : Made). m.at.crossing.y1) int_cmp_total))
    (on_total (λ (m : Made). m.at.crossing.x2) int_cmp_total))
    (on_total (λ (m : Made). m.at.crossing.y2) int_cmp_total))
    (on_total (λ (m : Made). m.number) nat_cmp_total)
