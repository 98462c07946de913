-- Bars, starts and sites in order.
use Rattle.std.proofs.Common.{◌≡◌, ℕ, ◌<◌, ◌≤◌, ℤ, ◌<ℤ◌, ◌≤ℤ◌, false, true, List, length, get_or, arith}
use Rattle.std.specs.Cmp.{IsTotalOrder}
use Rattle.std.specs.Ordering.{nat_cmp, int_cmp, ordering_then}
use Rattle.std.specs.declared.cmp.Ordering.{Ordering}
use Rattle.std.proofs.lemmas.Cmp.{nat_cmp_total, int_cmp_total, on_total, then_total}
use Rattle.grid_stacks.specs.declared.bar.Bar.{Bar}
use Rattle.grid_stacks.specs.declared.bar.Start.{Start}
use Rattle.grid_stacks.specs.declared.connect.Site.{Site}
use Rattle.grid_stacks.specs.Stacking.{site_order}

abbrev pub low_order : Bar → Bar → Ordering
low_order a b = int_cmp a.low b.low

abbrev pub net_order : Bar → Bar → Ordering
net_order a b = ordering_then (nat_cmp a.net b.net) (int_cmp a.low b.low)

abbrev pub start_order : Start → Start → Ordering
start_order a b = int_cmp a.from b.from

pub low_total : IsTotalOrder low_order
low_total = on_total (λ (a : Bar). a.low) int_cmp_total

pub net_total : IsTotalOrder net_order
net_total = then_total (on_total (λ (a : Bar). a.net) nat_cmp_total) (on_total (λ (a : Bar). a.low) int_cmp_total)

pub start_total : IsTotalOrder start_order
start_total = on_total (λ (a : Start). a.from) int_cmp_total

pub site_total : IsTotalOrder site_order
site_total =
    then_total
    (then_total
    (then_total (then_total (then_total (on_total (λ (s : Site). s.net) nat_cmp_total) (on_total (λ (s : Site). s.x) int_cmp_total)) (on_total (λ (s : Site). s.y) int_cmp_total))
    (on_total (λ (s : Site). s.from) nat_cmp_total))
    (on_total (λ (s : Site). s.to) nat_cmp_total))
    (then_total
    (then_total (then_total (on_total (λ (s : Site). s.crossing.x1) int_cmp_total) (on_total (λ (s : Site). s.crossing.y1) int_cmp_total)) (on_total (λ (s : Site). s.crossing.x2) int_cmp_total))
    (on_total (λ (s : Site). s.crossing.y2) int_cmp_total))
