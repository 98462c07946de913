use Rattle.std.proofs.Common.{◌≡◌, ℕ, ℤ, rules}
use Rattle.std.specs.List.{dedup}
use Rattle.std.specs.List.Sorted.{IsSorted}
use Rattle.std.proofs.lemmas.List.Filters.{dedup_is}
use Rattle.std.proofs.lemmas.List.Sorted.{answers_always}
use Rattle.grid_stacks.specs.declared.connect.Site.{Site}
use Rattle.grid_stacks.specs.Stacking.{site_order}
use Rattle.macro_stacks.proofs.Once.{site_total, site_test, site_decides, once_same, once_in_order}
use Rattle.macro_stacks.proofs.places.put_in_order.Goals as goal

pub returns-clause-same : goal.returns-clause-same
returns-clause-same c s =
    let sorted = c.sort_unstable_by_key.new.self.items in
    let is : c.dedup.new.self.items ≡ dedup site_test sorted = dedup_is _ _ _ c.dedup.ensures.filtered in
    rw is (once_same site_order site_total site_test site_decides c.args.sites.now.items sorted c.sort_unstable_by_key.ensures.permutation c.requires s)

pub returns-clause-in_order : goal.returns-clause-in_order
returns-clause-in_order c =
    let sorted = c.sort_unstable_by_key.new.self.items in
    let is : c.dedup.new.self.items ≡ dedup site_test sorted = dedup_is _ _ _ c.dedup.ensures.filtered in
    let key : Site → (ℕ × ℤ × ℤ × ℕ × ℕ) × (ℤ × ℤ × ℤ × ℤ) = λ (s : Site). ((s.net, s.x, s.y, s.from, s.to), (s.crossing.x1, s.crossing.y1, s.crossing.x2, s.crossing.y2)) in
    let rising : IsSorted site_order sorted = c.sort_unstable_by_key.ensures.sorted key (answers_always _ _ _ (λ f a r f' called. search rules)) in
    rw is (once_in_order site_order site_total site_test site_decides c.args.sites.now.items sorted c.sort_unstable_by_key.ensures.permutation c.requires rising)
