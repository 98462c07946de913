use Rattle.std.proofs.Common.{List, subst}
use Rattle.std.specs.List.Sorted.{IsSortedBy}
use Rattle.std.specs.Ordering.{is_lt}
use Rattle.grid_network.specs.contracts.row.RowOrd.TheImpl as row_ord
use Rattle.grid_network.specs.declared.row.Row.{Row}
use Rattle.grid_network.specs.Segments.{IsSegment}
use Rattle.grid_network.specs.inside.Steps.{row_of_segment}
use Rattle.grid_network.proofs.Moved.{made_sorted}
use Rattle.grid_network.proofs.Ordered.{in_order}
use Rattle.grid_network.proofs.row.rows.Goals as goal

pub returns : goal.returns
returns c d tech keys grid layers lists nodes told =
    let made = made_sorted (row_of_segment keys) (IsSegment d tech) c.in_ok-rows.rows.items c.sort_unstable.new.self.items c.sort_unstable.ensures.permutation (c.in_ok-rows.ensures d tech keys grid layers lists told) in
    let up : IsSortedBy (λ q r. is_lt (row_ord.ghosts.cmp q r)) c.sort_unstable.new.self.items = c.sort_unstable.ensures.sorted in (
      made.0,
      made.1,
      record {
        all = made.2;
        once = made.3;
        in_order = in_order d tech keys nodes told.once made.0 made.2 made.3 (subst (λ (l : List Row). IsSortedBy (λ q r. is_lt (row_ord.ghosts.cmp q r)) l) made.1 up);
      },
    )
