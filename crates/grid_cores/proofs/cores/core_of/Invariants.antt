use Rattle.std.proofs.Common.{ℕ, ◌<◌, get_or}
use Rattle.geom_rect.specs.declared.rect.Rect.{Rect}
use Rattle.rail_layout.specs.declared.row.RowBox.{RowBox}
use Rattle.grid_cores.specs.Owner.{LiesIn}
use Rattle.grid_cores.specs.Core.{HoldsRows}
use Rattle.grid_cores.proofs.cores.core_of.Given as goal

abbrev pub invariant-loop-row : goal.invariant-loop-row
invariant-loop-row l = record {
  holds : (k : ℕ) (d : RowBox) → k < l.row-index → LiesIn (get_or l.rows k d).rect l.core;
  smallest : (other : Rect) → HoldsRows l.rows other → LiesIn l.core other;
}
