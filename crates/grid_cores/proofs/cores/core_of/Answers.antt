use Rattle.std.proofs.Common.{◌≡◌, ℕ, ◌+◌, ◌<◌, pos, false, get_or, subst, sym}
use Rattle.geom_rect.specs.declared.rect.Rect.{Rect}
use Rattle.rail_layout.specs.declared.row.RowBox.{RowBox}
use Rattle.grid_cores.specs.Core.{HoldsRows}
use Rattle.grid_cores.specs.Owner.{LiesIn}
use Rattle.grid_cores.specs.inside.Core.{join}
use Rattle.grid_cores.proofs.Joined.{held_more, join_least}
use Rattle.grid_cores.proofs.cores.core_of.Goals as goal

-- What a read past a list gives.
abbrev nothing : RowBox
nothing = record { rect = record { x1 = pos 0; y1 = pos 0; x2 = pos 0; y2 = pos 0 }; flipped = false }

pub loop-row-preserved : goal.loop-row-preserved
loop-row-preserved c =
    let rows = c.args.rows.now in
    let i = c.loop-row.row-index in
    let core = c.loop-row.core in
    let row = get_or rows i nothing in
    let is : c.join-core.result ≡ join core row.rect = c.join-core.ensures in
    record {
      holds = subst (λ (r : Rect). (k : ℕ) (e : RowBox) → k < i + 1 → LiesIn (get_or rows k e).rect r) (sym is)
          (held_more rows i nothing core c.loop-row-test.true c.loop-row.invariant.holds);
      smallest = subst (λ (r : Rect). (other : Rect) → HoldsRows rows other → LiesIn r other) (sym is)
          (λ other holds. join_least core row.rect other (c.loop-row.invariant.smallest other holds) (holds i nothing c.loop-row-test.true));
    }
