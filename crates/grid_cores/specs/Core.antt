-- The core of a voltage domain, and the reach of the straps over it (OpenROAD PDN manual, define_pdn_grid).
use Rattle.std.specs.Prelude.{ℤ, ◌+ℤ◌, ◌-ℤ◌, List, All}
use Rattle.geom_rect.specs.declared.direction.Axis.{Axis}
use Rattle.geom_rect.specs.declared.direction.Axis.TheVariants.{X, Y}
use Rattle.geom_rect.specs.declared.rect.Rect.{Rect}
use Rattle.geom_rect.specs.declared.run.Run.{Run}
use Rattle.geom_rect.specs.Drawn.{half}
use Rattle.rail_layout.specs.declared.row.RowBox.{RowBox}
use Rattle.grid_cores.specs.Owner.{LiesIn}

-- All rows lie in the rectangle.
abbrev pub HoldsRows : List RowBox → Rect → Type 0
HoldsRows rows outer = All (λ (row : RowBox). LiesIn row.rect outer) rows

-- The core: the smallest rectangle that holds the rows.
pub record IsCore (rows : List RowBox) (core : Rect) : Type 0 where
  pub holds : HoldsRows rows core
  pub smallest : (other : Rect) → HoldsRows rows other → LiesIn core other

-- The reach of a horizontal strap is the core; that of a vertical one goes half of the widest rail further at each end.
abbrev pub strap_reach : Axis → ℤ → Rect → Run
strap_reach X rail core = record { from = core.x1; to = core.x2 }
strap_reach Y rail core = record { from = core.y1 -ℤ half rail; to = core.y2 +ℤ half rail }
