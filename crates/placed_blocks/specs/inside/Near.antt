-- Blocks and their outlines lie near 0, and halos are not wide.
use Rattle.std.specs.Prelude.{ℤ, pos, neg_ℤ, ◌≤ℤ◌}
use Rattle.geom_rect.specs.declared.rect.Rect.{Rect}
use Rattle.geom_rect.specs.Rect.{IsInOrder}
use Rattle.def_design.specs.Limits.{IsNear}
use Rattle.macro_turns.specs.declared.turned.Placed.{Placed}
use Rattle.block_grids.specs.declared.block.BlockAt.{BlockAt}
use Rattle.block_grids.specs.declared.halo.Halo.{Halo}

-- At most 100 mm, in units.
abbrev pub IsSide : ℤ → Type 0
IsSide z = (pos 0 ≤ℤ z) × (z ≤ℤ pos 2000000000)

pub record HaloKeeps (halo : Halo) : Type 0 where
  pub left : IsSide halo.left
  pub bottom : IsSide halo.bottom
  pub right : IsSide halo.right
  pub top : IsSide halo.top

pub record AtKeeps (at : BlockAt) : Type 0 where
  pub x : IsNear at.x
  pub y : IsNear at.y

-- At most 2^32 from 0.
abbrev pub IsWithin : ℤ → Type 0
IsWithin z = (neg_ℤ (pos 4294967296) ≤ℤ z) × (z ≤ℤ pos 4294967296)

-- At most 2^31 from 0.
abbrev pub IsCorner : ℤ → Type 0
IsCorner z = (neg_ℤ (pos 2147483648) ≤ℤ z) × (z ≤ℤ pos 2147483648)

pub record IsSmall (m : Placed) : Type 0 where
  pub x : IsCorner m.corner.x
  pub y : IsCorner m.corner.y
  pub width : IsSide m.width
  pub height : IsSide m.height

pub record IsOutline (rect : Rect) : Type 0 where
  pub in_order : IsInOrder rect
  pub x1 : IsWithin rect.x1
  pub y1 : IsWithin rect.y1
  pub x2 : IsWithin rect.x2
  pub y2 : IsWithin rect.y2
