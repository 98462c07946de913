-- Coordinates of macros in units, and rectangles in their places.
use Rattle.std.proofs.Common.{◌≡◌, ℕ, suc, ◌≤◌, ◌<◌, ◌*◌, ℤ, pos, negsuc, neg_ℤ, ◌+ℤ◌, ◌-ℤ◌, ◌*ℤ◌, ◌≤ℤ◌, ◌<ℤ◌, unsigned_abs, arith}
use Rattle.std.specs.Int.{int_max, int_min}
use Rattle.std.proofs.lemmas.Int.{ints, clamps}
use Rattle.rounding.specs.Laws.{times_le, floor_is}
use Rattle.rounding.specs.Rounding.{floor_div}
use Rattle.geom_rect.specs.declared.direction.Orient.{Orient}
use Rattle.geom_rect.specs.declared.direction.Orient.TheVariants.{N, S, W, E, FN, FS, FW, FE}
use Rattle.geom_rect.specs.declared.rect.Rect.{Rect}
use Rattle.geom_rect.specs.Rect.{IsInOrder, IsCoordinate, HasCoordinates}
use Rattle.via_arrays.specs.Lengths.{IsUnits}
use Rattle.macro_blocks.specs.declared.record.BlockRect.{BlockRect}
use Rattle.macro_blocks.specs.Limits.{IsNear, RectKeeps}
use Rattle.macro_turns.specs.declared.turned.Placed.{Placed}
use Rattle.macro_turns.specs.declared.turned.Point.{Point}
use Rattle.macro_turns.specs.Limits.{IsNear as NearPlace, IsLength, PointKeeps, PlacedKeeps, RectKeeps as TurnKeeps}
use Rattle.macro_turns.specs.Turns.{from_edge, turned, moved, spanned, rect_in_place}
use Rattle.block_rects.specs.Placed.{in_units, rect_in_units}
use Rattle.block_rects.specs.inside.Bounds.{IsWithin, IsSmall}

abbrev pub IsFar : ℤ → Type 0
IsFar z = (neg_ℤ (pos 100000000000) ≤ℤ z) × (z ≤ℤ pos 100000000000)

far_of : (z : ℤ) → IsNear z → IsFar z
far_of (pos a) near = (omega (arith, ints), omega (arith, ints))
far_of (negsuc a) near = (omega (arith, ints), omega (arith, ints))

-- The product and the quotient are within their limits.
pub in_range : (units : ℕ) (z : ℤ) → IsUnits units → IsNear z → IsWithin (in_units units z)
in_range units z is near =
    let far = far_of z near in
    let floor = floor_is (pos units *ℤ z) (pos 1000000) (omega (arith, ints)) in
    let above = times_le (pos units) z (pos 100000000000) (omega (arith, ints)) far.1 in
    let below = times_le (pos units) (neg_ℤ (pos 100000000000)) z (omega (arith, ints)) far.0 in
    within units (pos units *ℤ z) (in_units units z) is.1 below above floor.reached floor.next_is_above
  where
    within : (u : ℕ) (p f : ℤ) → u ≤ 20000 → (pos u *ℤ neg_ℤ (pos 100000000000)) ≤ℤ p → p ≤ℤ (pos u *ℤ pos 100000000000)
        → (pos 1000000 *ℤ f) ≤ℤ p → p <ℤ (pos 1000000 *ℤ (f +ℤ pos 1)) → IsWithin f
    within u p f few below above reached next = (omega (arith, ints), omega (arith, ints))

-- It grows with the coordinate.
pub in_order : (units : ℕ) (a b : ℤ) → a ≤ℤ b → in_units units a ≤ℤ in_units units b
in_order units a b le =
    let one = floor_is (pos units *ℤ a) (pos 1000000) (omega (arith, ints)) in
    let other = floor_is (pos units *ℤ b) (pos 1000000) (omega (arith, ints)) in
    rises (pos units *ℤ a) (pos units *ℤ b) (in_units units a) (in_units units b) (times_le (pos units) a b (omega (arith, ints)) le)
    one.reached other.next_is_above
  where
    rises : (p q f g : ℤ) → p ≤ℤ q → (pos 1000000 *ℤ f) ≤ℤ p → q <ℤ (pos 1000000 *ℤ (g +ℤ pos 1)) → f ≤ℤ g
    rises p q f g le reached next = omega (arith, ints)

pub rect_keeps : (units : ℕ) (rect : BlockRect) → IsUnits units → RectKeeps rect → TurnKeeps (rect_in_units units rect)
rect_keeps units rect is keeps =
    let x1 = in_range units rect.x1 is keeps.x1 in
    let y1 = in_range units rect.y1 is keeps.y1 in
    let x2 = in_range units rect.x2 is keeps.x2 in
    let y2 = in_range units rect.y2 is keeps.y2 in
    record {
      in_order = (in_order units rect.x1 rect.x2 keeps.wide, in_order units rect.y1 rect.y2 keeps.high);
      x1 = (omega (arith, ints), omega (arith, ints));
      y1 = (omega (arith, ints), omega (arith, ints));
      x2 = (omega (arith, ints), omega (arith, ints));
      y2 = (omega (arith, ints), omega (arith, ints));
    }

pub rect_is_small : (units : ℕ) (rect : BlockRect) → IsUnits units → RectKeeps rect → IsSmall (rect_in_units units rect)
rect_is_small units rect is keeps =
    let x1 = in_range units rect.x1 is keeps.x1 in
    let y1 = in_range units rect.y1 is keeps.y1 in
    let x2 = in_range units rect.x2 is keeps.x2 in
    let y2 = in_range units rect.y2 is keeps.y2 in
    record { wide = omega (arith, ints); high = omega (arith, ints) }

-- ## turned

kept : (by a b : ℤ) → a ≤ℤ b → (b -ℤ a) <ℤ pos 4294967296
    → (int_max (by +ℤ a) (by +ℤ b) -ℤ int_min (by +ℤ a) (by +ℤ b)) <ℤ pos 4294967296
kept by a b le small = omega (arith, ints, clamps)

round : (by size a b : ℤ) → a ≤ℤ b → (b -ℤ a) <ℤ pos 4294967296
    → (int_max (by +ℤ from_edge size a) (by +ℤ from_edge size b) -ℤ int_min (by +ℤ from_edge size a) (by +ℤ from_edge size b)) <ℤ pos 4294967296
round by size a b le small = omega (arith, ints, clamps)

abbrev turned_rect : Orient → ℤ → ℤ → Point → Rect → Rect
turned_rect o w h by rect = spanned (moved by (turned o w h (record { x = rect.x1; y = rect.y1 }))) (moved by (turned o w h (record { x = rect.x2; y = rect.y2 })))

turned_is_small : (o : Orient) (w h : ℤ) (by : Point) (r : Rect) → IsInOrder r → IsSmall r → IsSmall (turned_rect o w h by r)
turned_is_small N w h by r le s = record { wide = kept by.x r.x1 r.x2 le.0 s.wide; high = kept by.y r.y1 r.y2 le.1 s.high }
turned_is_small S w h by r le s = record { wide = round by.x w r.x1 r.x2 le.0 s.wide; high = round by.y h r.y1 r.y2 le.1 s.high }
turned_is_small W w h by r le s = record { wide = round by.x h r.y1 r.y2 le.1 s.high; high = kept by.y r.x1 r.x2 le.0 s.wide }
turned_is_small E w h by r le s = record { wide = kept by.x r.y1 r.y2 le.1 s.high; high = round by.y w r.x1 r.x2 le.0 s.wide }
turned_is_small FN w h by r le s = record { wide = round by.x w r.x1 r.x2 le.0 s.wide; high = kept by.y r.y1 r.y2 le.1 s.high }
turned_is_small FS w h by r le s = record { wide = kept by.x r.x1 r.x2 le.0 s.wide; high = round by.y h r.y1 r.y2 le.1 s.high }
turned_is_small FW w h by r le s = record { wide = kept by.x r.y1 r.y2 le.1 s.high; high = kept by.y r.x1 r.x2 le.0 s.wide }
turned_is_small FE w h by r le s = record { wide = round by.x h r.y1 r.y2 le.1 s.high; high = round by.y w r.x1 r.x2 le.0 s.wide }

pub placed_is_small : (m : Placed) (r : Rect) → IsInOrder r → IsSmall r → IsSmall (rect_in_place m r)
placed_is_small m r le s = turned_is_small m.orient m.width m.height m.corner r le s

-- ## coordinates

abbrev pub IsTwice : ℤ → Type 0
IsTwice z = (neg_ℤ (pos 2199023255552) ≤ℤ z) × (z ≤ℤ pos 2199023255552)

twice_of : (o : Orient) (w h : ℤ) (p : Point) → IsLength w → IsLength h → PointKeeps p
    → IsTwice (turned o w h p).x × IsTwice (turned o w h p).y
twice_of N w h p wide high keeps = ((omega (arith, ints), omega (arith, ints)), (omega (arith, ints), omega (arith, ints)))
twice_of S w h p wide high keeps = ((omega (arith, ints), omega (arith, ints)), (omega (arith, ints), omega (arith, ints)))
twice_of W w h p wide high keeps = ((omega (arith, ints), omega (arith, ints)), (omega (arith, ints), omega (arith, ints)))
twice_of E w h p wide high keeps = ((omega (arith, ints), omega (arith, ints)), (omega (arith, ints), omega (arith, ints)))
twice_of FN w h p wide high keeps = ((omega (arith, ints), omega (arith, ints)), (omega (arith, ints), omega (arith, ints)))
twice_of FS w h p wide high keeps = ((omega (arith, ints), omega (arith, ints)), (omega (arith, ints), omega (arith, ints)))
twice_of FW w h p wide high keeps = ((omega (arith, ints), omega (arith, ints)), (omega (arith, ints), omega (arith, ints)))
twice_of FE w h p wide high keeps = ((omega (arith, ints), omega (arith, ints)), (omega (arith, ints), omega (arith, ints)))

reach : (a b c : ℤ) → NearPlace c → IsTwice a → IsTwice b
    → IsCoordinate (int_min (c +ℤ a) (c +ℤ b)) × IsCoordinate (int_max (c +ℤ a) (c +ℤ b))
reach a b c h k l = ((omega (arith, ints, clamps), omega (arith, ints, clamps)), (omega (arith, ints, clamps), omega (arith, ints, clamps)))

pub placed_at_coordinates : (m : Placed) (r : Rect) → PlacedKeeps m → TurnKeeps r → HasCoordinates (rect_in_place m r)
placed_at_coordinates m r keeps is =
    let a = turned m.orient m.width m.height (record { x = r.x1; y = r.y1 }) in
    let b = turned m.orient m.width m.height (record { x = r.x2; y = r.y2 }) in
    let first = twice_of m.orient m.width m.height (record { x = r.x1; y = r.y1 }) keeps.width keeps.height (record { x = is.x1; y = is.y1 }) in
    let last = twice_of m.orient m.width m.height (record { x = r.x2; y = r.y2 }) keeps.width keeps.height (record { x = is.x2; y = is.y2 }) in
    let x = reach a.x b.x m.corner.x keeps.corner.x first.0 last.0 in
    let y = reach a.y b.y m.corner.y keeps.corner.y first.1 last.1 in
    (x.0, y.0, x.1, y.1)

least : (a b : ℤ) → int_min a b ≤ℤ int_max a b
least a b = omega (arith, ints, clamps)

pub placed_in_order : (m : Placed) (r : Rect) → IsInOrder (rect_in_place m r)
placed_in_order m r =
    let a = moved m.corner (turned m.orient m.width m.height (record { x = r.x1; y = r.y1 })) in
    let b = moved m.corner (turned m.orient m.width m.height (record { x = r.x2; y = r.y2 })) in
    (least a.x b.x, least a.y b.y)
