-- The box of a macro lies near 0.
use Rattle.std.proofs.Common.{◌≡◌, ℤ, pos, ◌+ℤ◌, ◌-ℤ◌, ◌≤ℤ◌, w64, to_z, of_z, arith}
use Rattle.std.specs.Int.{int_max, int_min}
use Rattle.std.proofs.lemmas.Int.{ints, clamps}
use Rattle.geom_rect.specs.declared.direction.Orient.{Orient}
use Rattle.geom_rect.specs.declared.direction.Orient.TheVariants.{N, S, W, E, FN, FS, FW, FE}
use Rattle.geom_rect.specs.declared.rect.Rect.{Rect}
use Rattle.macro_turns.specs.declared.turned.Placed.{Placed}
use Rattle.macro_turns.specs.declared.turned.Point.{Point}
use Rattle.macro_turns.specs.Turns.{from_edge, turned, moved, spanned, box_in_place}
use Rattle.macro_turns.specs.Limits.{RectKeeps}
use Rattle.block_grids.specs.declared.halo.Halo.{Halo}
use Rattle.placed_blocks.specs.Placed.{grown_by}
use Rattle.placed_blocks.specs.inside.Near.{IsSide, IsCorner, IsWithin, HaloKeeps, IsSmall, IsOutline}

abbrev IsSpan : ℤ → ℤ → Type 0
IsSpan a b = (a ≤ℤ b) × IsWithin a × IsWithin b

kept : (by size : ℤ) → IsCorner by → IsSide size → IsSpan (int_min (by +ℤ pos 0) (by +ℤ size)) (int_max (by +ℤ pos 0) (by +ℤ size))
kept by size at is = (omega (arith, ints, clamps), (omega (arith, ints, clamps), omega (arith, ints, clamps)), (omega (arith, ints, clamps), omega (arith, ints, clamps)))

round : (by size : ℤ) → IsCorner by → IsSide size
    → IsSpan (int_min (by +ℤ from_edge size (pos 0)) (by +ℤ from_edge size size)) (int_max (by +ℤ from_edge size (pos 0)) (by +ℤ from_edge size size))
round by size at is = (omega (arith, ints, clamps), (omega (arith, ints, clamps), omega (arith, ints, clamps)), (omega (arith, ints, clamps), omega (arith, ints, clamps)))

abbrev box_of : Orient → ℤ → ℤ → Point → Rect
box_of o w h by = spanned (moved by (turned o w h (record { x = pos 0; y = pos 0 }))) (moved by (turned o w h (record { x = w; y = h })))

abbrev Spans : Rect → Type 0
Spans r = IsSpan r.x1 r.x2 × IsSpan r.y1 r.y2

spans : (o : Orient) (w h : ℤ) (by : Point) → IsCorner by.x → IsCorner by.y → IsSide w → IsSide h → Spans (box_of o w h by)
spans N w h by x y wide high = (kept by.x w x wide, kept by.y h y high)
spans S w h by x y wide high = (round by.x w x wide, round by.y h y high)
spans W w h by x y wide high = (round by.x h x high, kept by.y w y wide)
spans E w h by x y wide high = (kept by.x h x high, round by.y w y wide)
spans FN w h by x y wide high = (round by.x w x wide, kept by.y h y high)
spans FS w h by x y wide high = (kept by.x w x wide, round by.y h y high)
spans FW w h by x y wide high = (kept by.x h x high, kept by.y w y wide)
spans FE w h by x y wide high = (round by.x h x high, round by.y w y wide)

pub is_outline : (m : Placed) → IsSmall m → IsOutline (box_in_place m)
is_outline m small =
    let are = spans m.orient m.width m.height m.corner small.x small.y small.width small.height in
    record { in_order = (are.0.0, are.1.0); x1 = are.0.1; y1 = are.1.1; x2 = are.0.2; y2 = are.1.2 }

-- ## grown

abbrev down : ℤ → ℤ → ℤ
down a b = to_z w64 (of_z w64 (to_z w64 (of_z w64 a) -ℤ to_z w64 (of_z w64 b)))

abbrev up : ℤ → ℤ → ℤ
up a b = to_z w64 (of_z w64 (to_z w64 (of_z w64 a) +ℤ to_z w64 (of_z w64 b)))

down_is : (a b : ℤ) → IsWithin a → IsSide b → down a b ≡ (a -ℤ b)
down_is a b at is = omega (arith, ints)

up_is : (a b : ℤ) → IsWithin a → IsSide b → up a b ≡ (a +ℤ b)
up_is a b at is = omega (arith, ints)

-- The rectangle by the machine's numbers.
abbrev pub machine_grown : Halo → Rect → Rect
machine_grown halo r = record { x1 = down r.x1 halo.left; y1 = down r.y1 halo.bottom; x2 = up r.x2 halo.right; y2 = up r.y2 halo.top }

pub grown_is : (halo : Halo) (r : Rect) → HaloKeeps halo → IsOutline r → machine_grown halo r ≡ grown_by halo r
grown_is halo r keeps is = λ i. record {
  x1 = down_is r.x1 halo.left is.x1 keeps.left i;
  y1 = down_is r.y1 halo.bottom is.y1 keeps.bottom i;
  x2 = up_is r.x2 halo.right is.x2 keeps.right i;
  y2 = up_is r.y2 halo.top is.y2 keeps.top i;
}

pub grown_keeps : (halo : Halo) (r : Rect) → HaloKeeps halo → IsOutline r → RectKeeps (grown_by halo r)
grown_keeps halo r keeps is =
    let left = keeps.left in
    let bottom = keeps.bottom in
    let right = keeps.right in
    let top = keeps.top in
    let order = is.in_order in
    let x1 = is.x1 in
    let y1 = is.y1 in
    let x2 = is.x2 in
    let y2 = is.y2 in
    record {
      in_order = (omega (arith, ints), omega (arith, ints));
      x1 = (omega (arith, ints), omega (arith, ints));
      y1 = (omega (arith, ints), omega (arith, ints));
      x2 = (omega (arith, ints), omega (arith, ints));
      y2 = (omega (arith, ints), omega (arith, ints));
    }

pub outline_keeps : (r : Rect) → IsOutline r → RectKeeps r
outline_keeps r is =
    let x1 = is.x1 in
    let y1 = is.y1 in
    let x2 = is.x2 in
    let y2 = is.y2 in
    record {
      in_order = is.in_order;
      x1 = (omega (arith, ints), omega (arith, ints));
      y1 = (omega (arith, ints), omega (arith, ints));
      x2 = (omega (arith, ints), omega (arith, ints));
      y2 = (omega (arith, ints), omega (arith, ints));
    }
