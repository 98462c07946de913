-- Crossings are as narrow as the pieces that cross.
use Rattle.std.proofs.Common.{◌≡◌, ◌<◌, ◌^◌, ℤ, pos, negsuc, ◌+ℤ◌, ◌-ℤ◌, ◌≤ℤ◌, sym, subst, ap, arith}
use Rattle.std.specs.Prelude.{unsigned_abs, ◌<ℤ◌}
use Rattle.std.proofs.lemmas.Int.{ints}
use Rattle.geom_rect.specs.Drawn.{half, centred}
use Rattle.geom_rect.specs.declared.direction.Axis.{Axis}
use Rattle.geom_rect.specs.declared.direction.Axis.TheVariants.{X, Y}
use Rattle.geom_rect.specs.declared.rect.Rect.{Rect}
use Rattle.geom_rect.specs.declared.run.Run.{Run}
use Rattle.lef_tech.specs.declared.tech.Tech.{Tech}
use Rattle.via_arrays.specs.Extents.{extent}
use Rattle.grid_pieces.specs.declared.grid.Grid.{Grid}
use Rattle.grid_pieces.specs.declared.piece.Piece.{Piece}
use Rattle.grid_pieces.specs.Line.{across}
use Rattle.grid_stacks.specs.Crossing.{HasWidth}
use Rattle.grid_shapes.specs.Drawing.{PieceStands}

across_x : (axis : Axis) (centre width from to : ℤ) (r : Rect) → axis ≡ X → across axis r ≡ across axis (centred axis centre width from to)
    → (r.y1 ≡ centre -ℤ half width) × (r.y2 ≡ centre +ℤ half width)
across_x X centre width from to r is same = (ap (λ (q : Run). q.from) same, ap (λ (q : Run). q.to) same)
across_x Y centre width from to r is same = absurd (cc)

across_y : (axis : Axis) (centre width from to : ℤ) (r : Rect) → axis ≡ Y → across axis r ≡ across axis (centred axis centre width from to)
    → (r.x1 ≡ centre -ℤ half width) × (r.x2 ≡ centre +ℤ half width)
across_y X centre width from to r is same = absurd (cc)
across_y Y centre width from to r is same = (ap (λ (q : Run). q.from) same, ap (λ (q : Run). q.to) same)

narrow : (low high centre side width : ℤ) → low ≡ centre -ℤ side → high ≡ centre +ℤ side → width ≡ side +ℤ side → pos 2 ≤ℤ width → width <ℤ pos (2 ^ 32)
    → unsigned_abs (high -ℤ low) < 2 ^ 32
narrow low high centre side width is_low is_high is_width least most =
    let gap : high -ℤ low ≡ width = omega (arith, ints) in
    subst (λ z. unsigned_abs z < 2 ^ 32) (sym gap) (small width least most)
  where
    small : (z : ℤ) → pos 2 ≤ℤ z → z <ℤ pos (2 ^ 32) → unsigned_abs z < 2 ^ 32
    small (pos n) low high = omega (arith, ints)
    small (negsuc n) low high = absurd (omega (arith, ints))

pub narrow_x : (tech : Tech) (grid : Grid) (p : Piece) (r : Rect) → PieceStands tech grid p → p.axis ≡ Y → HasWidth r p → extent X r < 2 ^ 32
narrow_x tech grid p r stands is wide =
    let at = across_y p.axis p.centre p.width p.from p.to r is wide in
    narrow r.x1 r.x2 p.centre (half p.width) p.width at.0 at.1 stands.even stands.keeps.0.0 stands.keeps.0.1

pub narrow_y : (tech : Tech) (grid : Grid) (p : Piece) (r : Rect) → PieceStands tech grid p → p.axis ≡ X → HasWidth r p → extent Y r < 2 ^ 32
narrow_y tech grid p r stands is wide =
    let at = across_x p.axis p.centre p.width p.from p.to r is wide in
    narrow r.y1 r.y2 p.centre (half p.width) p.width at.0 at.1 stands.even stands.keeps.0.0 stands.keeps.0.1
