-- A stack of a drawing stands at the crossing of two pieces, on the centre lines of both.
use Rattle.std.proofs.Common.{◌≡◌, inl, inr, ℕ, pos, ◌≤ℤ◌, ◌+ℤ◌, ◌-ℤ◌, List, refl, sym, ap, ◌∙◌, subst, arith}
use Rattle.std.specs.Prelude.{Contains}
use Rattle.std.specs.Int.{int_max, int_min}
use Rattle.std.proofs.lemmas.Int.{ints, clamps}
use Rattle.geom_rect.specs.declared.direction.Axis.TheVariants.{X, Y}
use Rattle.geom_rect.specs.declared.rect.Rect.{Rect}
use Rattle.geom_rect.specs.declared.run.Run.{Run}
use Rattle.geom_rect.specs.Drawn.{half, centred, strip}
use Rattle.geom_rect.specs.Rect.{HasPoint}
use Rattle.grid_pieces.specs.declared.piece.Piece.{Piece}
use Rattle.grid_pieces.specs.Laws.Geometry.{half_within}
use Rattle.grid_pieces.specs.Limits.{PieceKeeps}
use Rattle.grid_pieces.specs.Line.{piece_rect, across}
use Rattle.grid_stacks.specs.declared.connect.Connect.{Connect}
use Rattle.grid_stacks.specs.declared.connect.Site.{Site}
use Rattle.grid_stacks.specs.Crossing.{common, crossing_of, Joins, Cross, site_of}
use Rattle.wire_pieces.specs.Centre.{along_of, across_of, IsOnCentre, IsHeld}

-- half of a width is not below 0
half_up : (p : Piece) → PieceKeeps p → pos 0 ≤ℤ half p.width
half_up p keeps = let low = keeps.0.0 in (half_within p.width (omega (arith, ints, low))).0

-- The lower and the upper end of a stack of a site lie on centre lines, and its rectangle has its place.
pub record IsPlaced (pieces : List Piece) (site : Site) : Type 0 where
  pub low : IsHeld pieces site.net site.from site.x site.y
  pub high : IsHeld pieces site.net site.to site.x site.y
  pub has : HasPoint site.crossing site.x site.y

module _ (connect : Connect) (flat upright : Piece) (cross : Cross connect flat upright) (flat_keeps : PieceKeeps flat) (upright_keeps : PieceKeeps upright) where
  abbrev flat_rect : Rect
  flat_rect = strip X flat.from flat.to (flat.centre -ℤ half flat.width) (flat.centre +ℤ half flat.width)

  abbrev upright_rect : Rect
  upright_rect = strip Y upright.from upright.to (upright.centre -ℤ half upright.width) (upright.centre +ℤ half upright.width)

  flat_is : piece_rect flat ≡ flat_rect
  flat_is i = centred (cross.horizontal i) flat.centre flat.width flat.from flat.to

  upright_is : piece_rect upright ≡ upright_rect
  upright_is i = centred (cross.vertical i) upright.centre upright.width upright.from upright.to

  -- the crossing has the width of the upright piece, which lies within the flat one
  width_x : across Y (common flat_rect upright_rect) ≡ across Y upright_rect
  width_x = sym (λ i. across (cross.vertical i) (common (flat_is i) (upright_is i))) ∙ cross.upright_width ∙ (λ i. across (cross.vertical i) (upright_is i))

  width_y : across X (common flat_rect upright_rect) ≡ across X flat_rect
  width_y = sym (λ i. across (cross.horizontal i) (common (flat_is i) (upright_is i))) ∙ cross.flat_width ∙ (λ i. across (cross.horizontal i) (flat_is i))

  within_x : (flat.from ≤ℤ upright.centre) × (upright.centre ≤ℤ flat.to)
  within_x =
      let low : int_max flat.from (upright.centre -ℤ half upright.width) ≡ (upright.centre -ℤ half upright.width) = ap (λ (r : Run). r.from) width_x in
      let high : int_min flat.to (upright.centre +ℤ half upright.width) ≡ (upright.centre +ℤ half upright.width) = ap (λ (r : Run). r.to) width_x in
      let wide = half_up upright upright_keeps in
      (omega (arith, ints, clamps, low, wide), omega (arith, ints, clamps, high, wide))

  within_y : (upright.from ≤ℤ flat.centre) × (flat.centre ≤ℤ upright.to)
  within_y =
      let low : int_max (flat.centre -ℤ half flat.width) upright.from ≡ (flat.centre -ℤ half flat.width) = ap (λ (r : Run). r.from) width_y in
      let high : int_min (flat.centre +ℤ half flat.width) upright.to ≡ (flat.centre +ℤ half flat.width) = ap (λ (r : Run). r.to) width_y in
      let wide = half_up flat flat_keeps in
      (omega (arith, ints, clamps, low, wide), omega (arith, ints, clamps, high, wide))

  pub flat_has : HasPoint (piece_rect flat) upright.centre flat.centre
  flat_has =
      let wide = half_up flat flat_keeps in
      subst (λ r. HasPoint r upright.centre flat.centre) (sym flat_is) (within_x, (omega (arith, ints, wide), omega (arith, ints, wide)))

  pub upright_has : HasPoint (piece_rect upright) upright.centre flat.centre
  upright_has =
      let wide = half_up upright upright_keeps in
      subst (λ r. HasPoint r upright.centre flat.centre) (sym upright_is) ((omega (arith, ints, wide), omega (arith, ints, wide)), within_y)

  crossing_has : HasPoint (crossing_of flat upright) upright.centre flat.centre
  crossing_has =
      let ((a, b), (c, d)) = flat_has in
      let ((e, f), (g, h)) = upright_has in
      ((omega (arith, ints, clamps, a, e), omega (arith, ints, clamps, b, f)), (omega (arith, ints, clamps, c, g), omega (arith, ints, clamps, d, h)))

  flat_on : (layer : ℕ) → flat.layer ≡ layer → IsOnCentre flat.net layer upright.centre flat.centre flat
  flat_on layer on = record {
    of_net = refl;
    on_layer = on;
    across = sym (ap (λ a. across_of a upright.centre flat.centre) cross.horizontal);
    from = subst (λ a. flat.from ≤ℤ along_of a upright.centre flat.centre) (sym cross.horizontal) within_x.0;
    to = subst (λ a. along_of a upright.centre flat.centre ≤ℤ flat.to) (sym cross.horizontal) within_x.1;
  }

  upright_on : (layer : ℕ) → upright.layer ≡ layer → IsOnCentre flat.net layer upright.centre flat.centre upright
  upright_on layer on = record {
    of_net = sym cross.net;
    on_layer = on;
    across = sym (ap (λ a. across_of a upright.centre flat.centre) cross.vertical);
    from = subst (λ a. upright.from ≤ℤ along_of a upright.centre flat.centre) (sym cross.vertical) within_y.0;
    to = subst (λ a. along_of a upright.centre flat.centre ≤ℤ upright.to) (sym cross.vertical) within_y.1;
  }

  pub placed : (pieces : List Piece) → Contains pieces flat → Contains pieces upright → Joins connect flat upright → IsPlaced pieces (site_of connect flat upright)
  placed pieces in_flat in_upright (inl (low, high)) = record {
    low = (flat, in_flat, flat_on connect.from low);
    high = (upright, in_upright, upright_on connect.to high);
    has = crossing_has;
  }
  placed pieces in_flat in_upright (inr (high, low)) = record {
    low = (upright, in_upright, upright_on connect.from low);
    high = (flat, in_flat, flat_on connect.to high);
    has = crossing_has;
  }
