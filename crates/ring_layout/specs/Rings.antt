-- The rings around a core (OpenROAD PDN manual, add_pdn_ring: -widths, -spacings, -core_offsets, -nets).
use Rattle.std.specs.Prelude.{ℕ, ℤ, pos, ◌+ℤ◌, ◌-ℤ◌, ◌*ℤ◌, ◌<◌, List, [], ◌∷◌, All, length, slice_index}
use Rattle.std.specs.List.{flat_map, range_with_len}
use Rattle.geom_rect.specs.declared.direction.Axis.TheVariants.{X, Y}
use Rattle.geom_rect.specs.declared.drawn.Drawn.{Drawn}
use Rattle.geom_rect.specs.declared.drawn.Shape.TheVariants.{Ring}
use Rattle.geom_rect.specs.declared.rect.Rect.{Rect}
use Rattle.geom_rect.specs.Drawn.{half, drawn_rect}
use Rattle.geom_rect.specs.Rect.{HasCoordinates}
use Rattle.ring_layout.specs.declared.rule.RingRule.{RingRule}

-- What the sides of the nets up to the one at a place take of their layer, from the innermost side's inner edge to its
-- own outer edge: a width and a spacing for each net further in, and a width.
abbrev pub taken : ℕ → ℤ → ℤ → ℤ
taken place width spacing = pos place *ℤ (width +ℤ spacing) +ℤ width

-- the outer edges of the ring of the net at a place, counted from the innermost
abbrev pub outer_edges : RingRule → Rect → ℕ → Rect
outer_edges rule core place = record {
  x1 = core.x1 -ℤ rule.left -ℤ taken place rule.width_v rule.spacing_v;
  y1 = core.y1 -ℤ rule.bottom -ℤ taken place rule.width_h rule.spacing_h;
  x2 = core.x2 +ℤ rule.right +ℤ taken place rule.width_v rule.spacing_v;
  y2 = core.y2 +ℤ rule.top +ℤ taken place rule.width_h rule.spacing_h;
}

-- a left or right side, from the outer edge of the lower side up to that of the upper one
abbrev pub vertical_side : RingRule → ℕ → Rect → ℤ → Drawn
vertical_side rule net outer centre = record {
  net = net;
  layer = rule.vertical;
  axis = Y;
  centre = centre;
  width = rule.width_v;
  from = outer.y1;
  to = outer.y2;
  shape = Ring;
}

-- a lower or upper side, from the outer edge of the left side to that of the right one
abbrev pub horizontal_side : RingRule → ℕ → Rect → ℤ → Drawn
horizontal_side rule net outer centre = record {
  net = net;
  layer = rule.horizontal;
  axis = X;
  centre = centre;
  width = rule.width_h;
  from = outer.x1;
  to = outer.x2;
  shape = Ring;
}

-- the left, the lower, the right and the upper side of a ring with these outer edges
abbrev pub sides_within : RingRule → ℕ → Rect → List Drawn
sides_within rule net outer =
    vertical_side rule net outer (outer.x1 +ℤ half rule.width_v)
    ∷ horizontal_side rule net outer (outer.y1 +ℤ half rule.width_h)
    ∷ vertical_side rule net outer (outer.x2 -ℤ half rule.width_v)
    ∷ horizontal_side rule net outer (outer.y2 -ℤ half rule.width_h)
    ∷ []

-- the sides of the ring of the net at a place
abbrev pub sides_of : RingRule → Rect → ℕ → List Drawn
sides_of rule core place = sides_within rule (slice_index rule.nets place) (outer_edges rule core place)

-- the sides of all rings of a rule, net after net
abbrev pub rings_of : RingRule → Rect → List Drawn
rings_of rule core = flat_map (sides_of rule core) (range_with_len 0 (length rule.nets))

-- each side has its edges at coordinates
abbrev pub LieAtCoordinates : List Drawn → Type 0
LieAtCoordinates sides = All (λ (side : Drawn). HasCoordinates (drawn_rect side)) sides

-- each side of each net's ring has them there
abbrev pub FitDrawing : RingRule → Rect → Type 0
FitDrawing rule core = (place : ℕ) → place < length rule.nets → LieAtCoordinates (sides_of rule core place)
