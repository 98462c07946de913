-- Which voltage domain owns a row or a component (OpenROAD PDN manual, set_voltage_domain -region; LEF/DEF 5.8 Language
-- Reference, REGIONS).
use Rattle.std.specs.Prelude.{◌≡◌, ℕ, ℤ, ◌≤ℤ◌, Bool, true, false, not, ◌&&◌, int_lt, int_le, ◌<◌, List, filter, length, slice_index_or, Option, Some, None}
use Rattle.std.specs.List.{list_any}
use Rattle.geom_rect.specs.Rect.{ShareArea}
use Rattle.geom_rect.specs.declared.rect.Rect.{Rect}
use Rattle.rail_layout.specs.declared.row.RowBox.{RowBox}

-- The first rectangle lies in the second one, edges included.
abbrev pub LiesIn : Rect → Rect → Type 0
LiesIn inner outer = (outer.x1 ≤ℤ inner.x1) × (outer.y1 ≤ℤ inner.y1) × (inner.x2 ≤ℤ outer.x2)
    × (inner.y2 ≤ℤ outer.y2)

-- The test of it, on each axis.
abbrev pub lies_within : ℤ → ℤ → ℤ → ℤ → Bool
lies_within low high from to = int_le from low && int_le high to

abbrev pub lies_in : Rect → Rect → Bool
lies_in inner outer = lies_within inner.x1 inner.x2 outer.x1 outer.x2 && lies_within inner.y1 inner.y2 outer.y1 outer.y2

-- The rectangle lies in the region of a domain that has one.
abbrev pub in_region : Rect → Option Rect → Bool
in_region box None = false
in_region box (Some region) = lies_in box region

-- A place is in a rectangle that has its left and its lower edge, and not its right and its upper one.
abbrev pub is_from : ℤ → ℤ → ℤ → Bool
is_from low high z = int_le low z && int_lt z high

abbrev pub is_place_of : ℤ → ℤ → Rect → Bool
is_place_of x y region = is_from region.x1 region.x2 x && is_from region.y1 region.y2 y

abbrev pub has_place : ℤ × ℤ → Option Rect → Bool
has_place (x, y) None = false
has_place (x, y) (Some region) = is_place_of x y region

-- A domain with a region has what lies there; one without has what lies in none of the regions.
abbrev pub has : (Option Rect → Bool) → List (Option Rect) → Option Rect → Bool
has lies regions None = not (list_any lies regions)
has lies regions (Some region) = lies (Some region)

-- The domain with this region owns a row with this box, where these are the regions of all domains.
abbrev pub owns_row : List (Option Rect) → Option Rect → Rect → Bool
owns_row regions region box = has (in_region box) regions region

-- It owns a component that is placed there.
abbrev pub owns_place : List (Option Rect) → Option Rect → ℤ × ℤ → Bool
owns_place regions region place = has (has_place place) regions region

-- The rows of the domain.
abbrev pub rows_of : List (Option Rect) → Option Rect → List RowBox → List RowBox
rows_of regions region rows = filter (λ (row : RowBox). owns_row regions region row.rect) rows

-- A row lies across a region: they share an area, and the row does not lie in it.
abbrev pub LiesAcross : Rect → Rect → Type 0
LiesAcross box region = ShareArea box region × (lies_in box region ≡ false)

-- The first of the domains that owns what is placed there.
pub record IsFirstOwner (regions : List (Option Rect)) (place : ℤ × ℤ) (k : ℕ) : Type 0 where
  pub within : k < length regions
  pub owns : owns_place regions (slice_index_or regions k None) place ≡ true
  pub first : (j : ℕ) → j < k → owns_place regions (slice_index_or regions j None) place ≡ false
