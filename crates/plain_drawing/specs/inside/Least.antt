-- The least of touches.
use Rattle.std.specs.Prelude.{◌≡◌, ◌⊎◌, ℕ, ℤ, ◌<◌, false, if◌then◌else◌, List, Option, Some, None, MatchOption}
use Rattle.std.specs.Ordering.{is_gt}
use Rattle.geom_rect.specs.declared.direction.Axis.{Axis}
use Rattle.geom_rect.specs.declared.direction.Axis.TheVariants.{X, Y}
use Rattle.geom_rect.specs.Rect.{SharePoint}
use Rattle.grid_pieces.specs.declared.metal.Metal.{Metal}
use Rattle.grid_pieces.specs.declared.touch.Touching.{Touching}
use Rattle.grid_pieces.specs.Touch.{IsTouch, rect_order, touch_order}

-- A place by its x and y.
abbrev pub turned : Axis → ℤ → ℤ → ℤ × ℤ
turned X along across = (along, across)
turned Y along across = (across, along)

-- The least touch with a property, or that there is none.
abbrev pub IsLeast : (Touching → Type 0) → Option Touching → Type 0
IsLeast P answer = MatchOption answer ((t : Touching) → P t → ⊥)
    (λ t. P t × ((u : Touching) → P u → is_gt (touch_order t u) ≡ false))

-- Two of the metal touch, and the rectangle of the second does not come before that of the first.
abbrev pub TouchInOrder : Metal → Metal → Type 0
TouchInOrder one other = (one.layer ≡ other.layer) × SharePoint one.rect other.rect
    × (is_gt (rect_order one.rect other.rect) ≡ false)

-- A touch of the metal at these two places.
abbrev pub IsTouchAt : List Metal → ℕ → ℕ → Touching → Type 0
IsTouchAt all i j t = (w : IsTouch all t) × (w.i ≡ i) × (w.j ≡ j)

-- A touch of metal at an earlier place than i, or of that at i with metal at an earlier place than j.
abbrev pub IsTouchTo : List Metal → ℕ → ℕ → Touching → Type 0
IsTouchTo all i j t = (w : IsTouch all t) × ((w.i < i) ⊎ ((w.i ≡ i) × (w.j < j)))

-- The lesser of two touches.
abbrev pub lesser : Option Touching → Option Touching → Option Touching
lesser None b = b
lesser (Some a) None = Some a
lesser (Some a) (Some b) = if is_gt (touch_order a b) then Some b else Some a
