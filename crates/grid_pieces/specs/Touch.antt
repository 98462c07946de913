-- Metal that touches, by all pairs (this project).
use Rattle.std.specs.Prelude.{◌≡◌, ◌≢◌, ◌↔◌, ℕ, ◌+◌, ◌-◌, ◌<◌, false, IsTrue, Option, MatchOption, List, ◌++◌, map, length, slice_index_or}
use Rattle.std.specs.List.{flat_map, range_with_len}
use Rattle.std.specs.declared.cmp.Ordering.{Ordering}
use Rattle.std.specs.Ordering.{nat_cmp, int_cmp, bool_cmp, ordering_then, is_gt}
use Rattle.geom_rect.specs.Rect.{SharePoint}
use Rattle.geom_rect.specs.declared.rect.Rect.{Rect}
use Rattle.grid_pieces.specs.declared.metal.Metal.{Metal}
use Rattle.grid_pieces.specs.declared.piece.Piece.{Piece}
use Rattle.grid_pieces.specs.declared.piece.StackAt.{StackAt}
use Rattle.grid_pieces.specs.declared.touch.Touching.{Touching}
use Rattle.grid_pieces.specs.Line.{piece_rect}

-- A piece has its rectangle on its layer.
abbrev pub piece_metal : Piece → Metal
piece_metal p = record { layer = p.layer; rect = piece_rect p; net = p.net }

-- A stack has its crossing on a layer.
abbrev pub stack_metal : StackAt → ℕ → Metal
stack_metal s layer = record { layer = layer; rect = s.crossing; net = s.net }

-- The numbers above a and below b.
abbrev pub between : ℕ → ℕ → List ℕ
between a b = range_with_len (a + 1) (b - a - 1)

-- What lies on the layers: each piece, and each stack on each layer strictly inside it.
abbrev pub metal : List Piece → List StackAt → List Metal
metal pieces stacks = map piece_metal pieces ++ flat_map (λ s. map (stack_metal s) (between s.stack.from s.stack.to))
    stacks

-- Rectangles are compared by x1, y1, x2 and y2, in turn.
abbrev pub rect_order : Rect → Rect → Ordering
rect_order a b = ordering_then
    (ordering_then (ordering_then (int_cmp a.x1 b.x1) (int_cmp a.y1 b.y1)) (int_cmp a.x2 b.x2)) (int_cmp a.y2 b.y2)

-- m stands at place i of the list.
abbrev pub StandsAt : List Metal → ℕ → Metal → Type 0
StandsAt all i m = (i < length all) × (slice_index_or all i m ≡ m)

-- Two of the metal, at different places, lie on one layer, and their closed rectangles share a point: the layer, the
-- two rectangles, the lesser first, and whether they are of one net.
pub record IsTouch (all : List Metal) (t : Touching) : Type 0 where
  pub i : ℕ
  pub j : ℕ
  pub differ : i ≢ j
  pub one : Metal
  pub other : Metal
  pub at_i : StandsAt all i one
  pub at_j : StandsAt all j other
  pub on_layer : (one.layer ≡ t.layer) × (other.layer ≡ t.layer)
  pub meet : SharePoint one.rect other.rect
  pub first : t.first ≡ one.rect
  pub second : t.second ≡ other.rect
  pub lesser : is_gt (rect_order t.first t.second) ≡ false
  pub same : IsTrue t.same ↔ (one.net ≡ other.net)

-- Touches are compared by layer, first and second rectangle, and then those of two nets come first.
abbrev pub touch_order : Touching → Touching → Ordering
touch_order t u = ordering_then
    (ordering_then (ordering_then (nat_cmp t.layer u.layer) (rect_order t.first u.first))
    (rect_order t.second u.second)) (bool_cmp t.same u.same)

-- The first touch.
pub record IsFirstTouch (all : List Metal) (t : Touching) : Type 0 where
  pub is : IsTouch all t
  pub first : (u : Touching) → IsTouch all u → is_gt (touch_order t u) ≡ false

-- The first touch, or that there is none.
abbrev pub Finds : List Metal → Option Touching → Type 0
Finds all answer = MatchOption answer ((t : Touching) → IsTouch all t → ⊥) (IsFirstTouch all)
