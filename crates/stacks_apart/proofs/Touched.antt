-- Where nothing touches, no piece and no other stack has the place of a stack on a layer within it.
use Rattle.std.proofs.Common.{◌≡◌, ◌≢◌, ◌⊎◌, inl, inr, ℕ, zero, suc, ◌+◌, ◌-◌, ◌<◌, ◌≤◌, ℤ, pos, ◌≤ℤ◌, ◌+ℤ◌, ◌-ℤ◌, Bool, true, false, ◌==◌, List, [], ◌∷◌, ◌++◌, All, map, length, get_or, refl, sym, ap, ◌∙◌, subst, eq-eqb, arith}
use Rattle.std.specs.Prelude.{Contains, IsTrue, ◌↔◌, flat_map}
use Rattle.std.specs.Cmp.{IsTotalOrder}
use Rattle.std.specs.List.{range_with_len}
use Rattle.std.specs.Ordering.{int_cmp, ordering_reverse, is_gt}
use Rattle.std.specs.declared.cmp.Ordering.{Ordering}
use Rattle.std.specs.declared.cmp.Ordering.TheVariants.{Less, Equal, Greater}
use Rattle.std.proofs.lemmas.Bool.{false≢true}
use Rattle.std.proofs.lemmas.Cmp.{int_cmp_total, on_total, then_total}
use Rattle.std.proofs.lemmas.Int.{ints}
use Rattle.std.proofs.lemmas.List.{get_or_default, get_or-map, length-map, length-append, get_or_append_left, get_or-append-add}
use Rattle.std.proofs.lemmas.List.Elements.{All-contains}
use Rattle.std.proofs.lemmas.List.FromFn.{get_or-map-range_with_len, length-map-range_with_len}
use Rattle.geom_rect.specs.declared.direction.Axis.{Axis}
use Rattle.geom_rect.specs.declared.direction.Axis.TheVariants.{X, Y}
use Rattle.geom_rect.specs.declared.rect.Rect.{Rect}
use Rattle.geom_rect.specs.Drawn.{half, centred}
use Rattle.geom_rect.specs.Rect.{HasPoint, SharePoint}
use Rattle.grid_pieces.specs.declared.metal.Metal.{Metal}
use Rattle.grid_pieces.specs.declared.piece.Piece.{Piece}
use Rattle.grid_pieces.specs.declared.piece.StackAt.{StackAt}
use Rattle.grid_pieces.specs.declared.touch.Touching.{Touching}
use Rattle.grid_pieces.specs.Laws.Found.{place_of_true}
use Rattle.grid_pieces.specs.Laws.Geometry.{half_within}
use Rattle.grid_pieces.specs.Limits.{PieceKeeps}
use Rattle.grid_pieces.specs.Line.{piece_rect}
use Rattle.grid_pieces.specs.Touch.{piece_metal, stack_metal, between, metal, rect_order, StandsAt, IsTouch}
use Rattle.chains_of_stacks.specs.Laws.Members.{member_front, member_back}
use Rattle.wire_pieces.specs.Centre.{along_of, across_of, IsOnCentre, IsHeld}
use Rattle.stacks_apart.specs.Apart.{HasItsPlace, IsWithin}

-- ## places of lists

abbrev IsAt : {X : Type 0} → List X → ℕ → X → Type 0
IsAt xs i x = (i < length xs) × (get_or xs i x ≡ x)

-- two stand at two places
abbrev StandTwice : {X : Type 0} → List X → X → X → Type 0
StandTwice xs m n = (i : ℕ) × (j : ℕ) × (i ≢ j) × IsAt xs i m × IsAt xs j n

in_front : {X : Type 0} (xs ys : List X) (m : X) (i : ℕ) → IsAt xs i m → IsAt (xs ++ ys) i m
in_front xs ys m i (within, at) =
    let long = length-append xs ys in
    (omega (arith, within, long), get_or_append_left xs ys m i within ∙ at)

behind : {X : Type 0} (xs ys : List X) (n : X) (j : ℕ) → IsAt ys j n → IsAt (xs ++ ys) (length xs + j) n
behind xs ys n j (within, at) =
    let long = length-append xs ys in
    (omega (arith, within, long), get_or-append-add xs ys j n ∙ at)

-- one in the first list and one in the second
two_places : {X : Type 0} (xs ys : List X) (m n : X) → Contains xs m → Contains ys n → StandTwice (xs ++ ys) m n
two_places xs ys m n (i, within, at) (j, there, at_j) =
    (i, length xs + j, (λ e. absurd (omega (arith, within, e))), in_front xs ys m i (within, at), behind xs ys n j (there, at_j))

-- both in the second
two_behind : {X : Type 0} (xs ys : List X) (m n : X) → StandTwice ys m n → StandTwice (xs ++ ys) m n
two_behind xs ys m n (i, j, differ, at_i, at_j) =
    (length xs + i, length xs + j, (λ e. differ (omega (arith, e))), behind xs ys m i at_i, behind xs ys n j at_j)

-- what the element at a place gives is given by all of them
given : {X Y : Type 0} (f : X → List Y) (xs : List X) (k : ℕ) (d : X) (n : Y) → k < length xs → Contains (f (get_or xs k d)) n → Contains (flat_map f xs) n
given f [] k d n within is = absurd (omega (arith, within))
given f (x ∷ xs) zero d n within is = member_front (f x) (flat_map f xs) n is
given f (x ∷ xs) (suc k) d n within is = member_back (f x) (flat_map f xs) n (given f xs k d n (omega (arith, within)) is)

-- what the elements at two places give stands at two places
given_twice : {X Y : Type 0} (f : X → List Y) (xs : List X) (k l : ℕ) (d : X) (m n : Y) → k < l → l < length xs → Contains (f (get_or xs k d)) m
    → Contains (f (get_or xs l d)) n → StandTwice (flat_map f xs) m n
given_twice f [] k l d m n less within one other = absurd (omega (arith, within))
given_twice f (x ∷ xs) k zero d m n less within one other = absurd (omega (arith, less))
given_twice f (x ∷ xs) zero (suc l) d m n less within one other =
    two_places (f x) (flat_map f xs) m n one (given f xs l d n (omega (arith, within)) other)
given_twice f (x ∷ xs) (suc k) (suc l) d m n less within one other =
    two_behind (f x) (flat_map f xs) m n (given_twice f xs k l d m n (omega (arith, less)) (omega (arith, within)) one other)

mapped : {X Y : Type 0} (f : X → Y) (xs : List X) (x : X) → Contains xs x → Contains (map f xs) (f x)
mapped f xs x (k, within, at) =
    let long = length-map xs f in
    (k, omega (arith, within, long), get_or-map f xs k x (f x) within ∙ ap f at)

-- ## touches

rect_total : IsTotalOrder rect_order
rect_total =
    then_total
    (then_total (then_total (on_total (λ (r : Rect). r.x1) int_cmp_total) (on_total (λ (r : Rect). r.y1) int_cmp_total)) (on_total (λ (r : Rect). r.x2) int_cmp_total))
    (on_total (λ (r : Rect). r.y2) int_cmp_total)

not_both : (o : Ordering) → is_gt o ≡ true → is_gt (ordering_reverse o) ≡ false
not_both Less is = absurd (false≢true is)
not_both Equal is = absurd (false≢true is)
not_both Greater is = refl

same_net : (a b : ℕ) → IsTrue (a == b) ↔ (a ≡ b)
same_net a b = (place_of_true a b, eq-eqb a b)

-- two that stand at two places, on one layer and with a point in common, touch
touches : (all : List Metal) (m n : Metal) → StandTwice all m n → m.layer ≡ n.layer → SharePoint m.rect n.rect → (t : Touching) × IsTouch all t
touches all m n (i, j, differ, at_i, at_j) layer (x, y, (in_m, in_n)) = by (is_gt (rect_order m.rect n.rect)) refl
  where
    by : (b : Bool) → is_gt (rect_order m.rect n.rect) ≡ b → (t : Touching) × IsTouch all t
    by false low = (
      record { layer = m.layer; first = m.rect; second = n.rect; same = m.net == n.net },
      record {
        i = i;
        j = j;
        differ = differ;
        one = m;
        other = n;
        at_i = at_i;
        at_j = at_j;
        on_layer = (refl, sym layer);
        meet = (x, y, (in_m, in_n));
        first = refl;
        second = refl;
        lesser = low;
        same = same_net m.net n.net;
      },
    )
    by true high = (
      record { layer = m.layer; first = n.rect; second = m.rect; same = n.net == m.net },
      record {
        i = j;
        j = i;
        differ = λ e. differ (sym e);
        one = n;
        other = m;
        at_i = at_j;
        at_j = at_i;
        on_layer = (sym layer, refl);
        meet = (x, y, (in_n, in_m));
        first = refl;
        second = refl;
        lesser = subst (λ (o : Ordering). is_gt o ≡ false) (sym (rect_total.antisymm n.rect m.rect)) (not_both (rect_order m.rect n.rect) high);
        same = same_net n.net m.net;
      },
    )

-- a stack has metal on a layer strictly within it
on_layer : (at : StackAt) (layer : ℕ) → IsWithin at layer → Contains (map (stack_metal at) (between at.stack.from at.stack.to)) (stack_metal at layer)
on_layer at layer (above, below) =
    let count = at.stack.to - at.stack.from - 1 in
    let long = length-map-range_with_len (stack_metal at) (at.stack.from + 1) count in
    let place = layer - at.stack.from - 1 in
    let within : place < count = omega (arith, above, below) in (
      place,
      omega (arith, within, long),
      get_or-map-range_with_len (stack_metal at) (at.stack.from + 1) count place layer (stack_metal at layer) within (omega (arith, above)),
    )

-- a piece has the places on its centre line
has_centre : (p : Piece) (net layer : ℕ) (x y : ℤ) → PieceKeeps p → IsOnCentre net layer x y p → HasPoint (piece_rect p) x y
has_centre p net layer x y keeps on = by p.axis on.across on.from on.to
  where
    wide : (pos 0 ≤ℤ half p.width) × (half p.width ≤ℤ p.width)
    wide = let low = keeps.0.0 in half_within p.width (omega (arith, ints, low))

    by : (axis : Axis) → p.centre ≡ across_of axis x y → p.from ≤ℤ along_of axis x y → along_of axis x y ≤ℤ p.to
        → HasPoint (centred axis p.centre p.width p.from p.to) x y
    by X across from to = let half_up = wide.0 in ((from, to), (omega (arith, ints, across, half_up), omega (arith, ints, across, half_up)))
    by Y across from to = let half_up = wide.0 in ((omega (arith, ints, across, half_up), omega (arith, ints, across, half_up)), (from, to))

module _ (pieces : List Piece) (keep : All PieceKeeps pieces) (stacks : List StackAt) (apart : (t : Touching) → IsTouch (metal pieces stacks) t → ⊥) where
  abbrev shown : StackAt → List Metal
  shown s = map (stack_metal s) (between s.stack.from s.stack.to)

  -- no piece has the place of a stack on a layer strictly within it
  pub no_piece : (k : ℕ) (d : StackAt) → k < length stacks → HasItsPlace (get_or stacks k d) → (net layer : ℕ) (x y : ℤ) → IsWithin (get_or stacks k d) layer
      → (get_or stacks k d).x ≡ x → (get_or stacks k d).y ≡ y → IsHeld pieces net layer x y → ⊥
  no_piece k d within has net layer x y inside at_x at_y (p, in_pieces, on) =
      let at = get_or stacks k d in
      let there = given shown stacks k d (stack_metal at layer) within (on_layer at layer inside) in
      let point = has_centre p net layer x y (All-contains PieceKeeps pieces p keep in_pieces) on in
      let place : HasPoint at.crossing x y = subst (λ z. HasPoint at.crossing z y) at_x (subst (λ z. HasPoint at.crossing at.x z) at_y has) in
      let (t, is) = touches (metal pieces stacks) (piece_metal p) (stack_metal at layer)
      (two_places (map piece_metal pieces) (flat_map shown stacks) (piece_metal p) (stack_metal at layer) (mapped piece_metal pieces p in_pieces) there) on.on_layer
      (x, y, (point, place)) in
      apart t is

  -- and no other stack
  pub no_stack : (k l : ℕ) (d : StackAt) → k < l → l < length stacks → HasItsPlace (get_or stacks k d) → HasItsPlace (get_or stacks l d) → (layer : ℕ)
      → IsWithin (get_or stacks k d) layer → IsWithin (get_or stacks l d) layer → (get_or stacks l d).x ≡ (get_or stacks k d).x
      → (get_or stacks l d).y ≡ (get_or stacks k d).y → ⊥
  no_stack k l d less within has has' layer inside inside' same_x same_y =
      let at = get_or stacks k d in
      let other = get_or stacks l d in
      let twice = given_twice shown stacks k l d (stack_metal at layer) (stack_metal other layer) less within (on_layer at layer inside) (on_layer other layer inside') in
      let place : HasPoint other.crossing at.x at.y = subst (λ z. HasPoint other.crossing z at.y) same_x (subst (λ z. HasPoint other.crossing other.x z) same_y has') in
      let (t, is) = touches (metal pieces stacks) (stack_metal at layer) (stack_metal other layer)
      (two_behind (map piece_metal pieces) (flat_map shown stacks) (stack_metal at layer) (stack_metal other layer) twice) refl (at.x, at.y, (has, place)) in
      apart t is
