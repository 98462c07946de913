-- The ends of stacks that lie on a piece are the spots from its beginning up to its end.
use Rattle.std.proofs.Common.{◌≡◌, ◌⊎◌, inl, inr, ℕ, ◌+◌, ◌<◌, ◌≤◌, true, false, true≢false, ℤ, pos, List, Any, Contains, length, get_or, refl, sym, subst, ap, ◌∙◌, arith}
use Rattle.std.specs.Prelude.{◌<ℤ◌, ◌+ℤ◌}
use Rattle.std.specs.List.{AllWithin}
use Rattle.std.specs.Ordering.{is_lt}
use Rattle.std.proofs.lemmas.Bool.{cases_lt}
use Rattle.std.proofs.lemmas.Int.{ints}
use Rattle.std.proofs.lemmas.List.{get_or_default}
use Rattle.std.proofs.lemmas.List.Elements.{Contains-get_or}
use Rattle.geom_rect.specs.declared.direction.Axis.{Axis}
use Rattle.geom_rect.specs.declared.direction.Axis.TheVariants.{X, Y}
use Rattle.grid_pieces.specs.declared.piece.Piece.{Piece}
use Rattle.grid_pieces.specs.declared.piece.StackAt.{StackAt}
use Rattle.grid_network.specs.declared.junction.Junction.{Junction}
use Rattle.grid_network.specs.declared.spot.Spot.{Spot}
use Rattle.grid_network.specs.Listing.{ListsAll}
use Rattle.grid_network.specs.Drawing.{piece_at, key_along, key_on, key_of_stack, HasStackEnd}
use Rattle.grid_network.specs.inside.Steps.{Adds, IsEnd, IsEndOn, IsEndOf, IsEndBelow, spot_cmp, spot_on_piece, spot_of_stack}
use Rattle.grid_network.proofs.Growing.{Ranged, adds_none, adds_same, adds_step}
use Rattle.grid_network.proofs.Spots.{on_piece, not_before, before}

-- the junction of a piece at the k-th spot
abbrev pub at_place : ℕ → List Spot → ℕ → Junction
at_place number spots k = record { piece = number; along = (get_or spots k (record { net = 0; layer = 0; across = pos 0; along = pos 0 })).along }

pub ends_listed : (spots : List Spot) (piece : Piece) (number start end i : ℕ) (old new : List Junction) → end ≤ length spots → end ≤ i
    → AllWithin (λ s. is_lt (spot_cmp s (spot_on_piece piece piece.from)) ≡ true) spots 0 start
    → AllWithin (λ s. is_lt (spot_cmp s (spot_on_piece piece piece.from)) ≡ false) spots start (length spots)
    → AllWithin (λ s. is_lt (spot_cmp s (spot_on_piece piece (piece.to +ℤ pos 1))) ≡ true) spots 0 end
    → AllWithin (λ s. is_lt (spot_cmp s (spot_on_piece piece (piece.to +ℤ pos 1))) ≡ false) spots end (length spots)
    → Adds (Ranged (at_place number spots) start end i) old new → Adds (IsEndOn spots piece number) old new
ends_listed spots piece number start end i old new bound done low up below above adds =
    adds_same (Ranged (at_place number spots) start end i) (IsEndOn spots piece number) old new adds (λ j h. there j h) (λ j h. back j h)
  where
    there : (j : Junction) → Ranged (at_place number spots) start end i j → IsEndOn spots piece number j
    there j (k, a, b, c, e) =
        let zero : Spot = record { net = 0; layer = 0; across = pos 0; along = pos 0 } in
        let s : Spot = get_or spots k zero in
        let within : k < length spots = omega arith in
        let on = on_piece piece piece.from (piece.to +ℤ pos 1) s (up k zero a within) (below k zero (omega arith) b) in
        let here : Contains spots (spot_on_piece piece s.along) = subst (Contains spots) on.0 (Contains-get_or spots k zero within) in
        subst (IsEndOn spots piece number) (sym e) (refl, on.1, omega (arith, ints, on.2), here)

    back : (j : Junction) → IsEndOn spots piece number j → Ranged (at_place number spots) start end i j
    back j (e, a, b, (k, within, at)) = (k, by (cases_lt k start), to (cases_lt k end), omega (arith, to (cases_lt k end)), same)
      where
        by : ((k < start) ⊎ (start ≤ k)) → start ≤ k
        by (inr h) = h
        by (inl h) =
            let yes : is_lt (spot_cmp (spot_on_piece piece j.along) (spot_on_piece piece piece.from)) ≡ true = subst (λ (q : Spot). is_lt (spot_cmp q (spot_on_piece piece piece.from)) ≡ true) at (low k (spot_on_piece piece j.along) (omega arith) h) in
            absurd (true≢false (sym yes ∙ not_before piece j.along piece.from a))

        to : ((k < end) ⊎ (end ≤ k)) → k < end
        to (inl h) = h
        to (inr h) =
            let no : is_lt (spot_cmp (spot_on_piece piece j.along) (spot_on_piece piece (piece.to +ℤ pos 1))) ≡ false = subst (λ (q : Spot). is_lt (spot_cmp q (spot_on_piece piece (piece.to +ℤ pos 1))) ≡ false) at (above k (spot_on_piece piece j.along) h within) in
            let yes : j.along <ℤ (piece.to +ℤ pos 1) = omega (arith, ints, b) in
            absurd (true≢false (sym (before piece j.along (piece.to +ℤ pos 1) yes) ∙ no))

        along : j.along ≡ (get_or spots k (record { net = 0; layer = 0; across = pos 0; along = pos 0 })).along
        along = ap (λ (q : Spot). q.along) (sym at ∙ get_or_default spots k (spot_on_piece piece j.along) (record { net = 0; layer = 0; across = pos 0; along = pos 0 }) within)

        same : j ≡ at_place number spots k
        same = λ m. record { piece = e m; along = along m }

-- ---- the spots of an axis are the ends of the stacks

any_map : {T : Type 0} (P Q : T → Type 0) (xs : List T) → ((x : T) → P x → Q x) → Any P xs → Any Q xs
any_map P Q xs f (k, x, within, e, p) = (k, x, within, e, f x p)

spot_of_key_x : (piece : Piece) (a : ℤ) (s : StackAt) (layer : ℕ) → piece.axis ≡ X → key_on piece a ≡ key_of_stack s layer → spot_on_piece piece a ≡ spot_of_stack X s layer
spot_of_key_x piece a s layer axis e =
    let q : key_along X piece.net piece.layer piece.centre a ≡ key_of_stack s layer = sym (ap (λ o. key_along o piece.net piece.layer piece.centre a) axis) ∙ e in
    λ k. record { net = (q k).net; layer = (q k).layer; across = (q k).y; along = (q k).x }

key_of_spot_x : (piece : Piece) (a : ℤ) (s : StackAt) (layer : ℕ) → piece.axis ≡ X → spot_on_piece piece a ≡ spot_of_stack X s layer → key_on piece a ≡ key_of_stack s layer
key_of_spot_x piece a s layer axis e =
    let q : key_along X piece.net piece.layer piece.centre a ≡ key_of_stack s layer = λ k. record { net = (e k).net; layer = (e k).layer; x = (e k).along; y = (e k).across } in
    ap (λ o. key_along o piece.net piece.layer piece.centre a) axis ∙ q

spot_of_key_y : (piece : Piece) (a : ℤ) (s : StackAt) (layer : ℕ) → piece.axis ≡ Y → key_on piece a ≡ key_of_stack s layer → spot_on_piece piece a ≡ spot_of_stack Y s layer
spot_of_key_y piece a s layer axis e =
    let q : key_along Y piece.net piece.layer piece.centre a ≡ key_of_stack s layer = sym (ap (λ o. key_along o piece.net piece.layer piece.centre a) axis) ∙ e in
    λ k. record { net = (q k).net; layer = (q k).layer; across = (q k).x; along = (q k).y }

key_of_spot_y : (piece : Piece) (a : ℤ) (s : StackAt) (layer : ℕ) → piece.axis ≡ Y → spot_on_piece piece a ≡ spot_of_stack Y s layer → key_on piece a ≡ key_of_stack s layer
key_of_spot_y piece a s layer axis e =
    let q : key_along Y piece.net piece.layer piece.centre a ≡ key_of_stack s layer = λ k. record { net = (e k).net; layer = (e k).layer; x = (e k).across; y = (e k).along } in
    ap (λ o. key_along o piece.net piece.layer piece.centre a) axis ∙ q

-- one axis at a time: what ends on the piece by its spots ends on it by its points
ends_by : (axis : Axis) (stacks : List StackAt) (spots : List Spot) (piece : Piece) (number : ℕ) (old new : List Junction) → ListsAll (IsEnd axis stacks) spots
    → ((a : ℤ) (s : StackAt) (layer : ℕ) → key_on piece a ≡ key_of_stack s layer → spot_on_piece piece a ≡ spot_of_stack axis s layer)
    → ((a : ℤ) (s : StackAt) (layer : ℕ) → spot_on_piece piece a ≡ spot_of_stack axis s layer → key_on piece a ≡ key_of_stack s layer)
    → Adds (IsEndOn spots piece number) old new → Adds (IsEndOf stacks piece number) old new
ends_by axis stacks spots piece number old new all to_spot to_key adds =
    adds_same (IsEndOn spots piece number) (IsEndOf stacks piece number) old new adds (λ j h. there j h) (λ j h. back j h)
  where
    key_end : (a : ℤ) (s : StackAt) → ((spot_on_piece piece a ≡ spot_of_stack axis s s.stack.from) ⊎ (spot_on_piece piece a ≡ spot_of_stack axis s s.stack.to))
        → (key_on piece a ≡ key_of_stack s s.stack.from) ⊎ (key_on piece a ≡ key_of_stack s s.stack.to)
    key_end a s (inl e) = inl (to_key a s s.stack.from e)
    key_end a s (inr e) = inr (to_key a s s.stack.to e)

    spot_end : (a : ℤ) (s : StackAt) → ((key_on piece a ≡ key_of_stack s s.stack.from) ⊎ (key_on piece a ≡ key_of_stack s s.stack.to))
        → (spot_on_piece piece a ≡ spot_of_stack axis s s.stack.from) ⊎ (spot_on_piece piece a ≡ spot_of_stack axis s s.stack.to)
    spot_end a s (inl e) = inl (to_spot a s s.stack.from e)
    spot_end a s (inr e) = inr (to_spot a s s.stack.to e)

    there : (j : Junction) → IsEndOn spots piece number j → IsEndOf stacks piece number j
    there j h = (h.0, (h.1, h.2, any_map _ _ stacks (λ s e. key_end j.along s e) ((all (spot_on_piece piece j.along)).0 h.3)))

    back : (j : Junction) → IsEndOf stacks piece number j → IsEndOn spots piece number j
    back j h = let e = h.1 in (h.0, e.0, e.1, (all (spot_on_piece piece j.along)).1 (any_map _ _ stacks (λ s q. spot_end j.along s q) e.2))

pub ends_by_x : (stacks : List StackAt) (spots : List Spot) (piece : Piece) (number : ℕ) (old new : List Junction) → piece.axis ≡ X → ListsAll (IsEnd X stacks) spots
    → Adds (IsEndOn spots piece number) old new → Adds (IsEndOf stacks piece number) old new
ends_by_x stacks spots piece number old new axis all adds =
    ends_by X stacks spots piece number old new all (λ a s layer e. spot_of_key_x piece a s layer axis e) (λ a s layer e. key_of_spot_x piece a s layer axis e) adds

pub ends_by_y : (stacks : List StackAt) (spots : List Spot) (piece : Piece) (number : ℕ) (old new : List Junction) → piece.axis ≡ Y → ListsAll (IsEnd Y stacks) spots
    → Adds (IsEndOn spots piece number) old new → Adds (IsEndOf stacks piece number) old new
ends_by_y stacks spots piece number old new axis all adds =
    ends_by Y stacks spots piece number old new all (λ a s layer e. spot_of_key_y piece a s layer axis e) (λ a s layer e. key_of_spot_y piece a s layer axis e) adds

-- ---- piece after piece

pub ends_more : (stacks : List StackAt) (pieces : List Piece) (i : ℕ) (piece : Piece) (old mid new : List Junction) → piece ≡ piece_at pieces i
    → Adds (IsEndBelow stacks pieces i) old mid → Adds (IsEndOf stacks piece i) mid new → Adds (IsEndBelow stacks pieces (i + 1)) old new
ends_more stacks pieces i piece old mid new is first second =
    adds_step (IsEndBelow stacks pieces i) (IsEndOf stacks piece i) (IsEndBelow stacks pieces (i + 1)) old mid new first second (λ j h. out j h (cases_lt j.piece i)) (λ j h. into j h)
  where
    out : (j : Junction) → IsEndBelow stacks pieces (i + 1) j → ((j.piece < i) ⊎ (i ≤ j.piece)) → IsEndBelow stacks pieces i j ⊎ IsEndOf stacks piece i j
    out j h (inl below) = inl (below, h.1)
    out j h (inr not) =
        let same : j.piece ≡ i = omega (arith, h.0) in
        inr (same, subst (λ (p : Piece). HasStackEnd stacks p j.along) (ap (piece_at pieces) same ∙ sym is) h.1)

    into : (j : Junction) → (IsEndBelow stacks pieces i j ⊎ IsEndOf stacks piece i j) → IsEndBelow stacks pieces (i + 1) j
    into j (inl h) = (omega (arith, h.0), h.1)
    into j (inr h) = let same = h.0 in (omega arith, subst (λ (p : Piece). HasStackEnd stacks p j.along) (is ∙ ap (piece_at pieces) (sym same)) h.1)

pub ends_none : (stacks : List StackAt) (pieces : List Piece) (xs : List Junction) → Adds (IsEndBelow stacks pieces 0) xs xs
ends_none stacks pieces xs = adds_none (IsEndBelow stacks pieces 0) xs (λ j h. absurd (omega (arith, h.0)))
