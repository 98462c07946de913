-- The lists of junctions and of nodes hold what they are to hold.
use Rattle.std.proofs.Common.{◌≡◌, ◌⊎◌, inl, inr, ℕ, ◌<◌, List, [], Contains, length, subst}
use Rattle.grid_pieces.specs.declared.piece.Piece.{Piece}
use Rattle.grid_pieces.specs.declared.piece.StackAt.{StackAt}
use Rattle.grid_network.specs.declared.junction.Junction.{Junction}
use Rattle.grid_network.specs.declared.key.Key.{Key}
use Rattle.grid_network.specs.declared.pad.PadOn.{PadOn}
use Rattle.grid_network.specs.declared.pad.Tap.{Tap}
use Rattle.grid_network.specs.Listing.{ListsAll}
use Rattle.grid_network.specs.Drawing.{Drawing, IsJunction, HasPad, HasTap, HasStackEnd, piece_at, key_at}
use Rattle.grid_network.specs.Nodes.{IsNode, IsOfStack}
use Rattle.grid_network.specs.inside.Steps.{Adds, IsAtJunction, IsEndBelow}
use Rattle.grid_network.proofs.Growing.{adds_both, all_from_none}

-- ---- nodes

nodes_here : (d : Drawing) (js : List Junction) (mid all new : List Key) → ListsAll (λ j. IsJunction d j.piece j.along) js
    → Adds (IsAtJunction d.grid.pieces js) [] mid → Adds (IsOfStack d.grid.stacks) mid all → ListsAll (λ x. Contains all x) new → ListsAll (IsNode d) new
nodes_here d js mid all new lists first second same x = (λ h. there ((held x).0 ((same x).0 h)), λ n. (same x).1 ((held x).1 (back n)))
  where
    held : ListsAll (λ x. IsAtJunction d.grid.pieces js x ⊎ IsOfStack d.grid.stacks x) all
    held = all_from_none _ all (adds_both (IsAtJunction d.grid.pieces js) (IsOfStack d.grid.stacks) [] mid all first second)

    there : (IsAtJunction d.grid.pieces js x ⊎ IsOfStack d.grid.stacks x) → IsNode d x
    there (inl (k, j, within, e, q)) = inl (j.piece, j.along, (lists j).0 (k, within, e), q)
    there (inr h) = inr h

    found : (j : Junction) → Contains js j → x ≡ key_at d.grid.pieces j.piece j.along → IsAtJunction d.grid.pieces js x
    found j (k, within, e) q = (k, j, within, e, q)

    back : IsNode d x → IsAtJunction d.grid.pieces js x ⊎ IsOfStack d.grid.stacks x
    back (inl (n, a, h, q)) = let j : Junction = record { piece = n; along = a } in inl (found j ((lists j).1 h) q)
    back (inr h) = inr h

pub nodes_listed : (d : Drawing) (js : List Junction) (pieces : List Piece) (stacks : List StackAt) (start mid all new : List Key) → ListsAll (λ j. IsJunction d j.piece j.along) js
    → pieces ≡ d.grid.pieces → stacks ≡ d.grid.stacks → start ≡ []
    → Adds (IsAtJunction pieces js) start mid → Adds (IsOfStack stacks) mid all → ListsAll (λ x. Contains all x) new → ListsAll (IsNode d) new
nodes_listed d js pieces stacks start mid all new lists p s e first second same =
    let first' = subst (λ (l : List Piece). Adds (IsAtJunction l js) start mid) p first in
    let first'' = subst (λ (l : List Key). Adds (IsAtJunction d.grid.pieces js) l mid) e first' in
    let second' = subst (λ (l : List StackAt). Adds (IsOfStack l) mid all) s second in
    nodes_here d js mid all new lists first'' second' same

-- ---- junctions

-- the lists of a drawing
abbrev pub Joined : Drawing → Junction → Type 0
Joined d j = IsJunction d j.piece j.along

pub junctions_listed : (d : Drawing) (start first second third new : List Junction) → start ≡ []
    → ((p : PadOn) → Contains d.pads p → p.piece < length d.grid.pieces) → ((t : Tap) → Contains d.taps t → t.piece < length d.grid.pieces)
    → Adds (λ j. HasPad d.pads j.piece j.along) start first → Adds (λ j. HasTap d.taps j.piece j.along) first second
    → Adds (IsEndBelow d.grid.stacks d.grid.pieces (length d.grid.pieces)) second third → ListsAll (λ j. Contains third j) new → ListsAll (Joined d) new
junctions_listed d start first second third new e pads taps a b c same j = (λ h. there ((held j).0 ((same j).0 h)), λ n. (same j).1 ((held j).1 (back n)))
  where
    held : ListsAll (λ j. (HasPad d.pads j.piece j.along ⊎ HasTap d.taps j.piece j.along) ⊎ IsEndBelow d.grid.stacks d.grid.pieces (length d.grid.pieces) j) third
    held = all_from_none _ third (adds_both _ (IsEndBelow d.grid.stacks d.grid.pieces (length d.grid.pieces)) [] second third
        (adds_both (λ j. HasPad d.pads j.piece j.along) (λ j. HasTap d.taps j.piece j.along) [] first second
        (subst (λ (l : List Junction). Adds (λ j. HasPad d.pads j.piece j.along) l first) e a) b) c)

    pad_within : HasPad d.pads j.piece j.along → j.piece < length d.grid.pieces
    pad_within (k, p, within, is, q) = subst (λ (n : ℕ). n < length d.grid.pieces) q.0 (pads p (k, within, is))

    tap_within : HasTap d.taps j.piece j.along → j.piece < length d.grid.pieces
    tap_within (k, t, within, is, q) = subst (λ (n : ℕ). n < length d.grid.pieces) q.0 (taps t (k, within, is))

    there : ((HasPad d.pads j.piece j.along ⊎ HasTap d.taps j.piece j.along) ⊎ IsEndBelow d.grid.stacks d.grid.pieces (length d.grid.pieces) j) → Joined d j
    there (inl (inl h)) = record { of_a_piece = pad_within h; joins = inr (inl h) }
    there (inl (inr h)) = record { of_a_piece = tap_within h; joins = inr (inr h) }
    there (inr h) = record { of_a_piece = h.0; joins = inl h.1 }

    by : j.piece < length d.grid.pieces → (HasStackEnd d.grid.stacks (piece_at d.grid.pieces j.piece) j.along ⊎ (HasPad d.pads j.piece j.along ⊎ HasTap d.taps j.piece j.along))
        → (HasPad d.pads j.piece j.along ⊎ HasTap d.taps j.piece j.along) ⊎ IsEndBelow d.grid.stacks d.grid.pieces (length d.grid.pieces) j
    by within (inl h) = inr (within, h)
    by within (inr (inl h)) = inl (inl h)
    by within (inr (inr h)) = inl (inr h)

    back : Joined d j → (HasPad d.pads j.piece j.along ⊎ HasTap d.taps j.piece j.along) ⊎ IsEndBelow d.grid.stacks d.grid.pieces (length d.grid.pieces) j
    back h = by h.of_a_piece h.joins
