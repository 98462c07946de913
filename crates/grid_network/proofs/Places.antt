-- Junctions and nodes lie within what is drawn.
use Rattle.std.proofs.Common.{◌≡◌, ◌≢◌, ◌⊎◌, inl, inr, ℕ, ◌<◌, ℤ, List, [], ◌∷◌, All, AllPairs, length, get_or, slice_get, sym, subst, ap, ◌∙◌, arith}
use Rattle.std.specs.Prelude.{Some, slice_index}
use Rattle.std.specs.List.Sorted.{IsStrictlySortedBy}
use Rattle.std.specs.declared.cmp.Ordering.TheVariants.{Less, Equal}
use Rattle.std.proofs.lemmas.Cmp.{tied_itself}
use Rattle.std.proofs.lemmas.List.Elements.{Contains-get_or}
use Rattle.std.proofs.lemmas.List.{get_or_default}
use Rattle.std.proofs.lemmas.Option.{slice_get-get_or, slice_get_within}
use Rattle.std.proofs.lemmas.Map.Keys.{Less-from_sorted}
use Rattle.geom_rect.specs.declared.direction.Axis.{Axis}
use Rattle.geom_rect.specs.declared.direction.Axis.TheVariants.{X, Y}
use Rattle.lef_tech.specs.declared.tech.Tech.{Tech}
use Rattle.grid_network.specs.declared.junction.Junction.{Junction}
use Rattle.grid_network.specs.declared.key.Key.{Key}
use Rattle.grid_network.specs.Listing.{ListsAll, EachOnce}
use Rattle.grid_network.specs.Drawing.{Drawing, piece_at, key_along, IsJunction, HasStackEnd, HasPad, HasTap}
use Rattle.grid_network.specs.Nodes.{IsNode}
use Rattle.grid_network.specs.Asked.{IsDrawing, IsOnPiece}
use Rattle.grid_network.specs.inside.Steps.{key_cmp, junction_cmp, AreAlong}
use Rattle.grid_network.proofs.Numbered.{key_order}

-- ---- junctions

on_piece : (d : Drawing) (tech : Tech) (n : ℕ) (along : ℤ) → IsDrawing d tech → IsJunction d n along → IsOnPiece d.grid.pieces n along
on_piece d tech n along is j = by j.joins
  where
    moved : (m : ℕ) (a : ℤ) → m ≡ n → a ≡ along → IsOnPiece d.grid.pieces m a → IsOnPiece d.grid.pieces n along
    moved m a e f h = subst (λ (k : ℕ). IsOnPiece d.grid.pieces k along) e (subst (λ (z : ℤ). IsOnPiece d.grid.pieces m z) f h)

    by : (HasStackEnd d.grid.stacks (piece_at d.grid.pieces n) along ⊎ HasPad d.pads n along ⊎ HasTap d.taps n along) → IsOnPiece d.grid.pieces n along
    by (inl h) = record { piece = j.of_a_piece; not_before = h.0; not_behind = h.1 }
    by (inr (inl (k, p, within, e, h))) =
        moved p.piece p.along h.0 h.1 (subst (λ q. IsOnPiece d.grid.pieces q.piece q.along) e (is.pads k p within))
    by (inr (inr (k, p, within, e, h))) =
        moved p.piece p.along h.0 h.1 (subst (λ q. IsOnPiece d.grid.pieces q.piece q.along) e (is.taps k p within))

pub junctions_along : (d : Drawing) (tech : Tech) (js : List Junction) → IsDrawing d tech → ListsAll (λ j. IsJunction d j.piece j.along) js → IsStrictlySortedBy junction_cmp js → AreAlong d.grid.pieces js
junctions_along d tech js is all up = record {
  in_order = up;
  on_pieces = λ k x within. let j : Junction = get_or js k x in on_piece d tech j.piece j.along is ((all j).0 (Contains-get_or js k x within));
}

pub junctions_within : (d : Drawing) (js : List Junction) → ListsAll (λ j. IsJunction d j.piece j.along) js → All (λ j. j.piece < length d.grid.pieces) js
junctions_within d js all k x within = ((all (get_or js k x)).0 (Contains-get_or js k x within)).of_a_piece

-- ---- nodes

along_within : (o : Axis) (net layer nets layers : ℕ) (across along : ℤ) → net < nets → layer < layers → ((key_along o net layer across along).net < nets) × ((key_along o net layer across along).layer < layers)
along_within X net layer nets layers across along p q = (p, q)
along_within Y net layer nets layers across along p q = (p, q)

node_within : (d : Drawing) (tech : Tech) (key : Key) → IsDrawing d tech → IsNode d key → (key.net < length d.grid.nets) × (key.layer < length tech.routing)
node_within d tech key is (inl (n, along, j, e)) =
    let p = is.pieces n _ j.of_a_piece in
    let piece = piece_at d.grid.pieces n in
    subst (λ (k : Key). (k.net < length d.grid.nets) × (k.layer < length tech.routing)) (sym e) (along_within piece.axis piece.net piece.layer (length d.grid.nets) (length tech.routing) piece.centre along p.net p.layer)
node_within d tech key is (inr (k, s, within, at, h)) =
    let e = h.3 in
    let high = h.2 in
    let g = is.stacks k s within in
    let net = subst (λ t. t.net < length d.grid.nets) at g.net in
    let top = subst (λ t. t.stack.to < length tech.routing) at g.highest in
    subst (λ (k : Key). (k.net < length d.grid.nets) × (k.layer < length tech.routing)) (sym e) (net, omega (arith, top, high))

pub nodes_within : (d : Drawing) (tech : Tech) (places : List Key) → IsDrawing d tech → ListsAll (IsNode d) places → All (λ k. (k.net < length d.grid.nets) × (k.layer < length tech.routing)) places
nodes_within d tech places is all k x within = node_within d tech (get_or places k x) is ((all (get_or places k x)).0 (Contains-get_or places k x within))

-- points that rise are each once
pub rising_once : (places : List Key) → IsStrictlySortedBy key_cmp places → EachOnce places
rising_once places up i j x below within e =
    let a : Key = get_or places i x in
    let b : Key = get_or places j x in
    let less : key_cmp a b ≡ Less = Less-from_sorted key_cmp places i j x up below within in
    let both : Less ≡ Equal = sym less ∙ ap (λ k. key_cmp k b) e ∙ tied_itself key_order b in
    absurd (cc)
