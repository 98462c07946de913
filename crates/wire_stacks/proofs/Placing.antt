-- Vias at their places: their numbers, and that those at one place on one layer have a piece there alike.
use Rattle.std.proofs.Common.{◌≡◌, ◌↔◌, ℕ, ◌<◌, ℤ, pos, Bool, true, false, IsTrue, List, Contains, length, get_or, refl, sym, ◌∙◌, subst, arith}
use Rattle.std.specs.List.Sorted.{IsPermutation}
use Rattle.std.proofs.lemmas.Bool.{false≢true}
use Rattle.std.proofs.lemmas.List.Elements.{Contains-get_or}
use Rattle.std.proofs.lemmas.List.Sorted.{Contains-permutation, IsPermutation-sym}
use Rattle.std.proofs.lemmas.Option.{slice_get-get_or}
use Rattle.grid_pieces.specs.declared.piece.Piece.{Piece}
use Rattle.wire_chains.specs.declared.via.ViaAt.{ViaAt}
use Rattle.wire_chains.specs.Chain.{AreNumbered, AreHeldAlike}
use Rattle.wire_names.specs.declared.record.NamedVia.{NamedVia}
use Rattle.wire_names.specs.declared.record.Spot.{Spot}
use Rattle.wire_pieces.specs.Centre.{IsHeld}
use Rattle.wire_stacks.specs.Vias.{AreViasAt, IsViaAt}

-- A via at a place is that of a spot.
pub of_spot : (vias : List NamedVia) (pieces : List Piece) (spots : List Spot) (placed : List ViaAt) (k : ℕ) (d : ViaAt) (s : Spot)
    → AreViasAt vias pieces spots placed → k < length placed → IsViaAt vias pieces k (get_or spots k s) (get_or placed k d)
of_spot vias pieces spots placed k d s are within =
    are.each k (get_or spots k s) (get_or placed k d) (slice_get-get_or spots k s (omega (arith, are.as_many))) (slice_get-get_or placed k d within)

pub numbered : (vias : List NamedVia) (pieces : List Piece) (spots : List Spot) (placed : List ViaAt) → AreViasAt vias pieces spots placed → AreNumbered placed
numbered vias pieces spots placed are i j d less within same =
    let s : Spot = record { net = 0; via = 0; x = pos 0; y = pos 0 } in
    let first = of_spot vias pieces spots placed i d s are (omega arith) in
    let second = of_spot vias pieces spots placed j d s are within in
    let one : i ≡ j = sym first.is_number ∙ same ∙ second.is_number in
    omega arith

alike : (a b : Bool) (P : Type 0) → IsTrue a ↔ P → IsTrue b ↔ P → b ≡ a
alike true true P ha hb = refl
alike true false P ha hb = absurd (false≢true (hb.1 (ha.0 refl)))
alike false true P ha hb = absurd (false≢true (ha.1 (hb.0 refl)))
alike false false P ha hb = refl

-- A via among them: the spot of which it is.
pub there : (vias : List NamedVia) (pieces : List Piece) (spots : List Spot) (placed : List ViaAt) (at : ViaAt) → AreViasAt vias pieces spots placed
    → Contains placed at → (k : ℕ) × (spot : Spot) × Contains spots spot × IsViaAt vias pieces k spot at
there vias pieces spots placed at are (k, within, is) =
    let s : Spot = record { net = 0; via = 0; x = pos 0; y = pos 0 } in (
      k,
      get_or spots k s,
      Contains-get_or spots k s (omega (arith, are.as_many)),
      subst (IsViaAt vias pieces k (get_or spots k s)) is (of_spot vias pieces spots placed k at s are within),
    )

pub held_alike : (vias : List NamedVia) (pieces : List Piece) (spots : List Spot) (placed : List ViaAt) → AreViasAt vias pieces spots placed → AreHeldAlike placed
held_alike vias pieces spots placed are one other has_one has_other lies =
    let first = there vias pieces spots placed one are has_one in
    let second = there vias pieces spots placed other are has_other in
    let moved : IsTrue other.held ↔ IsHeld pieces one.net one.layer one.x one.y =
    subst (λ n. IsTrue other.held ↔ IsHeld pieces n one.layer one.x one.y) lies.net
    (subst (λ l. IsTrue other.held ↔ IsHeld pieces other.net l one.x one.y) lies.layer
    (subst (λ x. IsTrue other.held ↔ IsHeld pieces other.net other.layer x one.y) lies.x
    (subst (λ y. IsTrue other.held ↔ IsHeld pieces other.net other.layer other.x y) lies.y second.3.held))) in
    alike one.held other.held (IsHeld pieces one.net one.layer one.x one.y) first.3.held moved

-- The same pieces in another order have the same places.
pub held_moved : (pieces lines : List Piece) (net layer : ℕ) (x y : ℤ) → IsPermutation pieces lines → IsHeld lines net layer x y ↔ IsHeld pieces net layer x y
held_moved pieces lines net layer x y moved = (
  λ (piece, has, on). (piece, Contains-permutation lines pieces piece (IsPermutation-sym pieces lines moved) has, on),
  λ (piece, has, on). (piece, Contains-permutation pieces lines piece moved has, on),
)

pub placed_moved : (vias : List NamedVia) (pieces lines : List Piece) (spots : List Spot) (placed : List ViaAt) → IsPermutation pieces lines
    → AreViasAt vias lines spots placed → AreViasAt vias pieces spots placed
placed_moved vias pieces lines spots placed moved are = record {
  as_many = are.as_many;
  each = λ k spot at at_spot at_via.
      let is = are.each k spot at at_spot at_via in
      let held = held_moved pieces lines at.net at.layer at.x at.y moved in
      record {
        net = is.net;
        x = is.x;
        y = is.y;
        via = is.via;
        layer = is.layer;
        held = (λ t. held.0 (is.held.0 t), λ h. is.held.1 (held.1 h));
        is_number = is.is_number;
      };
}
