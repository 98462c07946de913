-- The vias of stacks at their places, stack after stack.
use Rattle.std.proofs.Common.{◌≡◌, ℕ, zero, suc, ◌+◌, ◌<◌, List, [], ◌∷◌, ◌++◌, length, get_or, Some, refl, sym, ap, ◌∙◌, subst, arith}
use Rattle.std.specs.Prelude.{IsTrue, ◌↔◌, flat_map, slice_get}
use Rattle.std.specs.List.{AllZip, enumerate_from}
use Rattle.std.proofs.lemmas.List.FromFn.{length-enumerate_from, get_or-enumerate_from}
use Rattle.std.proofs.lemmas.Slice.Zip.{AllZip-long}
use Rattle.grid_pieces.specs.declared.piece.Piece.{Piece}
use Rattle.grid_pieces.specs.declared.piece.StackAt.{StackAt}
use Rattle.via_arrays.specs.declared.parts.CutArray.{CutArray}
use Rattle.wire_chains.specs.declared.via.ViaAt.{ViaAt}
use Rattle.wire_names.specs.declared.record.NamedVia.{NamedVia}
use Rattle.wire_names.specs.declared.record.Spot.{Spot}
use Rattle.wire_pieces.specs.Centre.{IsHeld}
use Rattle.wire_stacks.specs.Vias.{via_at, array_of, IsViaAt, AreViasAt}
use Rattle.rewired_stacks.specs.Rewired.{IsLevel, AreLevels, AreRewired}

-- ## two lists place by place

zip_split : {A B : Type 0} (R : A → B → Type 0) (xs ys : List A) (zs : List B) → AllZip R (xs ++ ys) zs
    → (us : List B) × (vs : List B) × (zs ≡ us ++ vs) × AllZip R xs us × AllZip R ys vs
zip_split R [] ys zs zip = ([], zs, refl, tt, zip)
zip_split R (x ∷ xs) ys [] zip = absurd zip
zip_split R (x ∷ xs) ys (z ∷ zs) (here, zip) =
    let (us, vs, is, front, back) = zip_split R xs ys zs zip in
    (z ∷ us, vs, ap (λ l. z ∷ l) is, (here, front), back)

zip_none : {A B : Type 0} (R : A → B → Type 0) (zs : List B) → AllZip R [] zs → zs ≡ []
zip_none R [] zip = refl
zip_none R (z ∷ zs) zip = absurd zip

zip_both : {A B C : Type 0} (R : A → B → Type 0) (Q : B → C → Type 0) (P : A → C → Type 0) → ((a : A) (b : B) (c : C) → R a b → Q b c → P a c)
    → (xs : List A) (ys : List B) (zs : List C) → AllZip R xs ys → AllZip Q ys zs → AllZip P xs zs
zip_both R Q P goes [] [] [] r q = tt
zip_both R Q P goes [] [] (z ∷ zs) r q = q
zip_both R Q P goes [] (y ∷ ys) zs r q = absurd r
zip_both R Q P goes (x ∷ xs) [] zs r q = absurd r
zip_both R Q P goes (x ∷ xs) (y ∷ ys) [] r q = q
zip_both R Q P goes (x ∷ xs) (y ∷ ys) (z ∷ zs) (r, rs) (q, qs) = (goes x y z r q, zip_both R Q P goes xs ys zs rs qs)

pub zip_at : {A B : Type 0} (R : A → B → Type 0) (xs : List A) (ys : List B) → AllZip R xs ys → (k : ℕ) (d : A) (e : B) → k < length ys → R (get_or xs k d) (get_or ys k e)
zip_at R [] [] zip k d e within = absurd (omega (arith, within))
zip_at R [] (y ∷ ys) zip k d e within = absurd zip
zip_at R (x ∷ xs) [] zip k d e within = absurd zip
zip_at R (x ∷ xs) (y ∷ ys) (here, zip) zero d e within = here
zip_at R (x ∷ xs) (y ∷ ys) (here, zip) (suc k) d e within = zip_at R xs ys zip k d e (omega (arith, within))

-- ## levels

-- a via at its place is the array of the stack on this layer
pub record IsLevelVia (vias : List NamedVia) (pieces : List Piece) (at : StackAt) (level : ℕ × CutArray) (via : ViaAt) : Type 0 where
  pub net : via.net ≡ at.net
  pub x : via.x ≡ at.x
  pub y : via.y ≡ at.y
  pub layer : via.layer ≡ level.0
  pub array : array_of (via_at vias via.via) ≡ level.1
  pub held : IsTrue via.held ↔ IsHeld pieces via.net via.layer via.x via.y

abbrev pub AreLevelVias : List NamedVia → List Piece → StackAt → List ViaAt → Type 0
AreLevelVias vias pieces at chain = AllZip (IsLevelVia vias pieces at) (enumerate_from at.stack.from at.stack.arrays) chain

module _ (vias : List NamedVia) (pieces : List Piece) where
  -- the via that stands at a spot
  abbrev IsPlacedVia : Spot → ViaAt → Type 0
  IsPlacedVia spot via = (n : ℕ) × IsViaAt vias pieces n spot via

  zip_of : (spots : List Spot) (placed : List ViaAt) → length placed ≡ length spots
      → ((k : ℕ) (spot : Spot) (via : ViaAt) → slice_get spots k ≡ Some spot → slice_get placed k ≡ Some via → IsPlacedVia spot via) → AllZip IsPlacedVia spots placed
  zip_of [] [] long each = tt
  zip_of [] (via ∷ placed) long each = absurd (omega (arith, long))
  zip_of (spot ∷ spots) [] long each = absurd (omega (arith, long))
  zip_of (spot ∷ spots) (via ∷ placed) long each =
      (each 0 spot via refl refl, zip_of spots placed (omega (arith, long)) (λ k one other p q. each (suc k) one other p q))

  placed_zip : (spots : List Spot) (placed : List ViaAt) → AreViasAt vias pieces spots placed → AllZip IsPlacedVia spots placed
  placed_zip spots placed are = zip_of spots placed are.as_many (λ k spot via p q. (k, are.each k spot via p q))

  level_via : (at : StackAt) (level : ℕ × CutArray) (spot : Spot) (via : ViaAt) → IsLevel vias at level spot → IsPlacedVia spot via → IsLevelVia vias pieces at level via
  level_via at level spot via is (n, placed) = record {
    net = placed.net ∙ is.net;
    x = placed.x ∙ is.x;
    y = placed.y ∙ is.y;
    layer = placed.layer ∙ is.layer;
    array = ap (λ v. array_of (via_at vias v)) placed.via ∙ is.array;
    held = placed.held;
  }

  -- the vias are those of the stacks, each stack's bottom up
  pub by_stack : (stacks : List StackAt) (spots : List Spot) (placed : List ViaAt) → AreRewired vias stacks spots → AllZip IsPlacedVia spots placed
      → (chains : List (List ViaAt)) × (placed ≡ flat_map (λ (chain : List ViaAt). chain) chains) × AllZip (AreLevelVias vias pieces) stacks chains
  by_stack [] spots placed none zip = ([], zip_none IsPlacedVia placed (subst (λ (l : List Spot). AllZip IsPlacedVia l placed) none zip), tt)
  by_stack (at ∷ stacks) spots placed (first, rest, is, levels, more) zip =
      let (chain, others, whole, front, back) = zip_split IsPlacedVia first rest placed (subst (λ (l : List Spot). AllZip IsPlacedVia l placed) is zip) in
      let (chains, all, zips) = by_stack stacks rest others more back in (
        chain ∷ chains,
        whole ∙ ap (λ (l : List ViaAt). chain ++ l) all,
        (zip_both (IsLevel vias at) IsPlacedVia (IsLevelVia vias pieces at) (level_via at) (enumerate_from at.stack.from at.stack.arrays) first chain levels front, zips),
      )

  -- a chain has a via for each array
  pub as_many : (at : StackAt) (chain : List ViaAt) → AreLevelVias vias pieces at chain → length chain ≡ length at.stack.arrays
  as_many at chain zip = AllZip-long (IsLevelVia vias pieces at) (enumerate_from at.stack.from at.stack.arrays) chain zip ∙ length-enumerate_from at.stack.from at.stack.arrays

  pub level_at : (at : StackAt) (chain : List ViaAt) → AreLevelVias vias pieces at chain → (k : ℕ) (a : CutArray) (d : ViaAt) → k < length chain
      → IsLevelVia vias pieces at (at.stack.from + k, get_or at.stack.arrays k a) (get_or chain k d)
  level_at at chain zip k a d within =
      let long = as_many at chain zip in
      subst (λ (l : ℕ × CutArray). IsLevelVia vias pieces at l (get_or chain k d)) (get_or-enumerate_from at.stack.from at.stack.arrays k (0, a) (omega (arith, within, long)))
      (zip_at (IsLevelVia vias pieces at) (enumerate_from at.stack.from at.stack.arrays) chain zip k (0, a) d within)

  pub placed_by_stack : (stacks : List StackAt) (spots : List Spot) (placed : List ViaAt) → AreRewired vias stacks spots → AreViasAt vias pieces spots placed
      → (chains : List (List ViaAt)) × (placed ≡ flat_map (λ (chain : List ViaAt). chain) chains) × AllZip (AreLevelVias vias pieces) stacks chains
  placed_by_stack stacks spots placed rewired are = by_stack stacks spots placed rewired (placed_zip spots placed are)
