-- Stacks that are drawn again as vias.
use Rattle.std.specs.Prelude.{◌≡◌, ℕ, ◌-◌, ◌<◌, ℤ, true, List, [], ◌∷◌, ◌++◌, All, AllPairs, length, slice_index_or}
use Rattle.std.specs.List.{AllZip, enumerate_from}
use Rattle.std.specs.Ordering.{is_lt}
use Rattle.grid_pieces.specs.declared.piece.Piece.{Piece}
use Rattle.grid_pieces.specs.declared.piece.StackAt.{StackAt}
use Rattle.grid_pieces.specs.Limits.{PieceKeeps}
use Rattle.lef_tech.specs.declared.tech.Tech.{Tech}
use Rattle.stacks_apart.specs.Apart.{IsApart}
use Rattle.via_arrays.specs.declared.parts.CutArray.{CutArray}
use Rattle.via_arrays.specs.Pairs.{HasResistance}
use Rattle.wire_names.specs.declared.record.NamedVia.{NamedVia}
use Rattle.wire_names.specs.declared.record.Spot.{Spot}
use Rattle.wire_stacks.specs.Stacks.{place_order, HasEnds}
use Rattle.wire_stacks.specs.Vias.{via_at, array_of}

-- Its layers follow one another, with an array of cuts and a resistance for each.
pub record IsWhole (tech : Tech) (at : StackAt) : Type 0 where
  pub rising : at.stack.from < at.stack.to
  pub arrays : length at.stack.arrays ≡ at.stack.to - at.stack.from
  pub ohms : length at.stack.ohms ≡ at.stack.to - at.stack.from
  pub resist : (k : ℕ) (array : CutArray) (r : ℕ) → k < length at.stack.arrays
      → HasResistance tech (slice_index_or at.stack.arrays k array).rule (slice_index_or at.stack.arrays k array)
      (slice_index_or at.stack.ohms k r)

-- Stacks stand on pieces and nothing touches; they are in order, and no two have one place and the same layers.
pub record StandApart (tech : Tech) (pieces : List Piece) (stacks : List StackAt) : Type 0 where
  pub keep : All PieceKeeps pieces
  pub whole : All (IsWhole tech) stacks
  pub ends : All (HasEnds pieces) stacks
  pub in_order : AllPairs (λ (a b : StackAt). is_lt (place_order a b) ≡ true) stacks
  pub apart : IsApart pieces stacks

-- A via that is placed is the array of the stack on this layer.
pub record IsLevel (vias : List NamedVia) (at : StackAt) (level : ℕ × CutArray) (spot : Spot) : Type 0 where
  pub net : spot.net ≡ at.net
  pub x : spot.x ≡ at.x
  pub y : spot.y ≡ at.y
  pub layer : (via_at vias spot.via).lower ≡ level.0
  pub array : array_of (via_at vias spot.via) ≡ level.1

-- The vias of a stack, bottom up.
abbrev pub AreLevels : List NamedVia → StackAt → List Spot → Type 0
AreLevels vias at spots = AllZip (IsLevel vias at) (enumerate_from at.stack.from at.stack.arrays) spots

-- The vias of all stacks, stack after stack.
abbrev pub AreRewired : List NamedVia → List StackAt → List Spot → Type 0
AreRewired vias [] spots = spots ≡ []
AreRewired vias (at ∷ stacks) spots = (first : List Spot) × (rest : List Spot) × (spots ≡ first ++ rest)
    × AreLevels vias at first × AreRewired vias stacks rest
