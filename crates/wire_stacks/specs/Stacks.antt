-- Stacks of vias that are placed: a stack is a maximal chain of vias of one net at one place, each beginning on the layer on
-- which the one before ends, with no piece of the net on that layer between the two.
use Rattle.std.specs.Prelude.{◌≡◌, ◌⊎◌, ℕ, ◌+◌, ◌-◌, ◌<◌, ℤ, true, List, All, AllPairs, map, length, slice_index_or, Some, slice_get}
use Rattle.std.specs.declared.cmp.Ordering.{Ordering}
use Rattle.std.specs.declared.cmp.Ordering.TheVariants.{Equal}
use Rattle.std.specs.Ordering.{nat_cmp, int_cmp, ordering_then, is_lt}
use Rattle.geom_rect.specs.Rect.{IsInOrder}
use Rattle.grid_pieces.specs.declared.piece.Piece.{Piece}
use Rattle.grid_pieces.specs.declared.piece.StackAt.{StackAt}
use Rattle.grid_pieces.specs.Piece.{Among}
use Rattle.lef_tech.specs.declared.tech.Tech.{Tech}
use Rattle.via_arrays.specs.Pairs.{HasResistance}
use Rattle.wire_chains.specs.declared.via.ViaAt.{ViaAt}
use Rattle.wire_chains.specs.Chain.{IsChain, ComesBefore}
use Rattle.wire_names.specs.declared.record.NamedVia.{NamedVia}
use Rattle.wire_names.specs.declared.record.Spot.{Spot}
use Rattle.wire_pieces.specs.Centre.{IsHeld}
use Rattle.wire_stacks.specs.declared.error.OffError.{OffError}
use Rattle.wire_stacks.specs.declared.error.OffError.TheVariants.{ViaOff, Want}
use Rattle.wire_stacks.specs.Crossing.{IsCrossing}
use Rattle.wire_stacks.specs.Vias.{via_at, array_of, AreViasAt}

-- A chain of vias with its stack.
pub record Stacked : Type 0 where
  pub chain : List ViaAt
  pub at : StackAt

-- The lowest via of a chain.
pub record Begins (chain : List ViaAt) (at : StackAt) : Type 0 where
  pub net : (d : ViaAt) → (slice_index_or chain 0 d).net ≡ at.net
  pub x : (d : ViaAt) → (slice_index_or chain 0 d).x ≡ at.x
  pub y : (d : ViaAt) → (slice_index_or chain 0 d).y ≡ at.y
  pub layer : (d : ViaAt) → (slice_index_or chain 0 d).layer ≡ at.stack.from

-- The stack of a chain: an array of cuts for each via with the resistance that its cuts have together, bottom up; and the
-- smallest rectangle that holds their metal.
pub record IsStackOf (tech : Tech) (vias : List NamedVia) (chain : List ViaAt) (at : StackAt) : Type 0 where
  pub begins : Begins chain at
  pub ends : at.stack.to ≡ at.stack.from + length chain
  pub arrays : at.stack.arrays ≡ map (λ (via : ViaAt). array_of (via_at vias via.via)) chain
  pub as_many : length at.stack.ohms ≡ length chain
  pub ohms : (k : ℕ) (via : ViaAt) (r : ℕ) → slice_get chain k ≡ Some via → slice_get at.stack.ohms k ≡ Some r
      → HasResistance tech (via_at vias via.via).rule (array_of (via_at vias via.via)) r
  pub crossing : IsCrossing vias chain at.x at.y at.crossing

-- Stacks are compared by net, x, y, lowest and highest layer and crossing, in turn.
abbrev pub place_order : StackAt → StackAt → Ordering
place_order a b = ordering_then
    (ordering_then (ordering_then (ordering_then (nat_cmp a.net b.net) (int_cmp a.x b.x)) (int_cmp a.y b.y))
    (nat_cmp a.stack.from b.stack.from)) (nat_cmp a.stack.to b.stack.to)

abbrev pub stack_order : StackAt → StackAt → Ordering
stack_order a b = ordering_then
    (ordering_then (ordering_then (ordering_then (place_order a b) (int_cmp a.crossing.x1 b.crossing.x1))
    (int_cmp a.crossing.y1 b.crossing.y1)) (int_cmp a.crossing.x2 b.crossing.x2))
    (int_cmp a.crossing.y2 b.crossing.y2)

-- One goes before another: its stack does, or where those are alike, its chain does.
abbrev pub GoesBefore : Stacked → Stacked → Type 0
GoesBefore a b = (is_lt (stack_order a.at b.at) ≡ true)
    ⊎ ((stack_order a.at b.at ≡ Equal) × ComesBefore a.chain b.chain)

-- All maximal chains of the vias at their places, each once and in order, with their stacks.
pub record AreStacked (tech : Tech) (vias : List NamedVia) (spots : List Spot) (pieces : List Piece)
    (stacked : List Stacked) : Type 0 where
  pub placed : List ViaAt
  pub are_placed : AreViasAt vias pieces spots placed
  pub each : All (λ (s : Stacked). IsChain placed s.chain) stacked
  pub stacks : All (λ (s : Stacked). IsStackOf tech vias s.chain s.at) stacked
  pub every : (chain : List ViaAt) → IsChain placed chain → Among (λ (s : Stacked). s.chain ≡ chain) stacked
  pub in_order : AllPairs GoesBefore stacked

-- The lower end of a stack lies on the centre line of a piece of its net and layer, and so does its upper end.
abbrev pub HasLowEnd : List Piece → StackAt → Type 0
HasLowEnd pieces at = IsHeld pieces at.net at.stack.from at.x at.y

abbrev pub HasHighEnd : List Piece → StackAt → Type 0
HasHighEnd pieces at = IsHeld pieces at.net at.stack.to at.x at.y

abbrev pub HasEnds : List Piece → StackAt → Type 0
HasEnds pieces at = HasLowEnd pieces at × HasHighEnd pieces at

-- The stacks of the vias.
pub record AreStacks (tech : Tech) (vias : List NamedVia) (spots : List Spot) (pieces : List Piece)
    (stacks : List StackAt) : Type 0 where
  pub stacked : List Stacked
  pub are_stacked : AreStacked tech vias spots pieces stacked
  pub are : stacks ≡ map (λ (s : Stacked). s.at) stacked
  pub ends : All (HasEnds pieces) stacks

-- The via at the lower end, where that end lies on no piece; else the via at the upper end, where that one does not.
abbrev pub IsEndOff : List Piece → Stacked → ℕ → Type 0
IsEndOff pieces s via =
    ((HasLowEnd pieces s.at → ⊥) × ((d : ViaAt) → (slice_index_or s.chain 0 d).via ≡ via))
    ⊎ (HasLowEnd pieces s.at × (HasHighEnd pieces s.at → ⊥)
    × ((d : ViaAt) → (slice_index_or s.chain (length s.chain - 1) d).via ≡ via))

-- The first stack with an end that lies on no piece: which via is there, and its place.
pub record IsFirstOff (tech : Tech) (vias : List NamedVia) (spots : List Spot) (pieces : List Piece) (via : ℕ) (x y : ℤ)
    : Type 0 where
  pub stacked : List Stacked
  pub are_stacked : AreStacked tech vias spots pieces stacked
  pub number : ℕ
  pub one : Stacked
  pub stands : slice_get stacked number ≡ Some one
  pub off : IsEndOff pieces one via
  pub at_x : one.at.x ≡ x
  pub at_y : one.at.y ≡ y
  pub before : (k : ℕ) (other : Stacked) → k < number → slice_get stacked k ≡ Some other → HasEnds pieces other.at

-- Why there are none. Want of memory is free.
abbrev pub AreOff : Tech → List NamedVia → List Spot → List Piece → OffError → Type 0
AreOff tech vias spots pieces (ViaOff via x y) = IsFirstOff tech vias spots pieces via x y
AreOff tech vias spots pieces Want = Unit {0}

-- What a stack keeps: it is of one of the two nets, its layers stand, and it has an array and a resistance for each layer.
pub record StackStands (tech : Tech) (at : StackAt) : Type 0 where
  pub net : at.net < 2
  pub rising : at.stack.from < at.stack.to
  pub layers : at.stack.to < length tech.routing
  pub arrays : length at.stack.arrays ≡ at.stack.to - at.stack.from
  pub ohms : length at.stack.ohms ≡ at.stack.to - at.stack.from
  pub upright : IsInOrder at.crossing
