-- Stacks that are made of chains, in the order of the chains and in that of a grid.
use Rattle.std.specs.Prelude.{◌≡◌, ℕ, ◌-◌, ◌<◌, List, [], All, length, slice_index_or, Some, slice_get}
use Rattle.std.specs.declared.cmp.Ordering.{Ordering}
use Rattle.std.specs.Ordering.{nat_cmp, ordering_then}
use Rattle.def_wiring.specs.Limits.{IsNear}
use Rattle.geom_rect.specs.Rect.{IsInOrder}
use Rattle.lef_tech.specs.declared.tech.Tech.{Tech}
use Rattle.via_arrays.specs.Pairs.{HasResistance}
use Rattle.wire_chains.specs.declared.via.ViaAt.{ViaAt}
use Rattle.wire_names.specs.declared.record.NamedVia.{NamedVia}
use Rattle.wire_stacks.specs.declared.made.Made.{Made}
use Rattle.wire_stacks.specs.Stacks.{Stacked, IsStackOf, stack_order}
use Rattle.wire_stacks.specs.Vias.{via_at, array_of}
use Rattle.wire_stacks.specs.inside.Halves.{IsUsable}

-- A chain with a via, of vias that are usable and near.
pub record IsChainOf (vias : List NamedVia) (chain : List ViaAt) : Type 0 where
  pub some : 0 < length chain
  pub usable : All (IsUsable vias) chain
  pub near : All (λ (via : ViaAt). IsNear via.x × IsNear via.y) chain

-- The resistances of the arrays of a chain, in turn.
pub record HaveResistances (tech : Tech) (vias : List NamedVia) (chain : List ViaAt) (ohms : List ℕ) : Type 0 where
  pub as_many : length ohms ≡ length chain
  pub each : (k : ℕ) (via : ViaAt) (r : ℕ) → slice_get chain k ≡ Some via → slice_get ohms k ≡ Some r
      → HasResistance tech (via_at vias via.via).rule (array_of (via_at vias via.via)) r

-- The stack of a chain with its number and its ends.
pub record IsMade (tech : Tech) (vias : List NamedVia) (chain : List ViaAt) (number : ℕ) (made : Made) : Type 0 where
  pub is_number : made.number ≡ number
  pub low : (d : ViaAt) → (slice_index_or chain 0 d).via ≡ made.low
  pub high : (d : ViaAt) → (slice_index_or chain (length chain - 1) d).via ≡ made.high
  pub stack : IsStackOf tech vias chain made.at
  pub upright : IsInOrder made.at.crossing

-- Those of all chains, in turn.
pub record AreMade (tech : Tech) (vias : List NamedVia) (chains : List (List ViaAt)) (made : List Made) : Type 0 where
  pub as_many : length made ≡ length chains
  pub each : (k : ℕ) (chain : List ViaAt) (one : Made) → slice_get chains k ≡ Some chain → slice_get made k ≡ Some one
      → IsMade tech vias chain k one

-- By their stacks, and then by their numbers.
abbrev pub made_order : Made → Made → Ordering
made_order a b = ordering_then (stack_order a.at b.at) (nat_cmp a.number b.number)

-- The chain and the stack of what was made.
abbrev pub stacked_of : List (List ViaAt) → Made → Stacked
stacked_of chains one = record { chain = slice_index_or chains one.number []; at = one.at }
