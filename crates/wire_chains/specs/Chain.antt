-- Chains of vias of one net at one place (this project; vias of special wiring as in the LEF/DEF 5.8 Language Reference,
-- SPECIALNETS).
use Rattle.std.specs.Prelude.{◌≡◌, ◌≢◌, ℕ, ◌+◌, ◌-◌, ◌<◌, true, false, List, All, AllPairs, Contains, length, slice_index_or}
use Rattle.std.specs.declared.cmp.Ordering.{Ordering}
use Rattle.std.specs.Ordering.{nat_cmp, int_cmp, ordering_then, is_lt}
use Rattle.wire_chains.specs.declared.via.ViaAt.{ViaAt}

-- The other via is of the net and at the place of this one, and has this lower layer.
pub record LiesOn (one : ViaAt) (on : ℕ) (other : ViaAt) : Type 0 where
  pub net : other.net ≡ one.net
  pub x : other.x ≡ one.x
  pub y : other.y ≡ one.y
  pub layer : other.layer ≡ on

-- The other via goes on from this one: at the same place of the same net it begins on the layer on which this one ends,
-- and no piece of the net on that layer is there.
pub record IsJoined (one other : ViaAt) : Type 0 where
  pub above : LiesOn one (one.layer + 1) other
  pub free : other.held ≡ false

-- A maximal chain of the vias, bottom up: each goes on from the one before, the first from none, and none from the last.
pub record IsChain (vias chain : List ViaAt) : Type 0 where
  pub some : 0 < length chain
  pub within : All (Contains vias) chain
  pub joined : (k : ℕ) (d : ViaAt) → k + 1 < length chain
      → IsJoined (slice_index_or chain k d) (slice_index_or chain (k + 1) d)
  pub first : (via d : ViaAt) → Contains vias via → IsJoined via (slice_index_or chain 0 d) → ⊥
  pub last : (via d : ViaAt) → Contains vias via → IsJoined (slice_index_or chain (length chain - 1) d) via → ⊥

-- Vias are compared by net, x, y, lower layer and number, in turn.
abbrev pub via_order : ViaAt → ViaAt → Ordering
via_order a b = ordering_then
    (ordering_then (ordering_then (ordering_then (nat_cmp a.net b.net) (int_cmp a.x b.x)) (int_cmp a.y b.y))
    (nat_cmp a.layer b.layer)) (nat_cmp a.number b.number)

-- A chain comes before another: below some via of it the two are alike, and that via comes before the other's.
pub record ComesBefore (one other : List ViaAt) : Type 0 where
  pub place : ℕ
  pub in_one : place < length one
  pub in_other : place < length other
  pub alike : (k : ℕ) (d : ViaAt) → k < place → slice_index_or one k d ≡ slice_index_or other k d
  pub less : (d : ViaAt) → is_lt (via_order (slice_index_or one place d) (slice_index_or other place d)) ≡ true

-- The list has the maximal chains of the vias, all of them, each once and in order.
pub record AreChains (vias : List ViaAt) (chains : List (List ViaAt)) : Type 0 where
  pub each : All (IsChain vias) chains
  pub every : (chain : List ViaAt) → IsChain vias chain → Contains chains chain
  pub in_order : AllPairs ComesBefore chains

-- No two vias have one number.
abbrev pub AreNumbered : List ViaAt → Type 0
AreNumbered vias = AllPairs (λ (a b : ViaAt). a.number ≢ b.number) vias

-- Of two vias of one net at one place on one layer, a piece is there for both or for none.
abbrev pub AreHeldAlike : List ViaAt → Type 0
AreHeldAlike vias = (one other : ViaAt) → Contains vias one → Contains vias other → LiesOn one one.layer other
    → other.held ≡ one.held
