-- Rails in an index, the lowest first.
use Rattle.std.specs.Prelude.{◌≡◌, ℕ, ◌<◌, false, List, map, All, AllPairs, Contains}
use Rattle.std.specs.Ordering.{nat_cmp, int_cmp, ordering_then, is_gt}
use Rattle.std.specs.declared.cmp.Ordering.{Ordering}
use Rattle.geom_rect.specs.declared.direction.Axis.TheVariants.{X}
use Rattle.geom_rect.specs.declared.drawn.Shape.TheVariants.{FollowPin}
use Rattle.grid_pieces.specs.declared.piece.Piece.{Piece}
use Rattle.rect_index.specs.declared.entry.Entry.{Entry}
use Rattle.grid_taps.specs.declared.rail.Rail.{Rail}
use Rattle.grid_taps.specs.Naming.{At}

-- By net, centre, layer and number, in turn.
abbrev pub rail_order : Rail → Rail → Ordering
rail_order a b = ordering_then
    (ordering_then (ordering_then (nat_cmp a.net b.net) (int_cmp a.centre b.centre)) (nat_cmp a.layer b.layer))
    (nat_cmp a.number b.number)

abbrev pub rail_of : ℕ → Piece → Rail
rail_of number p =
    record { net = p.net; layer = p.layer; centre = p.centre; from = p.from; to = p.to; number = number }

-- Its centre line.
abbrev pub rail_entry : Rail → Entry ℕ
rail_entry r =
    record { group = r.net; rect = record { x1 = r.from; y1 = r.centre; x2 = r.to; y2 = r.centre }; item = r.number }

abbrev pub IsDrawnRail : Piece → Type 0
IsDrawnRail p = (p.shape ≡ FollowPin) × (p.axis ≡ X)

-- The rails among the first `count` pieces.
pub record AreRailsOf (pieces : List Piece) (count : ℕ) (rails : List Rail) : Type 0 where
  pub each : All (λ (r : Rail). (p : Piece) × At pieces r.number p × IsDrawnRail p × (r ≡ rail_of r.number p)) rails
  pub every : (number : ℕ) (p : Piece) → number < count → At pieces number p → IsDrawnRail p
      → Contains rails (rail_of number p)

-- The entries of all rails, in order.
pub record AreRailEntries (pieces : List Piece) (entries : List (Entry ℕ)) : Type 0 where
  pub rails : List Rail
  pub each : All (λ (r : Rail). (p : Piece) × At pieces r.number p × IsDrawnRail p × (r ≡ rail_of r.number p)) rails
  pub every : (number : ℕ) (p : Piece) → At pieces number p → IsDrawnRail p → Contains rails (rail_of number p)
  pub in_order : AllPairs (λ (a b : Rail). is_gt (rail_order a b) ≡ false) rails
  pub are : entries ≡ map rail_entry rails
