-- What the sweep over the pieces of a connect keeps of them.
use Rattle.std.specs.Prelude.{◌≡◌, ◌⊎◌, ℕ, ◌<◌, ℤ, ◌-ℤ◌, ◌+ℤ◌, ◌<ℤ◌, false, List, All, AllPairs, Contains}
use Rattle.std.specs.Ordering.{nat_cmp, int_cmp, ordering_then, is_gt}
use Rattle.geom_rect.specs.Run.{HasCell}
use Rattle.geom_rect.specs.declared.run.Run.{Run}
use Rattle.geom_rect.specs.declared.direction.Axis.{Axis}
use Rattle.grid_stacks.specs.declared.bar.Bar.{Bar}
use Rattle.grid_stacks.specs.declared.bar.Start.{Start}
use Rattle.grid_stacks.specs.declared.connect.Connect.{Connect}
use Rattle.grid_pieces.specs.declared.piece.Piece.{Piece}
use Rattle.geom_rect.specs.Drawn.{half}
use Rattle.grid_pieces.specs.Piece.{Among}
use Rattle.grid_stacks.specs.Crossing.{At}

-- A piece with its edges across it.
abbrev pub bar_of : Piece → Bar
bar_of p = record {
  net = p.net;
  layer = p.layer;
  centre = p.centre;
  low = p.centre -ℤ half p.width;
  high = p.centre
      +ℤ half p.width;
  from = p.from;
  to = p.to;
}

abbrev pub bar_run : Bar → Run
bar_run bar = record { from = bar.from; to = bar.to }

-- The piece goes along the axis, on a layer of the connect.
abbrev pub IsOn : Connect → Axis → Piece → Type 0
IsOn connect axis piece = (piece.axis ≡ axis) × ((piece.layer ≡ connect.from) ⊎ (piece.layer ≡ connect.to))

-- Two bars of one line have no cell in common.
abbrev pub BarsApart : Bar → Bar → Type 0
BarsApart a b = a.net ≡ b.net → a.layer ≡ b.layer → a.centre ≡ b.centre → a.low ≡ b.low → a.high ≡ b.high → (t : ℤ)
    → HasCell (bar_run a) t → HasCell (bar_run b) t → ⊥

-- The bars of these pieces.
pub record AreBarsOf (connect : Connect) (axis : Axis) (pieces : List Piece) (bars : List Bar) : Type 0 where
  pub each : All (λ (bar : Bar). Among (λ (p : Piece). IsOn connect axis p × (bar_of p ≡ bar)) pieces) bars
  pub every : (p : Piece) → Contains pieces p → IsOn connect axis p → Contains bars (bar_of p)
  pub wide : All (λ (bar : Bar). bar.low <ℤ bar.high) bars
  pub apart : AllPairs BarsApart bars

-- None lies below an earlier one.
abbrev pub AreByLow : List Bar → Type 0
AreByLow bars = AllPairs (λ (a b : Bar). is_gt (int_cmp a.low b.low) ≡ false) bars

-- None is of a lower net than an earlier one, and of one net none lies left of an earlier one.
abbrev pub AreByNet : List Bar → Type 0
AreByNet bars = AllPairs (λ (a b : Bar). is_gt (ordering_then (nat_cmp a.net b.net) (int_cmp a.low b.low)) ≡ false) bars

-- Where each bar begins, in order.
pub record AreStarts (bars : List Bar) (starts : List Start) : Type 0 where
  pub every : (p : ℕ) (bar : Bar) → At bars p bar → Contains starts (record { from = bar.from; place = p })
  pub in_order : AllPairs (λ (a b : Start). is_gt (int_cmp a.from b.from) ≡ false) starts

-- The bars of the first of these pieces.
pub record AreBarsTo (connect : Connect) (axis : Axis) (pieces : List Piece) (count : ℕ) (bars : List Bar)
    : Type 0 where
  pub each : All (λ (bar : Bar). (k : ℕ) × (p : Piece) × (k < count) × At pieces k p × IsOn connect axis p
      × (bar_of p ≡ bar)) bars
  pub every : (k : ℕ) (p : Piece) → k < count → At pieces k p → IsOn connect axis p → Contains bars (bar_of p)
  pub wide : All (λ (bar : Bar). bar.low <ℤ bar.high) bars
  pub apart : AllPairs BarsApart bars
