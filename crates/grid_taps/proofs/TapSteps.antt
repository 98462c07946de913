-- Taps of one component after another.
use Rattle.std.proofs.Common.{◌≡◌, ◌⊎◌, inl, inr, true, ℕ, ◌+◌, ◌<◌, ◌≤◌, ℤ, pos, neg_ℤ, ◌-ℤ◌, List, [], take, length, sym, subst, arith}
use Rattle.std.proofs.lemmas.Bool.{cases_lt}
use Rattle.std.proofs.lemmas.Int.{ints}
use Rattle.std.proofs.lemmas.List.{take_all}
use Rattle.lef_cells.specs.declared.record.Cells.{Cells}
use Rattle.lef_cells.specs.Limits.{CellsKeep}
use Rattle.def_design.specs.declared.record.Component.{Component}
use Rattle.bias_file.specs.declared.record.Bias.{Bias}
use Rattle.bias_file.specs.Limits.{BiasKeeps}
use Rattle.grid_pieces.specs.declared.grid.Grid.{Grid}
use Rattle.grid_network.specs.declared.pad.Tap.{Tap}
use Rattle.grid_taps.specs.declared.tapping.TapTables.{TapTables}
use Rattle.grid_taps.specs.Naming.{At, IsLeast}
use Rattle.grid_taps.specs.Pads.{InOrder}
use Rattle.grid_taps.specs.Taps.{AreTapsFor, IsLoadOff}
use Rattle.grid_taps.specs.Tables.{AreTablesOf, IsOff, AddsTaps}
use Rattle.grid_taps.specs.inside.Tapping.{AreAllTapped}
use Rattle.grid_taps.specs.Laws.Ordered.{order_more}
use Rattle.grid_taps.specs.Laws.Unique.{one_at, not_off}

pub zero_less : (z : ℤ) → pos 0 -ℤ z ≡ neg_ℤ z
zero_less z = omega (arith, ints)

pub record AreTappedTo (grid : Grid) (cells : Cells) (bias : Bias) (tables : TapTables) (components : List Component) (i : ℕ) (taps : List Tap) : Type 0 where
  pub tables_are : AreTablesOf grid cells bias tables
  pub are : InOrder (AreTapsFor grid cells bias) (take i components) taps
  pub none_off : (m : ℕ) → m < i → IsLoadOff grid cells bias components m → ⊥

pub tapped_none : (grid : Grid) (cells : Cells) (bias : Bias) (tables : TapTables) (components : List Component) (taps : List Tap) → taps ≡ [] → AreTablesOf grid cells bias tables
    → AreTappedTo grid cells bias tables components 0 taps
tapped_none grid cells bias tables components taps none are = record { tables_are = are; are = none; none_off = λ m less off. absurd (omega arith) }

-- one more component that has its taps
pub tapped_more : (grid : Grid) (cells : Cells) (bias : Bias) (tables new : TapTables) (components : List Component) (i : ℕ) (component : Component) (taps all : List Tap)
    → CellsKeep cells → BiasKeeps bias → At components i component → new ≡ tables → AddsTaps grid cells bias component taps all true
    → AreTappedTo grid cells bias tables components i taps → AreTappedTo grid cells bias new components (i + 1) all
tapped_more grid cells bias tables new components i component taps all keep keeps at same (added, has, join) h = record {
  tables_are = subst (λ (t : TapTables). AreTablesOf grid cells bias t) (sym same) h.tables_are;
  are = subst (λ (z : List Tap). InOrder (AreTapsFor grid cells bias) (take (i + 1) components) z) (sym join)
      (order_more (AreTapsFor grid cells bias) components i component taps added at.0 h.are
      (subst (λ (z : Component). AreTapsFor grid cells bias z added) (sym at.1) has));
  none_off = λ m less off. by_place m off (cases_lt m i) less;
}
  where
    by_place : (m : ℕ) → IsLoadOff grid cells bias components m → (m < i) ⊎ (i ≤ m) → m < i + 1 → ⊥
    by_place m off (inl before) less = h.none_off m before off
    by_place m off (inr not_before) less =
        let one : off.component ≡ component = one_at components m i off.component component (omega arith) off.is at in
        not_off grid cells bias keep keeps off.component added off.low off.high
        (subst (λ (z : Component). AreTapsFor grid cells bias z added) (sym one) has) off.range off.some off.none

-- the first that is off
pub first_off : (grid : Grid) (cells : Cells) (bias : Bias) (tables : TapTables) (components : List Component) (i : ℕ) (component : Component) (taps : List Tap)
    → At components i component → IsOff grid cells bias component → AreTappedTo grid cells bias tables components i taps
    → IsLeast (IsLoadOff grid cells bias components) i
first_off grid cells bias tables components i component taps at (low, high, range, some, none) h = record {
  is = record { component = component; is = at; low = low; high = high; range = range; some = some; none = none };
  least = λ m off. by_place m off (cases_lt m i);
}
  where
    by_place : (m : ℕ) → IsLoadOff grid cells bias components m → (m < i) ⊎ (i ≤ m) → i ≤ m
    by_place m off (inl before) = absurd (h.none_off m before off)
    by_place m off (inr not_before) = not_before

pub tapped_all : (grid : Grid) (cells : Cells) (bias : Bias) (tables : TapTables) (components : List Component) (i : ℕ) (taps : List Tap) → length components ≤ i
    → AreTappedTo grid cells bias tables components i taps → AreAllTapped grid cells bias components taps
tapped_all grid cells bias tables components i taps le h = record {
  are = subst (λ (cs : List Component). InOrder (AreTapsFor grid cells bias) cs taps) (take_all i components le) h.are;
  none_off = λ m off. let within = off.is.0 in h.none_off m (omega arith) off;
}
