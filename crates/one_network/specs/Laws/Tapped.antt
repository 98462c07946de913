-- A bias file has one list of pads on a grid, and the components have one list of load taps.
use Rattle.std.proofs.Common.{◌≡◌, ◌⊎◌, inl, inr, ℕ, ◌<◌, ℤ, pos, List, [], sym, ap, ◌∙◌, subst, arith}
use Rattle.std.proofs.lemmas.Int.{ints}
use Rattle.std.proofs.lemmas.List.Elements.{All-contains}
use Rattle.lef_tech.specs.declared.tech.Tech.{Tech}
use Rattle.lef_cells.specs.declared.record.Cells.{Cells}
use Rattle.lef_cells.specs.Limits.{CellsKeep}
use Rattle.def_design.specs.declared.record.Component.{Component}
use Rattle.bias_file.specs.declared.record.Bias.{Bias}
use Rattle.bias_file.specs.declared.record.PadAt.{PadAt}
use Rattle.bias_file.specs.Limits.{BiasKeeps}
use Rattle.grid_pieces.specs.declared.grid.Grid.{Grid}
use Rattle.grid_pieces.specs.declared.grid.DomainAt.{DomainAt}
use Rattle.grid_pieces.specs.declared.piece.Piece.{Piece}
use Rattle.grid_network.specs.declared.pad.PadOn.{PadOn}
use Rattle.grid_network.specs.declared.pad.Tap.{Tap}
use Rattle.grid_taps.specs.declared.column.Column.{Column}
use Rattle.grid_taps.specs.Pads.{IsPadOn, AreOnPieces, ArePads}
use Rattle.grid_taps.specs.Rails.{IsNotAbove, IsLowestRail}
use Rattle.grid_taps.specs.Taps.{tap_pair, AreTapsOf, AreTapsFor, AreTaps}
use Rattle.grid_network.specs.Laws.Unique.{same_lists}
use Rattle.grid_taps.specs.Laws.Unique.{one_range, one_place}
use Rattle.one_network.specs.Laws.Lists.{in_order_one}

-- ## pads

on_pieces_one : (grid : Grid) (tech : Tech) (bias : Bias) (pad : PadAt) (a b : List PadOn) → AreOnPieces grid tech bias pad a
    → AreOnPieces grid tech bias pad b → a ≡ b
on_pieces_one grid tech bias pad a b p q =
    same_lists (λ (x y : PadOn). x.piece < y.piece) (λ x y h k. omega (arith, h, k)) a b p.rising q.rising
    (λ one. (λ h. q.every one (All-contains (IsPadOn grid tech bias pad) a one p.each h), λ h. p.every one (All-contains (IsPadOn grid tech bias pad) b one q.each h)))

pub pads_one : (grid : Grid) (tech : Tech) (bias : Bias) (a b : List PadOn) → ArePads grid tech bias a → ArePads grid tech bias b → a ≡ b
pads_one grid tech bias a b p q = in_order_one (AreOnPieces grid tech bias) (on_pieces_one grid tech bias) bias.pads a b p q

-- ## the taps of a component

not_above_both : (rail other : Piece) (number place : ℕ) → IsNotAbove rail number other place → IsNotAbove other place rail number → number ≡ place
not_above_both rail other number place (inl h) (inl k) = absurd (omega (arith, ints, h, k))
not_above_both rail other number place (inl h) (inr k) = let e = k.0 in absurd (omega (arith, ints, h, e))
not_above_both rail other number place (inr h) (inl k) = let e = h.0 in absurd (omega (arith, ints, e, k))
not_above_both rail other number place (inr (c, inl h)) (inr (d, inl k)) = absurd (omega (arith, h, k))
not_above_both rail other number place (inr (c, inl h)) (inr (d, inr k)) = let e = k.0 in absurd (omega (arith, h, e))
not_above_both rail other number place (inr (c, inr h)) (inr (d, inl k)) = let e = h.0 in absurd (omega (arith, e, k))
not_above_both rail other number place (inr (c, inr h)) (inr (d, inr k)) = let p = h.1 in let q = k.1 in omega (arith, p, q)

lowest_one : (grid : Grid) (net net' : ℕ) (column column' : Column) (number number' : ℕ) → net ≡ net' → column ≡ column' → IsLowestRail grid net column number
    → IsLowestRail grid net' column' number' → number ≡ number'
lowest_one grid net net' column column' number number' one same p q =
    let there = subst (λ n. IsLowestRail grid n column' number) one (subst (λ (z : Column). IsLowestRail grid net z number) same p) in
    not_above_both there.rail q.rail number number' (there.lowest number' q.rail q.is q.crosses) (q.lowest number there.rail there.is there.crosses)

pub taps_of_one : (grid : Grid) (cells : Cells) → CellsKeep cells → (component : Component) (low high low' high' : ℤ) (a b : List Tap) → low ≡ low' → high ≡ high'
    → AreTapsOf grid cells component low high a → AreTapsOf grid cells component low' high' b → a ≡ b
taps_of_one grid cells keep component low high low' high' a b same_low same_high p q =
    let place = one_place grid cells keep component p.column q.column p.domain q.domain p.placed q.placed in
    let column = place.0 in
    let power = lowest_one grid p.domain.power q.domain.power p.column q.column p.power q.power (ap (λ (z : DomainAt). z.power) place.1) place.0 p.power_rail q.power_rail in
    let lower = lowest_one grid p.domain.ground q.domain.ground p.column q.column p.ground q.ground (ap (λ (z : DomainAt). z.ground) place.1) place.0 p.ground_rail q.ground_rail in
    p.are ∙ (λ i. tap_pair (column i) (power i) (lower i) (same_low i) (same_high i)) ∙ sym q.are

taps_for_one : (grid : Grid) (cells : Cells) (bias : Bias) → CellsKeep cells → BiasKeeps bias → (component : Component) (a b : List Tap)
    → AreTapsFor grid cells bias component a → AreTapsFor grid cells bias component b → a ≡ b
taps_for_one grid cells bias keep keeps component a b (low, high, range, case) (low', high', range', case') = by case case'
  where
    same : (low ≡ low') × (high ≡ high')
    same = one_range bias keeps component low high low' high' range range'

    by : (((high ≡ pos 0) × (a ≡ [])) ⊎ ((high ≡ pos 0 → ⊥) × AreTapsOf grid cells component low high a))
        → (((high' ≡ pos 0) × (b ≡ [])) ⊎ ((high' ≡ pos 0 → ⊥) × AreTapsOf grid cells component low' high' b)) → a ≡ b
    by (inl p) (inl q) = p.1 ∙ sym q.1
    by (inl p) (inr q) = absurd (q.0 (sym same.1 ∙ p.0))
    by (inr p) (inl q) = absurd (p.0 (same.1 ∙ q.0))
    by (inr p) (inr q) = taps_of_one grid cells keep component low high low' high' a b same.0 same.1 p.1 q.1

pub taps_one : (grid : Grid) (cells : Cells) (bias : Bias) → CellsKeep cells → BiasKeeps bias → (components : List Component) (a b : List Tap)
    → AreTaps grid cells bias components a → AreTaps grid cells bias components b → a ≡ b
taps_one grid cells bias keep keeps components a b p q =
    in_order_one (AreTapsFor grid cells bias) (taps_for_one grid cells bias keep keeps) components a b p q
