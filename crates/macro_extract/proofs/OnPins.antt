-- The load taps of a design with blocks lie on their pieces, and their ranges rise.
use Rattle.std.proofs.Common.{◌≡◌, ◌⊎◌, inl, inr, ℕ, ◌+◌, ◌<◌, ℤ, pos, negsuc, ◌+ℤ◌, ◌≤ℤ◌, Bool, true, false, List, [], length, get_or, All, refl, sym, subst, arith}
use Rattle.std.specs.Prelude.{filter}
use Rattle.std.specs.List.{enumerate_from}
use Rattle.std.proofs.lemmas.Int.{ints}
use Rattle.std.proofs.lemmas.List.Elements.{All-nil, All-append, All-map, All-filter}
use Rattle.std.proofs.lemmas.List.FromFn.{length-enumerate_from, get_or-enumerate_from}
use Rattle.rounding.specs.Rounding.{floor_div}
use Rattle.geom_rect.specs.declared.direction.Axis.TheVariants.{X}
use Rattle.geom_rect.specs.declared.drawn.Shape.TheVariants.{Stripe}
use Rattle.lef_cells.specs.declared.record.Cells.{Cells}
use Rattle.def_design.specs.declared.record.Component.{Component}
use Rattle.bias_file.specs.declared.record.Bias.{Bias}
use Rattle.bias_file.specs.Limits.{BiasKeeps}
use Rattle.block_grids.specs.Blocks.{is_block, numbered}
use Rattle.grid_pieces.specs.declared.piece.Piece.{Piece}
use Rattle.grid_pieces.specs.Limits.{PieceKeeps}
use Rattle.grid_network.specs.declared.pad.Tap.{Tap}
use Rattle.grid_network.specs.Asked.{IsOnPiece}
use Rattle.grid_network.specs.Drawing.{piece_at}
use Rattle.grid_taps.specs.Taps.{IsRange}
use Rattle.grid_extract.specs.Laws.OnPieces.{all_in_order, range_rises, IsTapOn, taps_of_one}
use Rattle.load_shares.specs.declared.share.Share.{Share}
use Rattle.load_shares.specs.Laws.Rising.{rises}
use Rattle.load_shares.specs.Shares.{share_at}
use Rattle.macro_grid.specs.declared.record.MacroGrid.{MacroGrid}
use Rattle.pin_pieces.specs.declared.pin.PinPiece.{PinPiece}
use Rattle.pin_taps.specs.Fed.{feeds, feeding}
use Rattle.pin_taps.specs.Keeping.{MacroGridKeeps}
use Rattle.pin_taps.specs.Taps.{middle, tap_on, shared_by, given_back, AreBlockTaps, AreTapsBy, AreMacroTapsFor, AreMacroTaps}

-- ## taps of blocks

-- half of the sum of two ends, rounded down, lies between them
half_between : (sum from to : ℤ) → sum ≡ from +ℤ to → from ≤ℤ to → (from ≤ℤ floor_div sum (pos 2)) × (floor_div sum (pos 2) ≤ℤ to)
half_between (pos n) from to is le = (omega (arith, ints), omega (arith, ints))
half_between (negsuc n) from to is le = (omega (arith, ints), omega (arith, ints))

middle_lies : (piece : Piece) → PieceKeeps piece → (piece.from ≤ℤ middle piece) × (middle piece ≤ℤ piece.to)
middle_lies piece keeps = half_between (piece.from +ℤ piece.to) piece.from piece.to refl (let rising = keeps.1 in omega (arith, ints))

on_middle : (pieces : List Piece) → All PieceKeeps pieces → (number : ℕ) → number < length pieces → IsOnPiece pieces number (middle (piece_at pieces number))
on_middle pieces keep number within =
    let nothing : Piece = record { net = 0; layer = 0; axis = X; centre = pos 0; width = pos 0; from = pos 0; to = pos 0; shape = Stripe } in
    let lies = middle_lies (piece_at pieces number) (keep number nothing within) in
    record { piece = within; not_before = lies.0; not_behind = lies.1 }

module _ (drawn : MacroGrid) (keeps : MacroGridKeeps drawn) where
  -- each of the pieces that share a load has its share at its middle
  shares_lie : (numbers : List ℕ) → All (λ number. number < length drawn.grid.pieces) numbers → (load : Share) → load.low ≤ℤ load.high
      → All (IsTapOn drawn.grid) (shared_by drawn.grid.pieces numbers load)
  shares_lie numbers within load le =
      All-map (IsTapOn drawn.grid) tap (enumerate_from 0 numbers) (λ k d below. let inside : k < length numbers = omega (arith, below, length-enumerate_from 0 numbers) in
      subst (λ (at : ℕ × ℕ). IsTapOn drawn.grid (tap at)) (sym (get_or-enumerate_from 0 numbers k d inside))
      (on_middle drawn.grid.pieces keeps.pieces (get_or numbers k d.1) (within k d.1 inside), rises load.low load.high (length numbers) (0 + k) (omega arith) le))
    where
      tap : ℕ × ℕ → Tap
      tap at = tap_on drawn.grid.pieces at.1 (share_at load (length numbers) at.0)

  -- the pieces that feed a block are pieces of the grid
  fed_within : (component net : ℕ) → All (λ number. number < length drawn.grid.pieces) (feeding drawn component net)
  fed_within component net =
      All-map (λ (number : ℕ). number < length drawn.grid.pieces) (λ (pin : PinPiece). pin.piece) (filter (feeds drawn.grid component net) drawn.pins)
      (All-filter (feeds drawn.grid component net) (λ (pin : PinPiece). pin.piece < length drawn.grid.pieces) drawn.pins keeps.pins)

  block_lies : (number : ℕ) (component : Component) (low high : ℤ) (taps : List Tap) → low ≤ℤ high → AreBlockTaps drawn number component low high taps
      → All (IsTapOn drawn.grid) taps
  block_lies number component low high taps le h =
      let load : Share = record { low = low; high = high } in
      subst (λ (z : List Tap). All (IsTapOn drawn.grid) z) (sym h.are)
      (All-append (IsTapOn drawn.grid) (shared_by drawn.grid.pieces (feeding drawn number h.domain.power) load)
      (shared_by drawn.grid.pieces (feeding drawn number h.domain.ground) (given_back load))
      (shares_lie (feeding drawn number h.domain.power) (fed_within number h.domain.power) load le)
      (shares_lie (feeding drawn number h.domain.ground) (fed_within number h.domain.ground) (given_back load) (omega (arith, ints))))

  -- ## taps of all components

  module _ (cells : Cells) (bias : Bias) (bias_keeps : BiasKeeps bias) where
    taps_by : (block : Bool) (number : ℕ) (component : Component) (low high : ℤ) (taps : List Tap) → IsRange bias component low high → (high ≡ pos 0 → ⊥)
        → AreTapsBy block drawn cells number component low high taps → All (IsTapOn drawn.grid) taps
    taps_by true number component low high taps range some h = block_lies number component low high taps (range_rises bias bias_keeps component low high range) h
    taps_by false number component low high taps range some h = taps_of_one drawn.grid cells bias bias_keeps component taps (low, high, range, inr (some, h))

    taps_for : (at : ℕ × Component) (taps : List Tap) → AreMacroTapsFor drawn cells bias at taps → All (IsTapOn drawn.grid) taps
    taps_for (number, component) taps (low, high, range, by_high) = by_cases by_high
      where
        by_cases : ((high ≡ pos 0) × (taps ≡ [])) ⊎ ((high ≡ pos 0 → ⊥) × AreTapsBy (is_block cells component) drawn cells number component low high taps)
            → All (IsTapOn drawn.grid) taps
        by_cases (inl (_, none)) = subst (λ (z : List Tap). All (IsTapOn drawn.grid) z) (sym none) (All-nil (IsTapOn drawn.grid))
        by_cases (inr (some, are)) = taps_by (is_block cells component) number component low high taps range some are

    pub macro_taps_lie : (components : List Component) (taps : List Tap) → AreMacroTaps drawn cells bias components taps → All (IsTapOn drawn.grid) taps
    macro_taps_lie components taps are =
        all_in_order (AreMacroTapsFor drawn cells bias) (IsTapOn drawn.grid) taps_for (numbered components) taps are
