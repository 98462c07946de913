-- What the step to the taps of a block keeps.
use Rattle.std.specs.Prelude.{◌≡◌, ◌≢◌, ◌⊎◌, ℕ, Bool, true, false, List, [], ◌++◌}
use Rattle.grid_network.specs.declared.pad.Tap.{Tap}
use Rattle.grid_pieces.specs.declared.grid.DomainAt.{DomainAt}
use Rattle.load_shares.specs.declared.share.Share.{Share}
use Rattle.macro_grid.specs.declared.record.MacroGrid.{MacroGrid}
use Rattle.pin_taps.specs.Fed.{feeding}
use Rattle.pin_taps.specs.Taps.{block_taps}

-- The taps of the block are added, or no piece feeds one of the nets.
abbrev pub AddsBlock : MacroGrid → ℕ → DomainAt → Share → List Tap → List Tap → Bool → Type 0
AddsBlock drawn number domain load old new true = (feeding drawn number domain.power ≢ [])
    × (feeding drawn number domain.ground ≢ []) × (new ≡ old ++ block_taps drawn number domain load)
AddsBlock drawn number domain load old new false =
    (feeding drawn number domain.power ≡ []) ⊎ (feeding drawn number domain.ground ≡ [])
