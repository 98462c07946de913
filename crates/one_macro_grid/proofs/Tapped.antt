-- There is one list of load taps on pins and on rails.
use Rattle.std.proofs.Common.{◌≡◌, ◌⊎◌, inl, inr, ℕ, ℤ, pos, Bool, true, false, List, [], sym, ap, ◌∙◌}
use Rattle.std.proofs.lemmas.Option.{same_Some}
use Rattle.geom_rect.specs.declared.direction.Orient.{Orient}
use Rattle.lef_cells.specs.declared.record.Cells.{Cells}
use Rattle.lef_cells.specs.Limits.{CellsKeep}
use Rattle.def_design.specs.declared.record.Component.{Component}
use Rattle.def_design.specs.declared.record.Design.{Design}
use Rattle.bias_file.specs.declared.record.Bias.{Bias}
use Rattle.bias_file.specs.Limits.{BiasKeeps}
use Rattle.grid_pieces.specs.declared.grid.DomainAt.{DomainAt}
use Rattle.grid_network.specs.declared.pad.Tap.{Tap}
use Rattle.block_grids.specs.Blocks.{is_block, numbered}
use Rattle.macro_grid.specs.declared.record.MacroGrid.{MacroGrid}
use Rattle.pin_taps.specs.Taps.{block_taps, IsOwned, AreBlockTaps, AreTapsBy, AreMacroTapsFor, AreMacroTaps, IsMacroLoadOff}
use Rattle.one_network.specs.Laws.Lists.{in_order_one}
use Rattle.grid_taps.specs.Laws.Unique.{one_range, one_owner}
use Rattle.one_network.specs.Laws.Tapped.{taps_of_one}

module _ (drawn : MacroGrid) (cells : Cells) (design : Design) (bias : Bias) where
  -- which components are off, and what all taps are
  abbrev pub Off : ℕ → Type 0
  Off = IsMacroLoadOff drawn cells bias design.components

  abbrev pub Loads : List Tap → Type 0
  Loads = AreMacroTaps drawn cells bias design.components

  one_domain : (component : Component) (domain domain' : DomainAt) → IsOwned drawn.grid component domain → IsOwned drawn.grid component domain' → domain ≡ domain'
  one_domain component domain domain' p q =
      let place : ℤ × ℤ × Orient = (p.x, p.y, p.orient) in
      let place' : ℤ × ℤ × Orient = (q.x, q.y, q.orient) in
      let same : place ≡ place' = same_Some place place' (sym p.place ∙ q.place) in
      one_owner drawn.grid (p.x, p.y) (q.x, q.y) domain domain' (ap (λ (z : ℤ × ℤ × Orient). (z.0, z.1)) same) p.owner q.owner

  block_taps_one : (number : ℕ) (component : Component) (low high low' high' : ℤ) (a b : List Tap) → low ≡ low' → high ≡ high'
      → AreBlockTaps drawn number component low high a → AreBlockTaps drawn number component low' high' b → a ≡ b
  block_taps_one number component low high low' high' a b same_low same_high p q =
      let domain = one_domain component p.domain q.domain p.owned q.owned in
      p.are ∙ (λ i. block_taps drawn number (domain i) (record { low = same_low i; high = same_high i })) ∙ sym q.are

  taps_by_one : CellsKeep cells → (block : Bool) (number : ℕ) (component : Component) (low high low' high' : ℤ) (a b : List Tap) → low ≡ low' → high ≡ high'
      → AreTapsBy block drawn cells number component low high a → AreTapsBy block drawn cells number component low' high' b → a ≡ b
  taps_by_one keep true number component low high low' high' a b same_low same_high p q = block_taps_one number component low high low' high' a b same_low same_high p q
  taps_by_one keep false number component low high low' high' a b same_low same_high p q = taps_of_one drawn.grid cells keep component low high low' high' a b same_low same_high p q

  taps_for_one : CellsKeep cells → BiasKeeps bias → (one : ℕ × Component) (a b : List Tap) → AreMacroTapsFor drawn cells bias one a → AreMacroTapsFor drawn cells bias one b → a ≡ b
  taps_for_one keep keeps (number, component) a b (low, high, range, case) (low', high', range', case') = by case case'
    where
      same : (low ≡ low') × (high ≡ high')
      same = one_range bias keeps component low high low' high' range range'

      by : (((high ≡ pos 0) × (a ≡ [])) ⊎ ((high ≡ pos 0 → ⊥) × AreTapsBy (is_block cells component) drawn cells number component low high a))
          → (((high' ≡ pos 0) × (b ≡ [])) ⊎ ((high' ≡ pos 0 → ⊥) × AreTapsBy (is_block cells component) drawn cells number component low' high' b)) → a ≡ b
      by (inl p) (inl q) = p.1 ∙ sym q.1
      by (inl p) (inr q) = absurd (q.0 (sym same.1 ∙ p.0))
      by (inr p) (inl q) = absurd (p.0 (same.1 ∙ q.0))
      by (inr p) (inr q) = taps_by_one keep (is_block cells component) number component low high low' high' a b same.0 same.1 p.1 q.1

  pub loads_one : CellsKeep cells → BiasKeeps bias → (a b : List Tap) → Loads a → Loads b → a ≡ b
  loads_one keep keeps a b p q = in_order_one (AreMacroTapsFor drawn cells bias) (taps_for_one keep keeps) (numbered design.components) a b p q
