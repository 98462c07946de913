-- Taps of one component after another.
use Rattle.std.proofs.Common.{◌≡◌, ◌≢◌, ◌⊎◌, inl, inr, Bool, true, false, ℕ, ◌+◌, ◌<◌, ◌≤◌, ℤ, pos, List, [], take, length, refl, sym, ap, ◌∙◌, subst, arith}
use Rattle.std.proofs.lemmas.Bool.{cases_lt}
use Rattle.std.proofs.lemmas.List.{take_all}
use Rattle.std.proofs.lemmas.List.FromFn.{length-enumerate_from}
use Rattle.lef_cells.specs.declared.record.Cells.{Cells}
use Rattle.lef_cells.specs.Limits.{CellsKeep}
use Rattle.def_design.specs.declared.record.Component.{Component}
use Rattle.bias_file.specs.declared.record.Bias.{Bias}
use Rattle.bias_file.specs.Limits.{BiasKeeps}
use Rattle.block_grids.specs.Blocks.{is_block, numbered}
use Rattle.grid_pieces.specs.declared.grid.DomainAt.{DomainAt}
use Rattle.grid_network.specs.declared.pad.Tap.{Tap}
use Rattle.grid_taps.specs.Naming.{At, IsLeast}
use Rattle.grid_taps.specs.Pads.{InOrder}
use Rattle.grid_taps.specs.Taps.{IsRange, IsUnowned}
use Rattle.grid_taps.specs.Laws.Ordered.{order_more}
use Rattle.grid_taps.specs.Laws.Unique.{one_at, one_range, tapped_lacks_none}
use Rattle.macro_grid.specs.declared.record.MacroGrid.{MacroGrid}
use Rattle.pin_taps.specs.declared.tapping.BlockTables.{BlockTables}
use Rattle.pin_taps.specs.Fed.{feeding}
use Rattle.pin_taps.specs.Taps.{block_taps, IsOwned, AreTapsBy, AreMacroTapsFor, LacksPin, HasNoTapsBy, IsMacroLoadOff}
use Rattle.pin_taps.specs.inside.Blocks.{AddsBlock}
use Rattle.pin_taps.specs.inside.Tapping.{IsOff, AddsTaps, AreAllTapped, AreBlockTables}
use Rattle.pin_taps.proofs.Owned.{one_domain, owned_or_not}
use Rattle.pin_taps.proofs.Shared.{numbered_at}

-- ## one component

-- the taps of a block
pub block_added : (drawn : MacroGrid) (cells : Cells) (bias : Bias) (number : ℕ) (component : Component) (low high : ℤ) (domain : DomainAt) (taps new : List Tap) (fed : Bool)
    → is_block cells component ≡ true → IsRange bias component low high → (high ≡ pos 0 → ⊥) → IsOwned drawn.grid component domain
    → AddsBlock drawn number domain (record { low = low; high = high }) taps new fed → AddsTaps drawn cells bias number component taps new fed
block_added drawn cells bias number component low high domain taps new true block range some owned (power, ground_fed, join) = (
  block_taps drawn number domain (record { low = low; high = high }),
  (
    low,
    high,
    range,
    inr (
      some,
      subst (λ (b : Bool). AreTapsBy b drawn cells number component low high (block_taps drawn number domain (record { low = low; high = high }))) (sym block)
          (record { domain = domain; owned = owned; power_fed = power; ground_fed = ground_fed; are = refl }),
    ),
  ),
  join,
)
block_added drawn cells bias number component low high domain taps new false block range some owned unfed =
    (low, high, range, some, subst (λ (b : Bool). HasNoTapsBy b drawn cells number component) (sym block) (inr (lacks unfed)))
  where
    lacks : (feeding drawn number domain.power ≡ []) ⊎ (feeding drawn number domain.ground ≡ []) → LacksPin drawn number component
    lacks (inl none) = record { domain = domain; owned = owned; net = domain.power; of_domain = inl refl; none = none }
    lacks (inr none) = record { domain = domain; owned = owned; net = domain.ground; of_domain = inr refl; none = none }

-- a block that no domain owns
pub block_unowned : (drawn : MacroGrid) (cells : Cells) (bias : Bias) (number : ℕ) (component : Component) (low high : ℤ) → is_block cells component ≡ true
    → IsRange bias component low high → (high ≡ pos 0 → ⊥) → IsUnowned drawn.grid component → IsOff drawn cells bias number component
block_unowned drawn cells bias number component low high block range some unowned =
    (low, high, range, some, subst (λ (b : Bool). HasNoTapsBy b drawn cells number component) (sym block) (inl unowned))

-- ## taps or none

fed_or_not : (drawn : MacroGrid) (number net net' : ℕ) → net ≡ net' → feeding drawn number net ≢ [] → feeding drawn number net' ≡ [] → ⊥
fed_or_not drawn number net net' same fed none = fed (ap (feeding drawn number) same ∙ none)

tapped_or_not : (drawn : MacroGrid) (cells : Cells) → CellsKeep cells → (number : ℕ) (component : Component) (low high : ℤ) (taps : List Tap) (b : Bool) → is_block cells component ≡ b
    → AreTapsBy b drawn cells number component low high taps → HasNoTapsBy b drawn cells number component → ⊥
tapped_or_not drawn cells keep number component low high taps false other are none = tapped_lacks_none drawn.grid cells keep component low high taps are none
tapped_or_not drawn cells keep number component low high taps true block are (inl unowned) = owned_or_not drawn.grid component are.domain are.owned unowned
tapped_or_not drawn cells keep number component low high taps true block are (inr lacks) = by_net lacks.of_domain
  where
    by_net : (lacks.net ≡ lacks.domain.power) ⊎ (lacks.net ≡ lacks.domain.ground) → ⊥
    by_net (inl is) =
        fed_or_not drawn number are.domain.power lacks.net
        (ap (λ (d : DomainAt). d.power) (one_domain drawn.grid cells keep component are.domain lacks.domain block are.owned lacks.owned) ∙ sym is) are.power_fed lacks.none
    by_net (inr is) =
        fed_or_not drawn number are.domain.ground lacks.net
        (ap (λ (d : DomainAt). d.ground) (one_domain drawn.grid cells keep component are.domain lacks.domain block are.owned lacks.owned) ∙ sym is) are.ground_fed lacks.none

-- one that has the taps that it needs is not off
not_off : (drawn : MacroGrid) (cells : Cells) (bias : Bias) → CellsKeep cells → BiasKeeps bias → (number : ℕ) (component : Component) (taps : List Tap) (low high : ℤ)
    → AreMacroTapsFor drawn cells bias (number, component) taps → IsRange bias component low high → (high ≡ pos 0 → ⊥)
    → HasNoTapsBy (is_block cells component) drawn cells number component → ⊥
not_off drawn cells bias keep keeps number component taps low high (low', high', range, by_high) is some none = by_cases by_high
  where
    by_cases : ((high' ≡ pos 0) × (taps ≡ [])) ⊎ ((high' ≡ pos 0 → ⊥) × AreTapsBy (is_block cells component) drawn cells number component low' high' taps) → ⊥
    by_cases (inl zero) = some ((one_range bias keeps component low high low' high' is range).1 ∙ zero.0)
    by_cases (inr tapped) = tapped_or_not drawn cells keep number component low' high' taps (is_block cells component) refl tapped.1 none

-- ## one after another

pub record AreTappedTo (drawn : MacroGrid) (cells : Cells) (bias : Bias) (tables : BlockTables) (components : List Component) (i : ℕ) (taps : List Tap) : Type 0 where
  pub tables_are : AreBlockTables drawn cells bias tables
  pub are : InOrder (AreMacroTapsFor drawn cells bias) (take i (numbered components)) taps
  pub none_off : (m : ℕ) → m < i → IsMacroLoadOff drawn cells bias components m → ⊥

pub tapped_none : (drawn : MacroGrid) (cells : Cells) (bias : Bias) (tables : BlockTables) (components : List Component) (taps : List Tap) → taps ≡ []
    → AreBlockTables drawn cells bias tables → AreTappedTo drawn cells bias tables components 0 taps
tapped_none drawn cells bias tables components taps none are = record { tables_are = are; are = none; none_off = λ m less off. absurd (omega arith) }

-- one more component that has its taps
pub tapped_more : (drawn : MacroGrid) (cells : Cells) (bias : Bias) (tables new : BlockTables) (components : List Component) (i : ℕ) (component : Component) (taps all : List Tap)
    → CellsKeep cells → BiasKeeps bias → At components i component → new ≡ tables → AddsTaps drawn cells bias i component taps all true
    → AreTappedTo drawn cells bias tables components i taps → AreTappedTo drawn cells bias new components (i + 1) all
tapped_more drawn cells bias tables new components i component taps all keep keeps at same (added, has, join) h = record {
  tables_are = subst (λ (t : BlockTables). AreBlockTables drawn cells bias t) (sym same) h.tables_are;
  are = subst (λ (z : List Tap). InOrder (AreMacroTapsFor drawn cells bias) (take (i + 1) (numbered components)) z) (sym join)
      (order_more (AreMacroTapsFor drawn cells bias) (numbered components) i (i, component) taps added (omega (arith, at.0, length-enumerate_from 0 components)) h.are
      (subst (λ (z : ℕ × Component). AreMacroTapsFor drawn cells bias z added) (sym (numbered_at components i component at.0 (sym at.1))) has));
  none_off = λ m less off. by_place m off (cases_lt m i) less;
}
  where
    by_place : (m : ℕ) → IsMacroLoadOff drawn cells bias components m → (m < i) ⊎ (i ≤ m) → m < i + 1 → ⊥
    by_place m off (inl before) less = h.none_off m before off
    by_place m off (inr not_before) less =
        let last : m ≡ i = omega arith in
        let one : off.component ≡ component = one_at components m i off.component component last off.is at in
        not_off drawn cells bias keep keeps m off.component added off.low off.high
        (subst (λ (z : Component). AreMacroTapsFor drawn cells bias (m, z) added) (sym one) (subst (λ (n : ℕ). AreMacroTapsFor drawn cells bias (n, component) added) (sym last) has))
        off.range off.some off.none

-- the first that is off
pub first_off : (drawn : MacroGrid) (cells : Cells) (bias : Bias) (tables : BlockTables) (components : List Component) (i : ℕ) (component : Component) (taps : List Tap)
    → At components i component → IsOff drawn cells bias i component → AreTappedTo drawn cells bias tables components i taps
    → IsLeast (IsMacroLoadOff drawn cells bias components) i
first_off drawn cells bias tables components i component taps at (low, high, range, some, none) h = record {
  is = record { component = component; is = at; low = low; high = high; range = range; some = some; none = none };
  least = λ m off. by_place m off (cases_lt m i);
}
  where
    by_place : (m : ℕ) → IsMacroLoadOff drawn cells bias components m → (m < i) ⊎ (i ≤ m) → i ≤ m
    by_place m off (inl before) = absurd (h.none_off m before off)
    by_place m off (inr not_before) = not_before

pub tapped_all : (drawn : MacroGrid) (cells : Cells) (bias : Bias) (tables : BlockTables) (components : List Component) (i : ℕ) (taps : List Tap) → length components ≤ i
    → AreTappedTo drawn cells bias tables components i taps → AreAllTapped drawn cells bias components taps
tapped_all drawn cells bias tables components i taps le h = record {
  are = subst (λ (ns : List (ℕ × Component)). InOrder (AreMacroTapsFor drawn cells bias) ns taps)
      (take_all i (numbered components) (omega (arith, le, length-enumerate_from 0 components))) h.are;
  none_off = λ m off. let within = off.is.0 in h.none_off m (omega arith) off;
}
