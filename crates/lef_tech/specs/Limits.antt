-- What every technology keeps: its numbers are within their limits, and what a rule names stands in it.
use Rattle.std.specs.Prelude.{◌≡◌, ℕ, ◌<◌, ◌≤◌, ◌^◌, List, All, AllPairs, length, Option, MatchOption, Some, None}
use Rattle.std.specs.List.{range_with_len, filter_map}
use Rattle.lef_tech.specs.declared.layer.LayerRef.{LayerRef}
use Rattle.lef_tech.specs.declared.layer.LayerRef.TheVariants.{Routing, Cut}
use Rattle.lef_tech.specs.declared.layer.Density.{Density}
use Rattle.lef_tech.specs.declared.layer.Density.TheVariants.{Unlimited, One, Table}
use Rattle.lef_tech.specs.declared.layer.RoutingLayer.{RoutingLayer}
use Rattle.lef_tech.specs.declared.layer.CutLayer.{CutLayer}
use Rattle.lef_tech.specs.declared.rule.ViaRule.{ViaRule}
use Rattle.lef_tech.specs.declared.tech.Tech.{Tech}

-- A length in pm is at most 100 mm.
abbrev pub IsLength : ℕ → Type 0
IsLength length = length ≤ 10 ^ 11

-- The area of a cut in 10^-12 µm² is at most 100 µm².
abbrev pub IsArea : ℕ → Type 0
IsArea area = area ≤ 10 ^ 14

-- A resistance in nΩ is at most 10^9 Ω.
abbrev pub IsOhms : ℕ → Type 0
IsOhms ohms = ohms ≤ 10 ^ 18

-- A density of a wire's current in fA for each µm of width is at most 10^6 mA.
abbrev pub IsWireDensity : ℕ → Type 0
IsWireDensity density = density ≤ 10 ^ 18

-- A density of a cut's current in fA for each µm² of area is at most 1000 mA.
abbrev pub IsCutDensity : ℕ → Type 0
IsCutDensity density = density ≤ 10 ^ 15

-- What is stated keeps its limit.
abbrev pub Keeps : {X : Type 0} → (X → Type 0) → Option X → Type 0
Keeps {X} P stated = MatchOption stated (Unit {0}) P

-- Both numbers are lengths.
abbrev pub AreLengths : ℕ × ℕ → Type 0
AreLengths pair = IsLength pair.0 × IsLength pair.1

-- The two routing layers of a rule stand in the technology, the lower one earlier, and so does its cut layer. Its cut
-- has an area, and is at most its pitch in x and in y.
pub record RuleKeeps (tech : Tech) (rule : ViaRule) : Type 0 where
  pub lower : rule.lower < length tech.routing
  pub upper : rule.upper < length tech.routing
  pub below : rule.lower < rule.upper
  pub cut : rule.cut < length tech.cuts
  pub lower_enclosure : AreLengths rule.lower_enclosure
  pub upper_enclosure : AreLengths rule.upper_enclosure
  pub lower_widths : Keeps AreLengths rule.lower_widths
  pub upper_widths : Keeps AreLengths rule.upper_widths
  pub some_x : 0 < rule.cut_x
  pub some_y : 0 < rule.cut_y
  pub cut_x : rule.cut_x ≤ rule.pitch_x
  pub cut_y : rule.cut_y ≤ rule.pitch_y
  pub pitch_x : IsLength rule.pitch_x
  pub pitch_y : IsLength rule.pitch_y
  pub per_cut : Keeps IsOhms rule.per_cut

-- The points of a table rise.
abbrev pub Rise : List (ℕ × ℕ) → Type 0
Rise points = AllPairs (λ (p q : ℕ × ℕ). p.0 < q.0) points

-- A density keeps its limit. A table has points, which rise and of which each keeps both its limits.
abbrev pub DensityKeeps : (ℕ → Type 0) → (ℕ → Type 0) → Density → Type 0
DensityKeeps IsPoint IsDensity Unlimited = Unit {0}
DensityKeeps IsPoint IsDensity (One density) = IsDensity density
DensityKeeps IsPoint IsDensity (Table points) =
    (0 < length points) × Rise points × All (λ (p : ℕ × ℕ). IsPoint p.0 × IsDensity p.1) points

-- The spacing, the resistance of a square and the density of a routing layer keep their limits.
pub record RoutingKeeps (layer : RoutingLayer) : Type 0 where
  pub spacing : IsLength layer.spacing
  pub sheet : Keeps IsOhms layer.sheet
  pub density : DensityKeeps IsLength IsWireDensity layer.density

-- The resistance of a cut and the density of a cut layer keep their limits.
pub record CutKeeps (layer : CutLayer) : Type 0 where
  pub per_cut : Keeps IsOhms layer.per_cut
  pub density : DensityKeeps IsArea IsCutDensity layer.density

-- The place of a routing layer among the routing layers.
abbrev pub routing_place : LayerRef → Option ℕ
routing_place (Routing k) = Some k
routing_place (Cut k) = None

-- The place of a cut layer among the cut layers.
abbrev pub cut_place : LayerRef → Option ℕ
cut_place (Routing k) = None
cut_place (Cut k) = Some k

-- The numbers from 0 up to below n.
abbrev pub numbers : ℕ → List ℕ
numbers n = range_with_len 0 n

-- In the order of all layers those of each type stand once each and in their order. There are fewer than 2^32 routing
-- layers, cut layers and rules, and all of them keep their limits.
pub record TechKeeps (tech : Tech) : Type 0 where
  pub routing_order : filter_map routing_place tech.order ≡ numbers (length tech.routing)
  pub cut_order : filter_map cut_place tech.order ≡ numbers (length tech.cuts)
  pub few_layers : length tech.routing < 2 ^ 32
  pub few_cuts : length tech.cuts < 2 ^ 32
  pub few_rules : length tech.rules < 2 ^ 32
  pub routing : All RoutingKeeps tech.routing
  pub cuts : All CutKeeps tech.cuts
  pub rules : All (RuleKeeps tech) tech.rules
