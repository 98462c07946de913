-- A technology of four routing layers, three cut layers and three rules, for tests.
use Rattle.std.specs.Prelude.{◌≡◌, ◌<◌, ◌≤◌, List, [], ◌∷◌, All, length}
use Rattle.lef_tech.specs.Limits.{Keeps, IsOhms, RoutingKeeps, CutKeeps, TechKeeps}
use Rattle.lef_tech.specs.declared.layer.LayerRef.{LayerRef}
use Rattle.lef_tech.specs.declared.layer.LayerRef.TheVariants.{Routing, Cut}
use Rattle.lef_tech.specs.declared.layer.RoutingLayer.{RoutingLayer}
use Rattle.lef_tech.specs.declared.layer.CutLayer.{CutLayer}
use Rattle.lef_tech.specs.declared.rule.ViaRule.{ViaRule}
use Rattle.lef_tech.specs.declared.tech.Tech.{Tech}
use Rattle.via_arrays.specs.inside.Lengths.{RuleLengths}

-- The rule keeps what a rule of that technology keeps.
pub record RuleFits (rule : ViaRule) : Type 0 where
  pub upper : rule.upper < 4
  pub below : rule.lower < rule.upper
  pub cut : rule.cut < 3
  pub lengths : RuleLengths rule
  pub some_x : 0 < rule.cut_x
  pub some_y : 0 < rule.cut_y
  pub cut_x : rule.cut_x ≤ rule.pitch_x
  pub cut_y : rule.cut_y ≤ rule.pitch_y
  pub per_cut : Keeps IsOhms rule.per_cut

-- All layers from the lowest.
abbrev pub tested_order : List LayerRef
tested_order = Routing 0 ∷ Cut 0 ∷ Routing 1 ∷ Cut 1 ∷ Routing 2 ∷ Cut 2 ∷ Routing 3 ∷ []

-- Four routing layers that keep their limits.
pub record AreLayers (layers : List RoutingLayer) : Type 0 where
  pub keep : All RoutingKeeps layers
  pub count : length layers ≡ 4

-- Three cut layers that do.
pub record AreCuts (cuts : List CutLayer) : Type 0 where
  pub keep : All CutKeeps cuts
  pub count : length cuts ≡ 3

-- Three rules that fit.
pub record AreRules (rules : List ViaRule) : Type 0 where
  pub fit : All RuleFits rules
  pub count : length rules ≡ 3

-- The technology keeps what all keep, and has these layers and rules.
pub record IsTested (tech : Tech) : Type 0 where
  pub keeps : TechKeeps tech
  pub layers : length tech.routing ≡ 4
  pub rules : length tech.rules ≡ 3
