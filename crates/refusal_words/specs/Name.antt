-- The names of things that a refusal tells by their place in a list. The name is empty where the list has no such place.
use Rattle.std.specs.Prelude.{ℕ, List, [], map, slice_index_or}
use Rattle.def_design.specs.declared.record.Component.{Component}
use Rattle.def_design.specs.declared.record.Design.{Design}
use Rattle.def_design.specs.declared.record.Row.{Row}
use Rattle.def_wiring.specs.declared.record.ViaDef.{ViaDef}
use Rattle.def_wiring.specs.declared.record.WiredNet.{WiredNet}
use Rattle.def_wiring.specs.declared.record.Wires.{Wires}
use Rattle.grid_pieces.specs.declared.grid.Grid.{Grid}
use Rattle.lef_tech.specs.declared.layer.RoutingLayer.{RoutingLayer}
use Rattle.lef_tech.specs.declared.rule.ViaRule.{ViaRule}
use Rattle.lef_tech.specs.declared.tech.Tech.{Tech}
use Rattle.pdn_script.specs.declared.record.Domain.{Domain}
use Rattle.pdn_script.specs.declared.record.Script.{Script}

-- The name of a routing layer.
abbrev pub layer_name : Tech → ℕ → List ℕ
layer_name tech layer = slice_index_or (map (λ (l : RoutingLayer). l.name) tech.routing) layer []

-- The name of a rule of arrays of cuts.
abbrev pub rule_name : Tech → ℕ → List ℕ
rule_name tech rule = slice_index_or (map (λ (r : ViaRule). r.name) tech.rules) rule []

-- The name of a voltage domain.
abbrev pub domain_name : Script → ℕ → List ℕ
domain_name script domain = slice_index_or (map (λ (d : Domain). d.name) script.domains) domain []

-- The name of a row of sites.
abbrev pub row_name : Design → ℕ → List ℕ
row_name design row = slice_index_or (map (λ (r : Row). r.name) design.rows) row []

-- The name of a component.
abbrev pub component_name : Design → ℕ → List ℕ
component_name design component = slice_index_or (map (λ (c : Component). c.name) design.components) component []

-- The name of a net of a grid.
abbrev pub net_name : Grid → ℕ → List ℕ
net_name grid net = slice_index_or grid.nets net []

-- The name of a generated via of wiring.
abbrev pub via_name : Wires → ℕ → List ℕ
via_name wires via = slice_index_or (map (λ (v : ViaDef). v.name) wires.vias) via []

-- The name of a net of wiring.
abbrev pub wired_net_name : Wires → ℕ → List ℕ
wired_net_name wires net = slice_index_or (map (λ (n : WiredNet). n.name) wires.nets) net []
