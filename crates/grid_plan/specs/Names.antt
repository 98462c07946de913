-- The names that a script and a design may use, and the places at which they stand (LEF/DEF 5.8 Language Reference, LAYER,
-- SITE, MACRO, REGIONS; OpenROAD PDN manual, set_voltage_domain, define_pdn_grid).
use Rattle.std.specs.Prelude.{◌↔◌, ℕ, Bool, List, [], ◌∷◌, map, Contains}
use Rattle.std.specs.List.{list_any}
use Rattle.std.specs.Option.{unwrap_or}
use Rattle.std.specs.Str.{bytes_eq}
use Rattle.name_places.specs.Places.{place_of}
use Rattle.name_table.specs.ByteOrder.{IsInByteOrder}
use Rattle.lef_tech.specs.declared.layer.CutLayer.{CutLayer}
use Rattle.lef_tech.specs.declared.layer.RoutingLayer.{RoutingLayer}
use Rattle.lef_tech.specs.declared.tech.Tech.{Tech}
use Rattle.lef_cells.specs.declared.record.Cells.{Cells}
use Rattle.lef_cells.specs.declared.record.MacroCell.{MacroCell}
use Rattle.lef_cells.specs.declared.record.Site.{Site}
use Rattle.def_design.specs.declared.record.Design.{Design}
use Rattle.def_design.specs.declared.record.Fence.{Fence}
use Rattle.pdn_script.specs.declared.record.Domain.{Domain}
use Rattle.pdn_script.specs.declared.record.GridRule.{GridRule}
use Rattle.pdn_script.specs.declared.record.Script.{Script}

-- The names of the routing and the cut layers, the sites and the macros, the regions, the domains and the grids, each list
-- in its order.
pub record Names : Type 0 where
  pub layers : List (List ℕ)
  pub cuts : List (List ℕ)
  pub sites : List (List ℕ)
  pub macros : List (List ℕ)
  pub regions : List (List ℕ)
  pub domains : List (List ℕ)
  pub grids : List (List ℕ)

abbrev pub names_of : Tech → Cells → Design → Script → Names
names_of tech cells design script = record {
  layers = map (λ (layer : RoutingLayer). layer.name) tech.routing;
  cuts = map (λ (layer : CutLayer). layer.name) tech.cuts;
  sites = map (λ (site : Site). site.name) cells.sites;
  macros = map (λ (cell : MacroCell). cell.name) cells.macros;
  regions = map (λ (region : Fence). region.name) design.regions;
  domains = map (λ (domain : Domain). domain.name) script.domains;
  grids = map (λ (grid : GridRule). grid.name) script.grids;
}

-- The place of a name, 0 where it stands nowhere.
abbrev pub place_in : List (List ℕ) → List ℕ → ℕ
place_in names name = unwrap_or (place_of names name) 0

-- The two nets of a domain.
abbrev pub domain_nets : Domain → List (List ℕ)
domain_nets domain = domain.power ∷ domain.ground ∷ []

-- The names are those of the nets of domains.
abbrev pub HaveNets : List Domain → List (List ℕ) → Type 0
HaveNets domains nets = (name : List ℕ)
    → Contains nets name ↔ ((domain : Domain) × Contains domains domain × Contains (domain_nets domain) name)

-- The nets of a script: those of its domains, in byte order, each once.
pub record AreNets (script : Script) (nets : List (List ℕ)) : Type 0 where
  pub in_order : IsInByteOrder nets
  pub are : HaveNets script.domains nets

-- For each net whether a domain has it as its power.
abbrev pub powers_of : Script → List (List ℕ) → List Bool
powers_of script nets =
    map (λ (net : List ℕ). list_any (λ (domain : Domain). bytes_eq domain.power net) script.domains) nets
