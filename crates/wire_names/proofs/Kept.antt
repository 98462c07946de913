-- What places of a technology's names keep.
use Rattle.std.proofs.Common.{◌≡◌, All, length, ap, ◌∙◌, sym, subst}
use Rattle.std.proofs.lemmas.List.{length-map}
use Rattle.lef_tech.specs.declared.layer.CutLayer.{CutLayer}
use Rattle.lef_tech.specs.declared.layer.RoutingLayer.{RoutingLayer}
use Rattle.lef_tech.specs.declared.rule.ViaRule.{ViaRule}
use Rattle.lef_tech.specs.declared.tech.Tech.{Tech}
use Rattle.def_wiring.specs.Limits.{via_name}
use Rattle.def_wiring.specs.declared.record.Wires.{Wires}
use Rattle.wire_names.specs.declared.pair.Pair.{Pair}
use Rattle.wire_names.specs.declared.record.NamedWires.{NamedWires}
use Rattle.wire_names.specs.declared.tables.Tables.{Tables}
use Rattle.wire_names.specs.Keeping.{NamedKeep, ViaStands, ShapeStands, SpotStands}
use Rattle.wire_names.specs.Names.{Names, names_of}
use Rattle.wire_names.specs.Wiring.{via_of}
use Rattle.wire_names.specs.inside.Tables.{names_in}
use Rattle.wire_names.specs.inside.Placed.{ArePlaced, KeepPlaces}

pub named_keep : (tech : Tech) (wires : Wires) (tables : Tables) (pair : Pair) (named : NamedWires) → names_in tables ≡ names_of tech wires
    → ArePlaced tables wires pair named → KeepPlaces tables named → NamedKeep tech named
named_keep tech wires tables pair named is placed keep =
    let layers : length tables.layers ≡ length tech.routing = ap (λ (n : Names). length n.layers) is ∙ length-map tech.routing (λ (l : RoutingLayer). l.name) in
    let cuts : length tables.cuts ≡ length tech.cuts = ap (λ (n : Names). length n.cuts) is ∙ length-map tech.cuts (λ (l : CutLayer). l.name) in
    let rules : length tables.rules ≡ length tech.rules = ap (λ (n : Names). length n.rules) is ∙ length-map tech.rules (λ (r : ViaRule). r.name) in
    let vias : length tables.vias ≡ length named.vias =
    ap (λ (n : Names). length n.vias) is ∙ length-map wires.vias via_name ∙ sym (length-map wires.vias (via_of (names_in tables))) ∙ ap length (sym placed.vias) in
    record {
      vias = subst (λ n. All (ViaStands n (length tech.cuts) (length tech.rules)) named.vias) layers
          (subst (λ n. All (ViaStands (length tables.layers) n (length tech.rules)) named.vias) cuts
          (subst (λ n. All (ViaStands (length tables.layers) (length tables.cuts) n) named.vias) rules keep.vias));
      shapes = subst (λ n. All (ShapeStands n) named.shapes) layers keep.shapes;
      spots = subst (λ n. All (SpotStands n) named.spots) vias keep.spots;
    }
