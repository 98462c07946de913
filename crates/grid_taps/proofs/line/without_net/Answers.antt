use Rattle.std.proofs.Common.{◌↔◌, ◌⊎◌, ℕ, List, map, Contains, Option, subst, sym, ap, ◌∙◌}
use Rattle.lef_tech.specs.declared.layer.RoutingLayer.{RoutingLayer}
use Rattle.bias_file.specs.declared.record.Supply.{Supply}
use Rattle.bias_file.specs.declared.record.DropLimit.{DropLimit}
use Rattle.bias_file.specs.declared.record.PadAt.{PadAt}
use Rattle.grid_taps.specs.Naming.{IsFirst, NamesNone, NamesNoNet, layer_names}
use Rattle.grid_taps.specs.inside.Steps.{lesser}
use Rattle.grid_taps.proofs.Firsts.{first_either}
use Rattle.grid_taps.proofs.Unknown.{none_same, map_same}
use Rattle.grid_taps.proofs.line.without_net.Goals as goal

pub returns : goal.returns
returns c =
    let bias = c.args.bias.now in
    let grid_nets = c.args.grid.now.nets in
    let layers_of = layer_names c.args.tech.now in
    let supply_line : Supply → ℕ = λ (s : Supply). s.line in
    let supply_net : Supply → List ℕ = λ (s : Supply). s.net in
    let drop_line : DropLimit → ℕ = λ (d : DropLimit). d.line in
    let drop_net : DropLimit → List ℕ = λ (d : DropLimit). d.net in
    let pad_line : PadAt → ℕ = λ (p : PadAt). p.line in
    let pad_net : PadAt → List ℕ = λ (p : PadAt). p.net in
    let pad_layer : PadAt → List ℕ = λ (p : PadAt). p.layer in
    let nets = subst (λ (xs : List (List ℕ)). (n : List ℕ) → Contains c.in_ok-nets.nets n ↔ Contains xs n) (map_same c.as_slice.result.now ∙ c.as_slice.ensures) c.in_ok-nets.ensures.names in
    let layers = subst (λ (xs : List RoutingLayer). (n : List ℕ) → Contains c.in_ok-layers.layers n ↔ Contains (map (λ (z : RoutingLayer). z.name) xs) n) c.as_slice-2.ensures c.in_ok-layers.ensures.names in
    let s = none_same supply_line supply_net grid_nets c.in_ok-nets.nets c.as_slice-3.result.now bias.supplies c.first_unknown-supply.result nets c.as_slice-3.ensures c.first_unknown-supply.ensures in
    let d = none_same drop_line drop_net grid_nets c.in_ok-nets.nets c.as_slice-4.result.now bias.drops c.first_unknown-drop.result nets c.as_slice-4.ensures c.first_unknown-drop.ensures in
    let p = none_same pad_line pad_net grid_nets c.in_ok-nets.nets c.as_slice-5.result.now bias.pads c.first_unknown-pad.result nets c.as_slice-5.ensures c.first_unknown-pad.ensures in
    let l = none_same pad_line pad_layer layers_of c.in_ok-layers.layers c.as_slice-6.result.now bias.pads c.first_without_layer-layer.result layers c.as_slice-6.ensures c.first_without_layer-layer.ensures in
    let S : ℕ → Type 0 = NamesNone supply_line supply_net grid_nets bias.supplies in
    let D : ℕ → Type 0 = NamesNone drop_line drop_net grid_nets bias.drops in
    let P : ℕ → Type 0 = NamesNone pad_line pad_net grid_nets bias.pads in
    let L : ℕ → Type 0 = NamesNone pad_line pad_layer layers_of bias.pads in
    let last = first_either P L c.first_unknown-pad.result c.first_without_layer-layer.result p l in
    let middle = first_either D (λ n. P n ⊎ L n) c.first_unknown-drop.result (lesser c.first_unknown-pad.result c.first_without_layer-layer.result) d last in
    let all = first_either S (λ n. D n ⊎ P n ⊎ L n) c.first_unknown-supply.result (lesser c.first_unknown-drop.result (lesser c.first_unknown-pad.result c.first_without_layer-layer.result)) s middle in
    subst (λ (o : Option ℕ). IsFirst (NamesNoNet c.args.grid.now c.args.tech.now bias) o)
    (sym (c.lesser-3.ensures ∙ ap (λ (o : Option ℕ). lesser c.first_unknown-supply.result o) (c.lesser-2.ensures ∙ ap (λ (o : Option ℕ). lesser c.first_unknown-drop.result o) c.lesser.ensures)))
    all
