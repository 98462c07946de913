use Rattle.std.proofs.Common.{◌≡◌, ◌↔◌, ◌<◌, ℕ, List, length, get_or, map, sym, ap, ◌∙◌, subst}
use Rattle.std.proofs.lemmas.Slice.Eq.{bytes_eq-Decides}
use Rattle.std.proofs.lemmas.List.{get_or-map, length-map}
use Rattle.lef_tech.specs.declared.layer.RoutingLayer.{RoutingLayer}
use Rattle.grid_taps.specs.Naming.{At}
use Rattle.grid_taps.proofs.on_piece.is_layer.Goals as goal

name_of : RoutingLayer → List ℕ
name_of l = l.name

layer_at : (layers : List RoutingLayer) (k : ℕ) (l : RoutingLayer) (name : List ℕ) → k < length layers → l ≡ get_or layers k l
    → (l.name ≡ name) ↔ At (map (λ (z : RoutingLayer). z.name) layers) k name
layer_at layers k l name within is = (
  λ named. (subst (λ n. k < n) (sym (length-map layers (λ (z : RoutingLayer). z.name))) within, read ∙ named),
  λ at. sym read ∙ at.1,
)
  where
    read : get_or (map (λ (z : RoutingLayer). z.name) layers) k name ≡ l.name
    read = get_or-map (λ (z : RoutingLayer). z.name) layers k l name within ∙ ap (λ (z : RoutingLayer). z.name) (sym is)

pub returns-in-Some : goal.returns-in-Some
returns-in-Some c =
    let told = c.in-Some.ensures.lookup in
    let layers = c.as_slice.result.now in
    let iff = layer_at layers c.args.layer c.in-Some.layer.now c.args.name.now told.3.0 told.1 in
    let there = subst (λ (ls : List RoutingLayer). (c.in-Some.layer.now.name ≡ c.args.name.now) ↔ At (map (λ (z : RoutingLayer). z.name) ls) c.args.layer c.args.name.now) c.as_slice.ensures iff in
    let decides = bytes_eq-Decides c.bytes.result.now c.args.name.now in
    (λ h. there.0 (sym c.bytes.ensures ∙ decides.0 (sym c.eq.ensures ∙ h)), λ at. c.eq.ensures ∙ decides.1 (c.bytes.ensures ∙ there.1 at))
