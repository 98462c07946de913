use Rattle.std.proofs.Common.{◌≡◌, ℕ, List, [], ◌∷◌, ◌++◌, sym, ap, ◌∙◌, append_assoc, arith}
use Rattle.lef_tech.specs.declared.layer.RoutingLayer.{RoutingLayer}
use Rattle.def_writer.specs.Via.{via_of, via_name, layer_name}
use Rattle.def_writer.specs.inside.Line.{spaced}
use Rattle.def_writer.specs.inside.Wiring.{place_words, start_of}
use Rattle.def_writer.proofs.LineLemmas.{line_joined}
use Rattle.def_writer.proofs.TextLemmas.{field_at}
use Rattle.def_writer.proofs.WiringLemmas.{started}
use Rattle.def_writer.proofs.wiring.append_array.Goals as goal

parts : (out a b d e new start place name : List ℕ) → a ≡ out ++ start → b ≡ a ++ place → d ≡ b ++ 32 ∷ [] → e ≡ d ++ name → new ≡ e ++ 10 ∷ []
    → new ≡ out ++ (start ++ (place ++ (32 ∷ (name ++ 10 ∷ []))))
parts out a b d e new start place name pa pb pd pe pn =
    pn ∙ ap (λ l. l ++ 10 ∷ []) (pe ∙ ap (λ l. l ++ name) (pd ∙ ap (λ l. l ++ 32 ∷ []) (pb ∙ ap (λ l. l ++ place) pa)))
    ∙ simp append_assoc

pub returns : goal.returns
returns c =
    let out = c.args.out.now.items in
    let first = c.args.first in
    let at = c.args.at in
    let name : List ℕ = via_name (via_of c.args.array.now) in
    let layer : c.bytes-name.result.now ≡ layer_name c.args.tech.now c.args.layer =
    c.bytes-name.ensures ∙ ap (λ (l : RoutingLayer). l.name) (sym c.index-as_slice-layer.is) ∙ field_at (λ (l : RoutingLayer). l.name) c.args.tech.now.routing c.as_slice.result.now c.args.layer c.index-as_slice-layer.result [] c.as_slice.ensures c.requires c.index-as_slice-layer.is in
    let place : c.append_place.new.out.items ≡ c.append_start.new.out.items ++ spaced (place_words (layer_name c.args.tech.now c.args.layer) at) =
    c.in_ok-append_place.ensures ∙ ap (λ l. c.append_start.new.out.items ++ spaced (place_words l at)) layer in
    let named : c.append_name.new.out.items ≡ c.push.new.self.items ++ name = c.in_ok-append_name.ensures ∙ ap (λ v. c.push.new.self.items ++ via_name v) c.via_of.ensures in
    parts out c.append_start.new.out.items c.append_place.new.out.items c.push.new.self.items c.append_name.new.out.items c.push-2.new.self.items (start_of first)
    (spaced (place_words (layer_name c.args.tech.now c.args.layer) at)) name c.in_ok-append_start.ensures place c.in_ok-push.ensures.items named c.in_ok-push-2.ensures.items
    ∙ ap (λ l. out ++ (start_of first ++ l)) (line_joined (place_words (layer_name c.args.tech.now c.args.layer) at) (name ∷ []) (omega arith) (omega arith))
    ∙ ap (λ l. out ++ l) (started first (layer_name c.args.tech.now c.args.layer) _)
