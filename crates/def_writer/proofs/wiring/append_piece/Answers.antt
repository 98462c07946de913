use Rattle.std.proofs.Common.{◌≡◌, ℕ, List, [], ◌++◌, sym, ap, ◌∙◌, to_z, of_z, rules}
use Rattle.std.specs.Int.{w64}
use Rattle.lef_tech.specs.declared.layer.RoutingLayer.{RoutingLayer}
use Rattle.def_writer.specs.Line.{line_of}
use Rattle.def_writer.specs.Via.{layer_name}
use Rattle.def_writer.specs.Wiring.{point_on, wiring_line, piece_words}
use Rattle.def_writer.specs.inside.Wiring.{wire_words, start_of}
use Rattle.def_writer.proofs.TextLemmas.{field_at, grown_twice}
use Rattle.def_writer.proofs.WiringLemmas.{started}
use Rattle.def_writer.proofs.wiring.append_piece.Goals as goal

pub returns : goal.returns
returns c =
    let piece = c.args.piece.now in
    let name : List ℕ = layer_name c.args.tech.now piece.layer in
    let layer : c.bytes-layer.result.now ≡ name =
    c.bytes-layer.ensures ∙ ap (λ (l : RoutingLayer). l.name) (sym c.index-as_slice-piece.is)
    ∙ field_at (λ (l : RoutingLayer). l.name) c.args.tech.now.routing c.as_slice.result.now piece.layer c.index-as_slice-piece.result [] c.as_slice.ensures c.requires c.index-as_slice-piece.is in
    let width : to_z w64 (of_z w64 piece.width) ≡ piece.width = search rules in
    let begins : to_z w64 (of_z w64 piece.from) ≡ piece.from = search rules in
    let ends : to_z w64 (of_z w64 piece.to) ≡ piece.to = search rules in
    let centre : to_z w64 (of_z w64 piece.centre) ≡ piece.centre = search rules in
    let from : c.point_on-from.result ≡ point_on piece.axis piece.from piece.centre = c.point_on-from.ensures ∙ (λ i. point_on piece.axis (begins i) (centre i)) in
    let to : c.point_on-to.result ≡ point_on piece.axis piece.to piece.centre = c.point_on-to.ensures ∙ (λ i. point_on piece.axis (ends i) (centre i)) in
    let line : c.append_wire.new.out.items ≡ c.append_start.new.out.items ++ line_of (piece_words c.args.tech.now piece) =
    c.in_ok-append_wire.ensures ∙ (λ i. c.append_start.new.out.items ++ line_of (wire_words (layer i) (width i) (c.shape_word.ensures i) (from i) (to i))) in
    grown_twice c.args.out.now.items c.append_start.new.out.items c.append_wire.new.out.items (start_of c.args.first) (line_of (piece_words c.args.tech.now piece))
    (line_of (wiring_line c.args.first (piece_words c.args.tech.now piece))) c.in_ok-append_start.ensures line (started c.args.first name _)
