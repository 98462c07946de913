use Rattle.std.proofs.Common.{◌≡◌, ℕ, List, [], ◌+◌, ◌<◌, length, take, pos, get_or, refl, ap, ◌∙◌, rules, to_z, of_z}
use Rattle.std.specs.Int.{w128}
use Rattle.std.specs.List.{flat_map, enumerate_from}
use Rattle.std.proofs.lemmas.List.{get_or_default}
use Rattle.std.proofs.lemmas.List.Elements.{All-get_or}
use Rattle.fixed_decimal.specs.Printed.{printed}
use Rattle.grid_net.specs.declared.part.Pad.{Pad}
use Rattle.spice_grid.specs.Named.{ground}
use Rattle.spice_grid.specs.Written.{pad_line, numbered_card}
use Rattle.spice_grid.proofs.LineLemmas.{line_more, grown_twice, grown_by_line, whole_card, card_of}
use Rattle.spice_grid.proofs.written.append_pads.Goals as goal

pub loop-place-preserved : goal.loop-place-preserved
loop-place-preserved c =
    let none : Pad = record { node = 0; volts = pos 0 } in
    let i = c.loop-place.place in
    let names : List (List ℕ) = c.args.names.now in
    let pad : Pad = get_or c.args.pads.now i none in
    let end = All-get_or (λ p. p.node < length names) c.args.pads.now i none c.loop-place-test.true c.requires in
    let from = c.bytes-name.ensures ∙ c.index-names-pad.is ∙ get_or_default names pad.node c.index-names-pad.result [] end in
    let kept : to_z w128 (of_z w128 pad.volts) ≡ pad.volts = search rules in
    let value = ap (λ z. numbered_card 86 (i + 1) c.bytes-name.result.now ground (printed z 24)) kept ∙ card_of 86 (i + 1) (printed pad.volts 24) {to = ground} from refl in
    let card = grown_twice _ _ _ _ _ _ c.in_ok-append_head.ensures c.in_ok-append_value.ensures (whole_card 86 (i + 1) c.bytes-name.result.now ground _ ∙ value) in
    grown_by_line _ _ _ (flat_map (pad_line names) (enumerate_from 1 (take i c.args.pads.now))) _ _ c.loop-place.invariant card (line_more (pad_line names) c.args.pads.now i none c.loop-place-test.true)
