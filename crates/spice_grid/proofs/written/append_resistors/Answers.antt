use Rattle.std.proofs.Common.{◌≡◌, ℕ, List, [], ◌+◌, ◌<◌, length, take, pos, get_or, ap, ◌∙◌, rules, to_z, of_z}
use Rattle.std.specs.Int.{w128}
use Rattle.std.specs.List.{flat_map, enumerate_from}
use Rattle.std.proofs.lemmas.List.{get_or_default}
use Rattle.std.proofs.lemmas.List.Elements.{All-get_or}
use Rattle.fixed_decimal.specs.Printed.{printed}
use Rattle.grid_net.specs.declared.part.Resistor.{Resistor}
use Rattle.spice_grid.specs.Written.{resistor_line, numbered_card}
use Rattle.spice_grid.proofs.LineLemmas.{line_more, grown_twice, grown_by_line, whole_card, card_of}
use Rattle.spice_grid.proofs.written.append_resistors.Goals as goal

pub loop-place-preserved : goal.loop-place-preserved
loop-place-preserved c =
    let none : Resistor = record { a = 0; b = 0; ohms = pos 0 } in
    let i = c.loop-place.place in
    let names : List (List ℕ) = c.args.names.now in
    let resistor : Resistor = get_or c.args.resistors.now i none in
    let ends = All-get_or (λ r. (r.a < length names) × (r.b < length names)) c.args.resistors.now i none c.loop-place-test.true c.requires.ends in
    let from = c.bytes-from.ensures ∙ c.index-names-resistor.is ∙ get_or_default names resistor.a c.index-names-resistor.result [] ends.0 in
    let to = c.bytes-to.ensures ∙ c.index-names-resistor-in-loop-place.is ∙ get_or_default names resistor.b c.index-names-resistor-in-loop-place.result [] ends.1 in
    let kept : to_z w128 (of_z w128 resistor.ohms) ≡ resistor.ohms = search rules in
    let value = ap (λ z. numbered_card 82 (i + 1) c.bytes-from.result.now c.bytes-to.result.now (printed z 9)) kept ∙ card_of 82 (i + 1) (printed resistor.ohms 9) from to in
    let card = grown_twice _ _ _ _ _ _ c.in_ok-append_head.ensures c.in_ok-append_value.ensures (whole_card 82 (i + 1) c.bytes-from.result.now c.bytes-to.result.now _ ∙ value) in
    grown_by_line _ _ _ (flat_map (resistor_line names) (enumerate_from 1 (take i c.args.resistors.now))) _ _ c.loop-place.invariant card (line_more (resistor_line names) c.args.resistors.now i none c.loop-place-test.true)
