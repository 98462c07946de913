use Rattle.std.proofs.Common.{◌≡◌, ◌++◌, [], codes, ◌∙◌, to_z, of_z}
use Rattle.std.specs.Int.{w128}
use Rattle.std.proofs.lemmas.List.{get_or_read}
use Rattle.std.proofs.lemmas.Int.{to_z-of_z}
use Rattle.certificate_file.specs.Written.{row_text}
use Rattle.certificate_file.proofs.Texts.{text_more}
use Rattle.certificate_file.proofs.written.certificate_text.Goals as goal

pub loop-node-preserved : goal.loop-node-preserved
loop-node-preserved c =
    let i = c.loop-node.node in
    let high = c.voltage_of.result in
    let low = c.voltage_of-in-loop-node.result in
    let h : c.write_row.new.text.items ≡ c.loop-node.text.items ++ row_text c.index-names-node.result (to_z w128 (of_z w128 high)) (to_z w128 (of_z w128 low)) = c.in_ok-write_row.ensures in
    text_more (codes "pdn certificate 1\n") c.args.names.now c.args.high.now c.args.low.now i c.loop-node.text.items c.write_row.new.text.items
    c.index-names-node.result (to_z w128 (of_z w128 high)) (to_z w128 (of_z w128 low))
    c.loop-node.invariant h (get_or_read c.args.names.now i c.index-names-node.result c.loop-node-test.true c.index-names-node.is [])
    (to_z-of_z w128 high (record { sfits = c.voltage_of.type_inv }) ∙ c.voltage_of.ensures) (to_z-of_z w128 low (record { sfits = c.voltage_of-in-loop-node.type_inv }) ∙ c.voltage_of-in-loop-node.ensures) c.loop-node-test.true c.requires.high c.requires.low
