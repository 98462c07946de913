use Rattle.std.proofs.Common.{◌≡◌, ℕ, ℤ, ◌<◌, List, [], length, take, ap, ◌++◌, ◌∙◌}
use Rattle.std.specs.List.{flat_map, enumerate_from}
use Rattle.std.proofs.lemmas.List.{get_or_default}
use Rattle.signoff_report.specs.Report.{node_words, line_of}
use Rattle.step_texts.specs.Texts.{node_line}
use Rattle.step_texts.proofs.Numbered.{numbered_more, grown}
use Rattle.step_texts.proofs.report.append_nodes.Goals as goal

renamed : (n m : List ℕ) (v w : ℤ × ℤ) → n ≡ m → v ≡ w → line_of (node_words n v) ≡ line_of (node_words m w)
renamed n m v w e f = λ i. line_of (node_words (e i) (f i))

pub loop-node-preserved : goal.loop-node-preserved
loop-node-preserved c =
    let i = c.loop-node.node in
    let names : List (List ℕ) = c.args.names.now in
    let line = node_line c.args.high.now c.args.low.now in
    let within : i < length names = c.loop-node-test.true in
    let name = c.bytes.ensures ∙ c.index-names-node.is ∙ get_or_default names i c.index-names-node.result [] within in
    grown _ _ _ (flat_map line (enumerate_from 0 (take i names))) _ _ c.loop-node.invariant
    (c.in_ok-append_node.ensures ∙ ap (λ l. c.loop-node.out.items ++ l) (renamed _ _ _ _ name c.shown_by.ensures))
    (numbered_more line names i [] within)
