use Rattle.std.proofs.Common.{◌≡◌, ◌+◌, ◌<◌, ℕ, ℤ, List, [], length, take, ap, ◌++◌, ◌∙◌, arith}
use Rattle.std.specs.List.{flat_map, enumerate_from}
use Rattle.std.proofs.lemmas.List.{get_or_default}
use Rattle.signoff_report.specs.Report.{node_line, node_words, line_of}
use Rattle.signoff_report.proofs.Lines.{line_more, grown_by_line}
use Rattle.signoff_report.proofs.text.append_nodes.Goals as goal

pub loop-place-preserved : goal.loop-place-preserved
loop-place-preserved c =
    let i = c.loop-place.place in
    let names : List (List ℕ) = c.args.names.now in
    let within : i < length names = c.loop-place-test.true in
    let name = c.bytes.ensures ∙ c.index-names-place.is ∙ get_or_default names i c.index-names-place.result [] within in
    let line = renamed _ _ _ _ name c.voltage_shown.ensures.shown in
    grown_by_line _ _ _ (flat_map (node_line c.args.certified.now) (enumerate_from 0 (take i names))) _ _ c.loop-place.invariant
    (c.in_ok-append_node.ensures ∙ ap (λ l. c.loop-place.out.items ++ l) line)
    (line_more (node_line c.args.certified.now) 0 i names i [] within (omega arith))
  where
    renamed : (n m : List ℕ) (v w : ℤ × ℤ) → n ≡ m → v ≡ w → line_of (node_words n v) ≡ line_of (node_words m w)
    renamed n m v w e f = λ i. line_of (node_words (e i) (f i))
