use Rattle.std.proofs.Common.{◌≡◌, ◌+◌, ◌<◌, ℕ, List, [], length, take, get_or, pos, None, ap, ◌++◌, ◌∙◌, arith}
use Rattle.std.specs.List.{flat_map, enumerate_from}
use Rattle.std.proofs.lemmas.List.{get_or_default}
use Rattle.em_rules.specs.declared.words.Verdict.{Verdict}
use Rattle.signoff_report.specs.declared.records.NetLimit.{NetLimit}
use Rattle.signoff_report.specs.Report.{net_line, net_words, line_of}
use Rattle.signoff_report.proofs.Lines.{line_more, grown_by_line}
use Rattle.signoff_report.proofs.text.append_nets.Goals as goal

pub loop-place-preserved : goal.loop-place-preserved
loop-place-preserved c =
    let none : NetLimit = record { name = []; supply = pos 0; drop = None } in
    let i = c.loop-place.place in
    let nets : List NetLimit = c.args.limits.now.nets in
    let items = c.as_slice-net-items.ensures in
    let within : i < length nets = omega (arith, c.loop-place-test.true, ap (λ (l : List NetLimit). length l) items) in
    let net = c.net-item.is ∙ ap (λ (l : List NetLimit). get_or l i c.net-item.result) items ∙ get_or_default nets i c.net-item.result none within in
    let line = renamed _ _ _ _ net c.net_verdict-verdict.ensures in
    grown_by_line _ _ _ (flat_map (net_line c.args.certified.now c.args.limits.now) (enumerate_from 0 (take i nets))) _ _ c.loop-place.invariant
    (c.in_ok-append_net.ensures ∙ ap (λ l. c.loop-place.out.items ++ l) line)
    (line_more (net_line c.args.certified.now c.args.limits.now) 0 i nets i none within (omega arith))
  where
    renamed : (n m : NetLimit) (v w : Verdict) → n ≡ m → v ≡ w → line_of (net_words n v) ≡ line_of (net_words m w)
    renamed n m v w e f = λ i. line_of (net_words (e i) (f i))
