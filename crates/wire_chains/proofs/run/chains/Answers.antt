-- Run by run all chains.
use Rattle.std.proofs.Common.{◌≡◌, ◌++◌, subst, sym, ap, ◌∙◌, arith}
use Rattle.std.specs.List.Sorted.{IsPermutation}
use Rattle.std.proofs.lemmas.List.Sorted.{IsPermutation-sym, Contains-permutation}
use Rattle.wire_chains.specs.Chain.{AreHeldAlike}
use Rattle.wire_chains.specs.inside.Run.{AreFrom, IsStart}
use Rattle.wire_chains.proofs.Column.{starts_at_none}
use Rattle.wire_chains.proofs.Runs.{from_none, from_more, all_chains}
use Rattle.wire_chains.proofs.run.chains.Goals as goal

pub loop-from-init : goal.loop-from-init
loop-from-init c =
    let all = c.in_order-all.result.items in
    (omega arith, starts_at_none all c.in_order-all.ensures.sorted, subst (AreFrom all 0 0) (sym c.new-chains.ensures.items) (from_none all))

pub add_run-requires-clause-held : goal.add_run-requires-clause-held
add_run-requires-clause-held c =
    let all = c.in_order-all.result.items in
    let vias = c.args.vias.items in
    let moved = c.in_order-all.ensures.same in
    let back = IsPermutation-sym vias all moved in
    subst AreHeldAlike (sym c.deref.ensures.value)
    (λ one other has_one has_other level. c.requires.held one other (Contains-permutation all vias one back has_one) (Contains-permutation all vias other back has_other) level)

pub loop-from-preserved : goal.loop-from-preserved
loop-from-preserved c =
    let all = c.in_order-all.result.items in
    let from = c.loop-from.from in
    let to = c.in_ok-from.from in
    let end = c.in_ok-from.ensures in
    let is = c.deref.ensures.value in
    let more = end.added in
    let of : AreFrom all from to more.0 = subst (λ l. AreFrom l from to more.0) is more.2 in (
      omega (arith, end.within, c.deref.ensures.len),
      subst (λ l. IsStart l to) is end.start,
      subst (AreFrom all 0 to) (sym more.1) (from_more all from to c.loop-from.chains.items more.0 c.in_order-all.ensures.sorted (omega (arith, end.behind)) (omega (arith, end.within, c.deref.ensures.len)) c.loop-from.invariant.2 of),
    )

pub returns : goal.returns
returns c = all_chains c.args.vias.items c.in_order-all.result.items c.loop-from.chains.items c.loop-from.from c.in_order-all.ensures.same (omega arith) c.loop-from.invariant.2
