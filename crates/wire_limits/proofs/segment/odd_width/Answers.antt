use Rattle.std.proofs.Common.{refl, sym, subst, SFits, w64, rules}
use Rattle.std.proofs.lemmas.Bool.{false≢true}
use Rattle.std.proofs.lemmas.Int.{to_z-of_z}
use Rattle.wire_limits.specs.First.{IsFirstWithout}
use Rattle.wire_limits.specs.Segments.{IsEven}
use Rattle.wire_limits.proofs.Search.{before_more, before_all, first_without}
use Rattle.wire_limits.proofs.segment.odd_width.Goals as goal

pub returns-then-not-is_even : goal.returns-then-not-is_even
returns-then-not-is_even c =
    let xs = c.args.segments.now in
    let i = c.loop-segment.segment-index in
    let x = c.segment-item.result in
    let fits : SFits w64 x.width = search rules in
    let tells = simp to_z-of_z at c.if-not-is_even.ensures in
    let first : IsFirstWithout IsEven xs i x = subst (IsFirstWithout IsEven xs i) (sym c.segment-item.is)
    (first_without IsEven xs i x c.loop-segment-test.true (λ even. false≢true (tells.1 (subst IsEven (sym c.segment-item.is) even))) c.loop-segment.invariant) in
    (i, x, first, simp to_z-of_z)

pub loop-segment-preserved : goal.loop-segment-preserved
loop-segment-preserved c =
    let x = c.segment-item.result in
    let fits : SFits w64 x.width = search rules in
    let tells = simp to_z-of_z at c.if-not-is_even.ensures in
    before_more (λ k. IsEven) c.args.segments.now c.loop-segment.segment-index x c.loop-segment.invariant (subst IsEven c.segment-item.is (tells.0 refl))

pub returns : goal.returns
returns c = before_all (λ k. IsEven) c.args.segments.now c.loop-segment.segment-index c.loop-segment-test.false c.loop-segment.invariant
