use Rattle.std.proofs.Common.{sym, subst, SFits, w64, rules}
use Rattle.std.proofs.lemmas.Int.{to_z-of_z}
use Rattle.wire_limits.specs.First.{IsFirstWithout}
use Rattle.wire_limits.specs.Segments.{AreEven}
use Rattle.wire_limits.specs.inside.Segments.{FindsOdd, IsFirstOddOf}
use Rattle.wire_limits.proofs.Search.{before_more, before_all, first_without}
use Rattle.wire_limits.proofs.Stages.{odd_one}
use Rattle.wire_limits.proofs.segment.odd_net.Goals as goal

pub returns-in-Some : goal.returns-in-Some
returns-in-Some c =
    let xs = c.args.nets.now in
    let i = c.loop-place.place in
    let x = c.index-nets-place.result in
    let fits : SFits w64 c.in-Some.width = search rules in
    let odd : IsFirstOddOf x.segments c.in-Some.width = subst (λ s. IsFirstOddOf s c.in-Some.width) c.as_slice.ensures c.in-Some.ensures in
    let first : IsFirstWithout AreEven xs i x = subst (IsFirstWithout AreEven xs i) (sym c.index-nets-place.is)
    (first_without AreEven xs i x c.loop-place-test.true (λ even. odd_one x.segments c.in-Some.width odd (subst AreEven (sym c.index-nets-place.is) even)) c.loop-place.invariant) in
    (x, subst (λ p. IsFirstWithout AreEven xs p x) (sym c.in_ok-number-in-Some.ensures) first, simp to_z-of_z odd)

pub loop-place-preserved : goal.loop-place-preserved
loop-place-preserved c =
    let x = c.index-nets-place.result in
    let even : AreEven x = subst (FindsOdd x.segments) c.in-None.is (subst (λ s. FindsOdd s c.odd_width.result) c.as_slice.ensures c.odd_width.ensures) in
    before_more (λ k. AreEven) c.args.nets.now c.loop-place.place x c.loop-place.invariant (subst AreEven c.index-nets-place.is even)

pub returns : goal.returns
returns c = before_all (λ k. AreEven) c.args.nets.now c.loop-place.place c.loop-place-test.false c.loop-place.invariant
