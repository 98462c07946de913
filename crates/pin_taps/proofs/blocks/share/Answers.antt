use Rattle.std.proofs.Common.{ℕ, length, get_or, ap, ◌∙◌, arith}
use Rattle.std.proofs.lemmas.List.{get_or_default}
use Rattle.std.proofs.lemmas.List.FromFn.{length-map-range_with_len}
use Rattle.load_shares.specs.Shares.{share_at}
use Rattle.pin_taps.specs.Taps.{tap_on}
use Rattle.pin_taps.proofs.Shared.{given_more, given_all, share_read}
use Rattle.pin_taps.proofs.blocks.share.Goals as goal

pub index-requires : goal.index-requires
index-requires c =
    let long = ap length c.in_ok-shares.ensures.each in
    let counted = c.in-Ok.ensures in
    omega (arith, long, length-map-range_with_len (share_at c.args.load c.in-Ok.count) 0 c.in-Ok.count, counted.1, c.loop-place-test.true)

pub loop-place-preserved : goal.loop-place-preserved
loop-place-preserved c =
    let pieces = c.args.pieces.now in
    let numbers = c.args.numbers.now in
    let load = c.args.load in
    let place = c.loop-place.place in
    let number : ℕ = get_or numbers place 0 in
    c.in_ok-push.ensures.items
    ∙ given_more (λ (at : ℕ × ℕ). tap_on pieces at.1 (share_at load (length numbers) at.0)) numbers place number c.tap_on.result c.args.taps.now.items c.loop-place.taps.items
    c.loop-place-test.true (get_or_default numbers place 0 number c.loop-place-test.true)
    (c.tap_on.ensures ∙ ap (tap_on pieces number) (share_read load c.in-Ok.count (length numbers) place c.in_ok-shares.shares.items c.index.result.now
    c.in-Ok.ensures.1 c.loop-place-test.true c.in_ok-shares.ensures.each c.index.ensures))
    c.loop-place.invariant

pub returns : goal.returns
returns c =
    given_all (λ (at : ℕ × ℕ). tap_on c.args.pieces.now at.1 (share_at c.args.load (length c.args.numbers.now) at.0)) c.args.numbers.now c.loop-place.place c.args.taps.now.items
    c.loop-place.taps.items c.loop-place-test.false c.loop-place.invariant
