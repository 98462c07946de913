use Rattle.std.proofs.Common.{Bool, SFits, w64, of_z, rules, ap}
use Rattle.std.proofs.lemmas.Int.{to_z-of_z}
use Rattle.std.proofs.lemmas.Result.{IfOk-weaker}
use Rattle.pin_taps.specs.inside.Blocks.{AddsBlock}
use Rattle.pin_taps.specs.inside.Tapping.{AddsTaps}
use Rattle.pin_taps.proofs.Owned.{range_keeps, without_seat, owned}
use Rattle.pin_taps.proofs.TapSteps.{block_added, block_unowned}
use Rattle.pin_taps.proofs.tapping.tap_block.Goals as goal

pub returns-in_default-clause-taps : goal.returns-in_default-clause-taps
returns-in_default-clause-taps c =
    let drawn = c.args.drawn.now in
    let cells = c.args.cells.now in
    let component = c.args.component.now in
    let range = c.range_in-range in
    block_unowned drawn cells c.args.bias.now c.args.number component range.result.low range.result.high c.requires.block range.ensures.range
    (λ e. c.if-range-eq0.false (ap (of_z w64) e))
    (without_seat drawn.grid cells component c.requires.block c.in_default.ensures.seat)

pub add_block-requires-clause-load : goal.add_block-requires-clause-load
add_block-requires-clause-load c =
    let range = c.range_in-range in
    let low : SFits w64 range.result.low = search rules in
    let high : SFits w64 range.result.high = search rules in
    simp to_z-of_z (range_keeps c.args.bias.now c.requires.bias c.args.component.now range.result.low range.result.high range.ensures.range)

pub returns-clause-taps : goal.returns-clause-taps
returns-clause-taps c =
    let drawn = c.args.drawn.now in
    let cells = c.args.cells.now in
    let bias = c.args.bias.now in
    let component = c.args.component.now in
    let number = c.args.number in
    let range = c.range_in-range in
    let low : SFits w64 range.result.low = search rules in
    let high : SFits w64 range.result.high = search rules in
    let domain = c.in-Some.seat.domain in
    let old = c.args.taps.now.items in
    let new = c.add_block.new.taps.items in
    IfOk-weaker c.add_block.result (λ (fed : Bool). AddsBlock drawn number domain (record { low = range.result.low; high = range.result.high }) old new fed)
    (λ (fed : Bool). AddsTaps drawn cells bias number component old new fed)
    (λ fed adds. block_added drawn cells bias number component range.result.low range.result.high domain old new fed c.requires.block range.ensures.range
    (λ e. c.if-range-eq0.false (ap (of_z w64) e)) (owned drawn.grid cells component c.in-Some.seat.column domain c.in-Some.ensures.seat) adds)
    (simp to_z-of_z at c.add_block.ensures)
