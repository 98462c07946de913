use Rattle.std.proofs.Common.{◌^◌, pos, neg_ℤ, ◌<ℤ◌, ◌≤ℤ◌, SFits, w64, arith, rules}
use Rattle.std.proofs.lemmas.Int.{ints}
use Rattle.drawing_tests.proofs.Near.{near}
use Rattle.drawing_tests.proofs.grid_pieces_tests.drawn_keeps.Goals as goal

pub returns-then-shape-far-3 : goal.returns-then-shape-far-3
returns-then-shape-far-3 c yes_to =
    let p = c.args.shape.now in
    let width : SFits w64 p.width = search rules in
    let centre : SFits w64 p.centre = search rules in
    let from : SFits w64 p.from = search rules in
    let to : SFits w64 p.to = search rules in
    let thin : pos 2 ≤ℤ p.width = omega (arith, ints) in
    let wide : p.width <ℤ pos (2 ^ 32) = omega (arith, ints) in
    let long : p.from ≤ℤ p.to = omega (arith, ints) in
    let low : neg_ℤ (pos (2 ^ 60)) ≤ℤ p.centre = omega (arith, ints) in
    let high : p.centre ≤ℤ pos (2 ^ 60) = omega (arith, ints) in
    let begin : neg_ℤ (pos (2 ^ 60)) ≤ℤ p.from = omega (arith, ints) in
    let end : p.to ≤ℤ pos (2 ^ 60) = omega (arith, ints) in
    ((thin, wide), near p.axis p.centre p.width p.from p.to thin wide low high begin long end)
