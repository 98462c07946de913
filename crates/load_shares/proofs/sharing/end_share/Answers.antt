use Rattle.std.proofs.Common.{pos, ◌-ℤ◌, ◌≤ℤ◌, ◌<ℤ◌, neg_ℤ, ◌∙◌, SFits, w64, arith}
use Rattle.std.specs.Prelude.{int_div, int_rem}
use Rattle.std.proofs.lemmas.Int.{ints, to_z-of_z, quot_fits, rem_below}
use Rattle.load_shares.proofs.Sums.{share_less, share_even, less_fits, less_is}
use Rattle.load_shares.proofs.sharing.end_share.Goals as goal

pub returns-then-from-rest-2 : goal.returns-then-from-rest-2
returns-then-from-rest-2 c =
    let whole = c.args.whole in
    let fits : SFits w64 whole = c.ranges.whole in
    let few = c.ranges.count in
    let count_fits : SFits w64 (pos c.args.count) = omega (arith, ints) in
    let place_fits : SFits w64 (pos c.args.place) = omega (arith, ints) in
    let part_fits : SFits w64 (int_div whole (pos c.args.count)) = quot_fits w64 whole (pos c.args.count) fits (omega (arith, ints)) in
    let below = rem_below whole (pos c.args.count) c.requires in
    let rest_fits : SFits w64 (int_rem whole (pos c.args.count)) = omega (arith, ints) in
    let back_fits : SFits w64 (pos 0 -ℤ int_rem whole (pos c.args.count)) = omega (arith, ints) in
    let test = simp (to_z-of_z, c.from-2.ensures, c.from-else-from-rest.ensures) at c.if-from-rest-2.true in
    let less : pos c.args.place <ℤ neg_ℤ (int_rem whole (pos c.args.count)) = grind (arith, ints) in
    let less_fit : SFits w64 (int_div whole (pos c.args.count) -ℤ pos 1) = less_fits whole c.args.count c.args.place c.requires fits less in
    less_is whole c.from.result c.args.count fits c.from.ensures count_fits part_fits less_fit
    ∙ share_less whole c.args.count c.args.place c.requires less

pub returns-else-from-rest-2 : goal.returns-else-from-rest-2
returns-else-from-rest-2 c =
    let whole = c.args.whole in
    let fits : SFits w64 whole = c.ranges.whole in
    let few = c.ranges.count in
    let count_fits : SFits w64 (pos c.args.count) = omega (arith, ints) in
    let place_fits : SFits w64 (pos c.args.place) = omega (arith, ints) in
    let part_fits : SFits w64 (int_div whole (pos c.args.count)) = quot_fits w64 whole (pos c.args.count) fits (omega (arith, ints)) in
    let below = rem_below whole (pos c.args.count) c.requires in
    let rest_fits : SFits w64 (int_rem whole (pos c.args.count)) = omega (arith, ints) in
    let back_fits : SFits w64 (pos 0 -ℤ int_rem whole (pos c.args.count)) = omega (arith, ints) in
    let test = simp (to_z-of_z, c.from-2.ensures, c.from-3.ensures) at c.if-from-rest.false in
    let other = simp (to_z-of_z, c.from-2.ensures, c.from-else-from-rest.ensures) at c.if-from-rest-2.false in
    let low : int_rem whole (pos c.args.count) ≤ℤ pos c.args.place = grind (arith, ints) in
    let high : neg_ℤ (int_rem whole (pos c.args.count)) ≤ℤ pos c.args.place = grind (arith, ints) in
    simp (to_z-of_z, c.from.ensures) (share_even whole c.args.count c.args.place c.requires low high)
