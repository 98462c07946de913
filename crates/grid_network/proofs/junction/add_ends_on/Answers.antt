use Rattle.std.proofs.Common.{◌≡◌, ℕ, true, false, List, length, subst}
use Rattle.std.specs.List.{AllWithin}
use Rattle.std.specs.Ordering.{is_lt}
use Rattle.grid_network.specs.declared.spot.Spot.{Spot}
use Rattle.grid_network.specs.inside.Steps.{spot_cmp}
use Rattle.grid_network.proofs.Growing.{adds_pushed, range_more}
use Rattle.grid_network.proofs.Ends.{at_place, ends_listed}
use Rattle.grid_network.proofs.junction.add_ends_on.Goals as goal

pub loop-i-preserved : goal.loop-i-preserved
loop-i-preserved c =
    range_more (at_place c.args.number c.args.spots.now) c.count_before-start.result c.count_before-end.result c.loop-i.i c.args.places.now.items c.loop-i.places.items c.push.new.self.items
    c.loop-i.auto.i c.loop-i-test.true c.loop-i.invariant
    (adds_pushed (at_place c.args.number c.args.spots.now c.loop-i.i) c.loop-i.places.items c.push.new.self.items c.at_spot.result c.in_ok-push.ensures.items c.at_spot.ensures)

pub returns : goal.returns
returns c =
    let spots : List Spot = c.args.spots.now in
    let piece = c.args.piece.now in
    let start : ℕ = c.count_before-start.result in
    let end : ℕ = c.count_before-end.result in
    ends_listed spots piece c.args.number start end c.loop-i.i c.args.places.now.items c.loop-i.places.items c.count_before-end.ensures.bound c.loop-i-test.false
    (subst (λ (q : Spot). AllWithin (λ s. is_lt (spot_cmp s q) ≡ true) spots 0 start) c.first_spot.ensures c.count_before-start.ensures.before)
    (subst (λ (q : Spot). AllWithin (λ s. is_lt (spot_cmp s q) ≡ false) spots start (length spots)) c.first_spot.ensures c.count_before-start.ensures.behind)
    (subst (λ (q : Spot). AllWithin (λ s. is_lt (spot_cmp s q) ≡ true) spots 0 end) c.spot_behind.ensures c.count_before-end.ensures.before)
    (subst (λ (q : Spot). AllWithin (λ s. is_lt (spot_cmp s q) ≡ false) spots end (length spots)) c.spot_behind.ensures c.count_before-end.ensures.behind)
    c.loop-i.invariant
