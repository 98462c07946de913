use Rattle.std.proofs.Common.{◌≤ℤ◌, SFits, w64, rules}
use Rattle.std.specs.BTreeMap.{get}
use Rattle.std.specs.Ordering.{int_cmp}
use Rattle.std.proofs.lemmas.Int.{to_z-of_z}
use Rattle.grid_pieces.specs.inside.Sweep.{IsLastUpTo}
use Rattle.grid_pieces.specs.Laws.Orders.{le_from, ge_from, not_gt}
use Rattle.grid_pieces.proofs.Sweeping.{is_there}
use Rattle.grid_pieces.proofs.open.last_up_to.Goals as goal

pub returns : goal.returns
returns c =
    let range = c.range.ensures.in_range tt in
    let is = range.3 _ _ c.in_ok-last.ensures.steps in
    let none = range.4 _ _ c.in_ok-last.ensures.steps in
    let edge : SFits w64 c.args.edge = c.ranges.edge in
    let last_fits : SFits w64 c.in_ok-last.last.now = search rules in
    let upto : c.in_ok-last.last.now ≤ℤ c.args.edge = le_from c.in_ok-last.last.now c.args.edge (simp to_z-of_z at is.0.1) in
    let all : IsLastUpTo c.args.lying.now c.args.edge (c.in_ok-last.last.now, c.in_ok-last.place.now) = record {
      is = is.1;
      by_edge = upto;
      none_later = λ other place has le.
          ge_from c.in_ok-last.last.now other (none other (tt, simp to_z-of_z (not_gt other c.args.edge le)) (is_there (get int_cmp c.args.lying.now other) place has));
    } in
    simp to_z-of_z all
