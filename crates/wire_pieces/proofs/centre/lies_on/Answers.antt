-- A point lies on a piece where the last that does not come after it is of its line, and those of the line reach it.
use Rattle.std.proofs.Common.{◌↔◌, IsTrue, ◌-◌, pos, ◌≤ℤ◌, get_or, refl, sym, ◌∙◌, SFits, w64, rules, arith}
use Rattle.std.proofs.lemmas.Bool.{false≢true}
use Rattle.std.proofs.lemmas.Int.{to_z-of_z}
use Rattle.wire_pieces.proofs.Reach.{IsBehind, none_held, held_by_reach, reach_by_held}
use Rattle.wire_pieces.proofs.centre.lies_on.Goals as goal

pub returns-then-behind-eq0 : goal.returns-then-behind-eq0
returns-then-behind-eq0 c =
    let end = c.first_behind-behind.ensures in
    let is : IsBehind c.args.pieces.now c.args.point.now c.first_behind-behind.result = record { within = end.within; before = end.before; after = end.behind } in
    (λ t. absurd (false≢true t), λ w. absurd (none_held c.args.pieces.now c.args.point.now c.first_behind-behind.result is (omega arith) w))

pub returns-then-are_alike : goal.returns-then-are_alike
returns-then-are_alike c =
    let end = c.first_behind-behind.ensures in
    let is : IsBehind c.args.pieces.now c.args.point.now c.first_behind-behind.result = record { within = end.within; before = end.before; after = end.behind } in
    let from : SFits w64 c.args.point.now.from = search rules in
    let far : SFits w64 (get_or c.args.reaches.now (c.first_behind-behind.result - 1) (pos 0)) = search rules in
    let upto = simp to_z-of_z at c.is_upto.ensures in (
      λ t. held_by_reach c.args.pieces.now c.args.reaches.now c.args.point.now c.first_behind-behind.result c.requires.by_line c.requires.reaches is (omega arith) (c.are_alike.ensures.0 c.if-are_alike.true) (upto.0 t),
      λ w. upto.1 (reach_by_held c.args.pieces.now c.args.reaches.now c.args.point.now c.first_behind-behind.result c.requires.by_line c.requires.reaches is w).2,
    )

pub returns : goal.returns
returns c =
    let end = c.first_behind-behind.ensures in
    let is : IsBehind c.args.pieces.now c.args.point.now c.first_behind-behind.result = record { within = end.within; before = end.before; after = end.behind } in (
      λ t. absurd (false≢true t),
      λ w. absurd (false≢true (sym c.if-are_alike.false ∙ c.are_alike.ensures.1 (reach_by_held c.args.pieces.now c.args.reaches.now c.args.point.now c.first_behind-behind.result c.requires.by_line c.requires.reaches is w).1)),
    )
