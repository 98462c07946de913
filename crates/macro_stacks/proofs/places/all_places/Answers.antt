use Rattle.std.proofs.Common.{List, [], ◌++◌, subst}
use Rattle.grid_pieces.specs.declared.piece.Piece.{Piece}
use Rattle.grid_stacks.specs.declared.connect.Site.{Site}
use Rattle.grid_stacks.specs.Crossing.{Stands}
use Rattle.macro_stacks.specs.inside.Mixed.{mixed}
use Rattle.macro_stacks.specs.inside.Places.{Grows}
use Rattle.macro_stacks.proofs.Parted.{AreOf, all_four, left, mixed_of, part_keeps, part_refused, right}
use Rattle.macro_stacks.proofs.places.all_places.Goals as goal

-- mixed lists of one with the other, and of the other with one
first : (one other : List Piece) → AreOf (mixed one other) (one ++ other)
first one other = mixed_of one other (one ++ other) (left one other) (right one other)

second : (one other : List Piece) → AreOf (mixed other one) (one ++ other)
second one other = mixed_of other one (one ++ other) (right one other) (left one other)

pub add_places-requires-clause-keep : goal.add_places-requires-clause-keep
add_places-requires-clause-keep c =
    let one = c.args.one.now in
    let other = c.args.other.now in
    part_keeps c.args.tech.now c.args.connects.now one (one ++ other) (left one other) c.requires.keep

pub add_places-requires-2-clause-keep : goal.add_places-requires-2-clause-keep
add_places-requires-2-clause-keep c =
    let one = c.args.one.now in
    let other = c.args.other.now in
    part_keeps c.args.tech.now c.args.connects.now other (one ++ other) (right one other) c.requires.keep

pub add_mixed-requires-clause-keep : goal.add_mixed-requires-clause-keep
add_mixed-requires-clause-keep c =
    let one = c.args.one.now in
    let other = c.args.other.now in
    part_keeps c.args.tech.now c.args.connects.now (mixed one other) (one ++ other) (first one other) c.requires.keep

pub add_mixed-requires-2-clause-keep : goal.add_mixed-requires-2-clause-keep
add_mixed-requires-2-clause-keep c =
    let one = c.args.one.now in
    let other = c.args.other.now in
    part_keeps c.args.tech.now c.args.connects.now (mixed other one) (one ++ other) (second one other) c.requires.keep

pub returns-in_err-add_places : goal.returns-in_err-add_places
returns-in_err-add_places c =
    let one = c.args.one.now in
    let other = c.args.other.now in
    part_refused _ c.args.tech.now one (one ++ other) c.args.connects.now c.args.blocks.now (left one other) c.from_residual.result c.in_err-add_places.field-0.0 c.from_residual.ensures.1
    c.in_err-add_places.ensures

pub returns-in_err-add_places-2 : goal.returns-in_err-add_places-2
returns-in_err-add_places-2 c =
    let one = c.args.one.now in
    let other = c.args.other.now in
    let answer = c.from_residual-in_err-add_places-2 in
    part_refused _ c.args.tech.now other (one ++ other) c.args.connects.now c.args.blocks.now (right one other) answer.result c.in_err-add_places-2.field-0.0 answer.ensures.1
    c.in_err-add_places-2.ensures

pub returns-in_err-add_mixed : goal.returns-in_err-add_mixed
returns-in_err-add_mixed c =
    let one = c.args.one.now in
    let other = c.args.other.now in
    let answer = c.from_residual-in_err-add_mixed in
    part_refused _ c.args.tech.now (mixed one other) (one ++ other) c.args.connects.now c.args.blocks.now (first one other) answer.result c.in_err-add_mixed.field-0.0 answer.ensures.1
    c.in_err-add_mixed.ensures

pub returns-in_err-add_mixed-2 : goal.returns-in_err-add_mixed-2
returns-in_err-add_mixed-2 c =
    let one = c.args.one.now in
    let other = c.args.other.now in
    let answer = c.from_residual-in_err-add_mixed-2 in
    part_refused _ c.args.tech.now (mixed other one) (one ++ other) c.args.connects.now c.args.blocks.now (second one other) answer.result c.in_err-add_mixed-2.field-0.0 answer.ensures.1
    c.in_err-add_mixed-2.ensures

pub returns : goal.returns
returns c =
    let tech = c.args.tech.now in
    let one = c.args.one.now in
    let other = c.args.other.now in
    let connects = c.args.connects.now in
    let blocks = c.args.blocks.now in
    let a = c.add_places.new.sites.items in
    let b = c.add_places-2.new.sites.items in
    let mid = c.add_mixed.new.sites.items in
    let d = c.add_mixed-2.new.sites.items in
    let to_a : Grows (Stands tech one connects blocks) [] a = subst (λ (old : List Site). Grows (Stands tech one connects blocks) old a) c.new-sites.ensures.items c.in_ok-add_places.ensures in
    all_four tech one other connects blocks a b mid d to_a c.in_ok-add_places-2.ensures c.in_ok-add_mixed.ensures c.in_ok-add_mixed-2.ensures
