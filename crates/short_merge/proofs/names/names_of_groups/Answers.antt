use Rattle.std.proofs.Common.{◌≡◌, arith, subst, ◌∙◌, length}
use Rattle.node_groups.specs.Laws.{at_most_below}
use Rattle.short_merge.specs.inside.Kept.{AreKept}
use Rattle.short_merge.proofs.Kept.{kept_more, all_kept}
use Rattle.short_merge.proofs.Whole.{all_names}
use Rattle.short_merge.proofs.names.names_of_groups.Goals as goal

pub returns-then-firsts-len : goal.returns-then-firsts-len
returns-then-firsts-len c =
    let size : length c.args.firsts.now ≡ length c.args.names.items = omega (arith, c.len.ensures, c.if-firsts-len.true, c.args.names.ok.0) in
    all_names c.args.names.items c.args.firsts.now c.requires.rising c.requires.nodes size

pub swap-requires-clause-i_in_bounds : goal.swap-requires-clause-i_in_bounds
swap-requires-clause-i_in_bounds c =
    let few = at_most_below (length c.args.names.items) c.args.firsts.now c.requires.rising c.requires.nodes in
    let size = c.loop-group.invariant.same_length in
    omega (arith, few, size)

pub loop-group-preserved : goal.loop-group-preserved
loop-group-preserved c =
    kept_more c.args.names.items c.loop-group.kept.items c.swap.new.self.items c.args.firsts.now c.loop-group.group
    c.requires.nodes c.requires.rising c.loop-group.invariant (omega arith) c.swap.ensures.items

pub returns : goal.returns
returns c =
    let whole : c.loop-group.group ≡ length c.args.firsts.now = omega arith in
    c.truncate.ensures.items
    ∙ all_kept c.args.names.items c.loop-group.kept.items c.args.firsts.now
    (subst (AreKept c.args.names.items c.loop-group.kept.items c.args.firsts.now) whole c.loop-group.invariant)
    (at_most_below (length c.args.names.items) c.args.firsts.now c.requires.rising c.requires.nodes)
