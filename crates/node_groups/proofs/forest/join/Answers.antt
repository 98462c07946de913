use Rattle.std.proofs.Common.{◌≡◌, ◌<◌, ℕ, List, length, arith, sym, ◌∙◌}
use Rattle.node_groups.specs.Joined.{AreJoined}
use Rattle.node_groups.specs.inside.Forest.{LeadsBack, LeadsTo, Follows, KeepsJoined, IsMadeOf, IsByShorts}
use Rattle.node_groups.proofs.Chains.{joined_trans, joined_back}
use Rattle.node_groups.proofs.Links.{steps_join, made_by_shorts, link_keeps, link_joins, link_by_shorts}
use Rattle.node_groups.proofs.forest.join.Goals as goal

-- The two ways, first from one end and then from the other.
record Ways (before between after : List ℕ) (one other first second : ℕ) : Type 0 where
  same_length : length between ≡ length before
  one_is_node : one < length before
  other_is_node : other < length before
  back : LeadsBack before
  back_between : LeadsBack between
  one_joined : (label : ℕ → ℕ) → Follows label between → label one ≡ label first
  other_joined : (label : ℕ → ℕ) → Follows label after → label other ≡ label second
  kept : KeepsJoined before between
  kept_again : KeepsJoined between after
  one_reached : LeadsTo before one first
  other_reached : LeadsTo between other second
  made_of : IsMadeOf between before
  made_again : IsMadeOf after between
  same_again : length after ≡ length between

both_joined : (before between after : List ℕ) (one other first second : ℕ)
    → Ways before between after one other first second → (label : ℕ → ℕ) → Follows label after
    → label first ≡ label second → label one ≡ label other
both_joined before between after one other first second w label f e =
    w.one_joined label (w.kept_again label f) ∙ e ∙ sym (w.other_joined label f)

module _ (before between after : List ℕ) (one other first second : ℕ) (w : Ways before between after one other first second)
    (shorts : List (ℕ × ℕ)) (joined : AreJoined shorts one other) (by : IsByShorts shorts before) where
  by_between : IsByShorts shorts between
  by_between = made_by_shorts shorts before between w.same_length w.back w.made_of by

  by_after : IsByShorts shorts after
  by_after = made_by_shorts shorts between after w.same_again w.back_between w.made_again by_between

  firsts_joined : AreJoined shorts first second
  firsts_joined =
      let first_way = steps_join shorts before w.back by one first w.one_is_node w.one_reached in
      let second_way = steps_join shorts between w.back_between by_between other second
      (omega (arith, w.same_length, w.other_is_node)) w.other_reached in
      joined_trans shorts first one second (joined_back shorts one first first_way)
      (joined_trans shorts one other second joined second_way)

pub returns-then-first-second-clause-joined : goal.returns-then-first-second-clause-joined
returns-then-first-second-clause-joined c label f =
    both_joined c.args.parents.now c.first_of-first.new.parents c.first_of-second.new.parents c.args.one c.args.other c.first_of-first.result c.first_of-second.result
    (record {
      same_length = c.first_of-first.auto.parents;
      one_is_node = c.requires.one;
      other_is_node = c.requires.other;
      back = c.requires.back;
      back_between = c.first_of-first.ensures.back;
      one_joined = c.first_of-first.ensures.joined;
      other_joined = c.first_of-second.ensures.joined;
      kept = c.first_of-first.ensures.kept;
      kept_again = c.first_of-second.ensures.kept;
      one_reached = c.first_of-first.ensures.reached;
      other_reached = c.first_of-second.ensures.reached;
      made_of = c.first_of-first.ensures.made_of;
      made_again = c.first_of-second.ensures.made_of;
      same_again = c.first_of-second.auto.parents;
    }) label (link_keeps c.first_of-second.new.parents c.first_of-second.result c.first_of-first.result c.first_of-second.ensures.is_node c.first_of-second.ensures.leads_to_itself label f)
    (sym (link_joins c.first_of-second.new.parents c.first_of-second.result c.first_of-first.result c.first_of-second.ensures.is_node c.first_of-second.ensures.leads_to_itself label f))

pub returns-then-first-second-clause-kept : goal.returns-then-first-second-clause-kept
returns-then-first-second-clause-kept c label f =
    c.first_of-first.ensures.kept label (c.first_of-second.ensures.kept label (link_keeps c.first_of-second.new.parents c.first_of-second.result c.first_of-first.result c.first_of-second.ensures.is_node c.first_of-second.ensures.leads_to_itself label f))

pub returns-then-first-second-clause-by_shorts : goal.returns-then-first-second-clause-by_shorts
returns-then-first-second-clause-by_shorts c shorts joined by =
    let w : Ways c.args.parents.now c.first_of-first.new.parents c.first_of-second.new.parents c.args.one c.args.other c.first_of-first.result c.first_of-second.result = (record {
      same_length = c.first_of-first.auto.parents;
      one_is_node = c.requires.one;
      other_is_node = c.requires.other;
      back = c.requires.back;
      back_between = c.first_of-first.ensures.back;
      one_joined = c.first_of-first.ensures.joined;
      other_joined = c.first_of-second.ensures.joined;
      kept = c.first_of-first.ensures.kept;
      kept_again = c.first_of-second.ensures.kept;
      one_reached = c.first_of-first.ensures.reached;
      other_reached = c.first_of-second.ensures.reached;
      made_of = c.first_of-first.ensures.made_of;
      made_again = c.first_of-second.ensures.made_of;
      same_again = c.first_of-second.auto.parents;
    }) in
    let j = firsts_joined c.args.parents.now c.first_of-first.new.parents c.first_of-second.new.parents c.args.one c.args.other c.first_of-first.result c.first_of-second.result w shorts joined by in
    link_by_shorts c.first_of-second.new.parents c.first_of-second.result c.first_of-first.result c.first_of-second.ensures.is_node c.first_of-second.ensures.leads_to_itself shorts
    (joined_back shorts c.first_of-first.result c.first_of-second.result j)
    (by_after c.args.parents.now c.first_of-first.new.parents c.first_of-second.new.parents c.args.one c.args.other c.first_of-first.result c.first_of-second.result w shorts joined by)

pub returns-else-first-second-clause-joined : goal.returns-else-first-second-clause-joined
returns-else-first-second-clause-joined c label f =
    both_joined c.args.parents.now c.first_of-first.new.parents c.first_of-second.new.parents c.args.one c.args.other c.first_of-first.result c.first_of-second.result
    (record {
      same_length = c.first_of-first.auto.parents;
      one_is_node = c.requires.one;
      other_is_node = c.requires.other;
      back = c.requires.back;
      back_between = c.first_of-first.ensures.back;
      one_joined = c.first_of-first.ensures.joined;
      other_joined = c.first_of-second.ensures.joined;
      kept = c.first_of-first.ensures.kept;
      kept_again = c.first_of-second.ensures.kept;
      one_reached = c.first_of-first.ensures.reached;
      other_reached = c.first_of-second.ensures.reached;
      made_of = c.first_of-first.ensures.made_of;
      made_again = c.first_of-second.ensures.made_of;
      same_again = c.first_of-second.auto.parents;
    }) label (link_keeps c.first_of-second.new.parents c.first_of-first.result c.first_of-second.result (omega (arith, c.first_of-first.ensures.is_node, c.first_of-second.auto.parents)) (c.first_of-second.ensures.firsts c.first_of-first.result c.first_of-first.ensures.leads_to_itself) label f)
    (link_joins c.first_of-second.new.parents c.first_of-first.result c.first_of-second.result (omega (arith, c.first_of-first.ensures.is_node, c.first_of-second.auto.parents)) (c.first_of-second.ensures.firsts c.first_of-first.result c.first_of-first.ensures.leads_to_itself) label f)

pub returns-else-first-second-clause-kept : goal.returns-else-first-second-clause-kept
returns-else-first-second-clause-kept c label f =
    c.first_of-first.ensures.kept label (c.first_of-second.ensures.kept label (link_keeps c.first_of-second.new.parents c.first_of-first.result c.first_of-second.result (omega (arith, c.first_of-first.ensures.is_node, c.first_of-second.auto.parents)) (c.first_of-second.ensures.firsts c.first_of-first.result c.first_of-first.ensures.leads_to_itself) label f))

pub returns-else-first-second-clause-by_shorts : goal.returns-else-first-second-clause-by_shorts
returns-else-first-second-clause-by_shorts c shorts joined by =
    let w : Ways c.args.parents.now c.first_of-first.new.parents c.first_of-second.new.parents c.args.one c.args.other c.first_of-first.result c.first_of-second.result = (record {
      same_length = c.first_of-first.auto.parents;
      one_is_node = c.requires.one;
      other_is_node = c.requires.other;
      back = c.requires.back;
      back_between = c.first_of-first.ensures.back;
      one_joined = c.first_of-first.ensures.joined;
      other_joined = c.first_of-second.ensures.joined;
      kept = c.first_of-first.ensures.kept;
      kept_again = c.first_of-second.ensures.kept;
      one_reached = c.first_of-first.ensures.reached;
      other_reached = c.first_of-second.ensures.reached;
      made_of = c.first_of-first.ensures.made_of;
      made_again = c.first_of-second.ensures.made_of;
      same_again = c.first_of-second.auto.parents;
    }) in
    let j = firsts_joined c.args.parents.now c.first_of-first.new.parents c.first_of-second.new.parents c.args.one c.args.other c.first_of-first.result c.first_of-second.result w shorts joined by in
    link_by_shorts c.first_of-second.new.parents c.first_of-first.result c.first_of-second.result (omega (arith, c.first_of-first.ensures.is_node, c.first_of-second.auto.parents)) (c.first_of-second.ensures.firsts c.first_of-first.result c.first_of-first.ensures.leads_to_itself) shorts
    (j)
    (by_after c.args.parents.now c.first_of-first.new.parents c.first_of-second.new.parents c.args.one c.args.other c.first_of-first.result c.first_of-second.result w shorts joined by)
