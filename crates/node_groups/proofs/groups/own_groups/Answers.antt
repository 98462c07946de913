use Rattle.std.proofs.Common.{ℕ, List, [], sym, subst, ◌∙◌}
use Rattle.std.specs.List.{range_with_len}
use Rattle.node_groups.specs.Groups.{AreGroups}
use Rattle.node_groups.proofs.Whole.{own_groups_are}
use Rattle.node_groups.proofs.groups.own_groups.Goals as goal

pub returns : goal.returns
returns c =
    subst (λ (group : List ℕ). AreGroups c.args.nodes [] group c.new-2.result) (sym (c.new.ensures ∙ c.in_ok-group.ensures))
    (subst (λ (firsts : List ℕ). AreGroups c.args.nodes [] (range_with_len 0 c.args.nodes) firsts)
    (sym (c.new-2.ensures ∙ c.in_ok-firsts.ensures)) (own_groups_are c.args.nodes))
