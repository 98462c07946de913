use Rattle.solution_exists.proofs.ByGroups.{shorted_voltages, shorted_currents}
use Rattle.solution_exists.proofs.shorts.a_shorted_solution_is_unique.Goals as goal

pub returns-clause-voltages : goal.returns-clause-voltages
returns-clause-voltages k net shorts group firsts q r p c l s p' c' l' s' built nodes h supplied one other drawn =
    let laws = k.solutions_by_groups.ensures in
    shorted_voltages net shorts group firsts q r p c l p' c' l' built nodes h k.built_network.ensures.kept_pads supplied
    (laws.merged net shorts group firsts q p c l s built nodes h one) (laws.merged net shorts group firsts r p' c' l' s' built nodes h other)
    drawn (laws.at_nodes net shorts group firsts q p c l s h one) (laws.at_nodes net shorts group firsts r p' c' l' s' h other)

pub returns-clause-currents : goal.returns-clause-currents
returns-clause-currents k net shorts group firsts q r p c l s p' c' l' s' built nodes h supplied one other drawn =
    let laws = k.solutions_by_groups.ensures in
    shorted_currents net shorts group firsts q r p c l p' c' l' built nodes h k.built_network.ensures.kept_pads supplied
    (laws.merged net shorts group firsts q p c l s built nodes h one) (laws.merged net shorts group firsts r p' c' l' s' built nodes h other)
    drawn
