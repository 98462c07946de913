use Rattle.solution_exists.proofs.Carried.{shorted}
use Rattle.solution_exists.proofs.shorts.a_shorted_solution_exists.Goals as goal

pub returns : goal.returns
returns k net shorts group firsts d drawn built nodes h agree supplied given =
    shorted net shorts group firsts built.is_network built.pads_are_nodes nodes h k.built_network.ensures.kept_pads agree supplied
    d drawn given
