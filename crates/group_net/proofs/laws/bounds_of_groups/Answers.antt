use Rattle.std.proofs.Common.{arith, get_or}
use Rattle.std.proofs.lemmas.Int.{ints}
use Rattle.node_groups.specs.Laws.{group_of}
use Rattle.group_net.specs.Merging.{group_potential, group_drawn}
use Rattle.group_net.proofs.laws.bounds_of_groups.Goals as goal

pub returns : goal.returns
returns k net shorts group firsts q low high built nodes h bound p c l s sol i m =
    let merged = k.solutions_by_groups.ensures.merged net shorts group firsts q p c l s built nodes h sol in
    let g = group_of net.nodes shorts group firsts h i m in
    let within = bound (group_potential firsts p) c (group_drawn net.nodes group l) merged (get_or group i 0) g in
    let same = k.solutions_by_groups.ensures.at_nodes net shorts group firsts q p c l s h sol i m in
    (omega (arith, ints, within.0, same), omega (arith, ints, within.1, same))
