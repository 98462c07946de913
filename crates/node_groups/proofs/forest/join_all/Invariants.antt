use Rattle.std.proofs.Common.{take}
use Rattle.node_groups.specs.inside.Forest.{LeadsBack, IsByShorts, Joins}
use Rattle.node_groups.proofs.forest.join_all.Given as goal

abbrev pub invariant-loop-one : goal.invariant-loop-one
invariant-loop-one l = record {
  back : LeadsBack l.parents;
  by_shorts : IsByShorts l.shorts l.parents;
  joins : Joins (take l.one-index l.shorts) l.parents;
}
