use Rattle.std.proofs.Common.{take}
use Rattle.grid_pieces.specs.inside.Sweep.{OneNet}
use Rattle.grid_pieces.proofs.touch.one_net.Given as goal

abbrev pub invariant-loop-m : goal.invariant-loop-m
invariant-loop-m l = OneNet (take l.m-index l.metal) l.one l.second
