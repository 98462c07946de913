use Rattle.std.proofs.Common.{◌≡◌, ◌++◌, take}
use Rattle.std.specs.List.{flat_map, enumerate_from}
use Rattle.grid_pieces.specs.declared.piece.Piece.{Piece}
use Rattle.grid_pieces.specs.declared.piece.StackAt.{StackAt}
use Rattle.def_writer.specs.Line.{text_of}
use Rattle.def_writer.specs.Wiring.{net_of_grid}
use Rattle.def_writer.specs.inside.Nets.{later}
use Rattle.def_writer.proofs.net.append_all.Given as goal

-- The nets before this one are written, and the pieces and stacks of this net and of later ones are left.
abbrev pub invariant-loop-net : goal.invariant-loop-net
invariant-loop-net l = record {
  written : l.out.items ≡ l.initial.out.items ++ text_of (flat_map (net_of_grid l.tech l.grid) (enumerate_from 0 (take l.net l.grid.nets)));
  pieces : l.pieces ≡ later (λ (p : Piece). p.net) l.net l.grid.pieces;
  stacks : l.stacks ≡ later (λ (s : StackAt). s.net) l.net l.grid.stacks;
}
