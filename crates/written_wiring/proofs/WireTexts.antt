-- The names and numbers of a written grid are those of its wires.
use Rattle.std.proofs.Common.{◌≡◌, ◌≢◌, ℕ, ◌+◌, ◌==◌, Bool, true, false, ℤ, List, [], ◌∷◌, map, refl, ap, arith, inl, inr}
use Rattle.std.specs.Prelude.{All, ◌<ℤ◌, slice_index_or}
use Rattle.std.specs.List.{enumerate_from}
use Rattle.std.proofs.lemmas.Int.{ints}
use Rattle.std.proofs.lemmas.List.Elements.{All-head, All-tail, All-filter}
use Rattle.entry_list.specs.InTurn.{InTurn}
use Rattle.geom_rect.specs.declared.direction.Axis.{Axis}
use Rattle.geom_rect.specs.declared.direction.Axis.TheVariants.{X, Y}
use Rattle.geom_rect.specs.declared.drawn.Shape.{Shape}
use Rattle.geom_rect.specs.declared.drawn.Shape.TheVariants.{Ring, Stripe, FollowPin}
use Rattle.lef_tech.specs.declared.tech.Tech.{Tech}
use Rattle.via_arrays.specs.declared.parts.CutArray.{CutArray}
use Rattle.grid_pieces.specs.declared.grid.Grid.{Grid}
use Rattle.grid_pieces.specs.declared.piece.Piece.{Piece}
use Rattle.grid_pieces.specs.Limits.{PieceKeeps}
use Rattle.def_writer.specs.Via.{vias_of, arrays_of}
use Rattle.def_writer.specs.Wiring.{shape_word, use_word, point_on, pieces_of}
use Rattle.def_wiring.specs.Record.{HasShape}
use Rattle.def_wiring.specs.Sort.{sort_of_text}
use Rattle.def_wiring.specs.Written.{via_def, IsSegment, IsUse, IsNet, IsWired}
use Rattle.written_wiring.specs.Wiring.{via_text, wire_text}
use Rattle.written_wiring.specs.Wires.{via_wire, shape_read, segment_of, wired_net, wires_of}
use Rattle.written_wiring.proofs.Texts.{vias_text, net_text, nets_text}

apart : (a b : ℤ) → a <ℤ b → a ≢ b
apart a b h e = omega (arith, ints)

shape_is : (axis : Axis) (shape : Shape) (from to centre : ℤ) → from <ℤ to →
    HasShape (sort_of_text (shape_word shape)) (point_on axis from centre).1 (point_on axis to centre).1 (shape_read axis shape)
shape_is X Ring from to centre h = refl
shape_is X Stripe from to centre h = refl
shape_is X FollowPin from to centre h = inl (refl, refl)
shape_is Y Ring from to centre h = refl
shape_is Y Stripe from to centre h = refl
shape_is Y FollowPin from to centre h = inr (apart from to h, refl)

segment_is : (tech : Tech) (name : List ℕ) (p : Piece) → PieceKeeps p → IsSegment (wire_text tech name p) (segment_of tech p)
segment_is tech name p keeps = record {
  layer = refl;
  width = refl;
  x1 = refl;
  y1 = refl;
  e1 = refl;
  x2 = refl;
  y2 = refl;
  e2 = refl;
  shape = shape_is p.axis p.shape p.from p.to p.centre keeps.1;
}

segments_are : (tech : Tech) (name : List ℕ) (pieces : List Piece) → All PieceKeeps pieces → InTurn IsSegment (map (wire_text tech name) pieces) (map (segment_of tech) pieces)
segments_are tech name [] h = tt
segments_are tech name (p ∷ pieces) h = (segment_is tech name p (All-head PieceKeeps p pieces h), segments_are tech name pieces (All-tail PieceKeeps p pieces h))

use_is : (power : Bool) → IsUse (use_word power) power
use_is true = inl (refl, refl)
use_is false = inr (refl, refl)

net_is : (tech : Tech) (grid : Grid) → All PieceKeeps grid.pieces → (net : ℕ) (name : List ℕ) → IsNet (net_text tech grid (net, name)) (wired_net tech grid (net, name))
net_is tech grid h net name = record {
  name = refl;
  power = use_is (slice_index_or grid.power net false);
  segments = segments_are tech name (pieces_of grid.pieces net) (All-filter (λ (p : Piece). p.net == net) PieceKeeps grid.pieces h);
  vias = refl;
}

nets_are : (tech : Tech) (grid : Grid) → All PieceKeeps grid.pieces → (names : List (List ℕ)) (from : ℕ) →
    InTurn IsNet (map (net_text tech grid) (enumerate_from from names)) (map (wired_net tech grid) (enumerate_from from names))
nets_are tech grid h [] from = tt
nets_are tech grid h (name ∷ names) from = (net_is tech grid h from name, nets_are tech grid h names (from + 1))

vias_are : (tech : Tech) (arrays : List CutArray) → map (via_wire tech) arrays ≡ map via_def (map (via_text tech) arrays)
vias_are tech [] = refl
vias_are tech (a ∷ arrays) = ap (λ z. via_wire tech a ∷ z) (vias_are tech arrays)

pub wires_are : (tech : Tech) (grid : Grid) → All PieceKeeps grid.pieces → IsWired (vias_text tech grid) (nets_text tech grid) (wires_of tech grid)
wires_are tech grid h = record { vias = vias_are tech (vias_of (arrays_of grid.stacks)); nets = nets_are tech grid h grid.nets 0 }
