-- What of a rewirable grid the parts ask for.
use Rattle.std.proofs.Common.{◌≡◌, ◌+◌, ◌<◌, ◌≤◌, ◌<ℤ◌, true, All, AllPairs, List, [], ◌∷◌, length, get_or, arith}
use Rattle.std.specs.Prelude.{flat_map}
use Rattle.std.specs.Ordering.{nat_cmp, int_cmp, is_lt}
use Rattle.std.proofs.lemmas.List.Elements.{All-nil, All-head, All-tail, All-append, All-contains}
use Rattle.def_design.specs.declared.record.Design.{Design}
use Rattle.lef_tech.specs.declared.tech.Tech.{Tech}
use Rattle.def_writer.specs.Via.{via_of, arrays_of}
use Rattle.via_arrays.specs.declared.parts.CutArray.{CutArray}
use Rattle.grid_pieces.specs.declared.grid.Grid.{Grid}
use Rattle.grid_pieces.specs.declared.piece.Piece.{Piece}
use Rattle.grid_pieces.specs.declared.piece.StackAt.{StackAt}
use Rattle.grid_pieces.specs.Piece.{piece_order}
use Rattle.written_wiring.specs.Fits.{CanBeRead}
use Rattle.wire_stacks.specs.Stacks.{place_order}
use Rattle.wired_again.specs.Again.{IsRewirable, PieceIs}
use Rattle.rewired_grids.proofs.Split.{net_first}
use Rattle.rewired_grids.proofs.Spots.{StackStandsIn, stack_stands}
use Rattle.rewired_grids.proofs.ViaNames.{IsFew}

-- ## orders

piece_rise : (a b : Piece) → is_lt (piece_order a b) ≡ true → a.net ≤ b.net
piece_rise a b = net_first a.net b.net (nat_cmp a.layer b.layer) (int_cmp a.centre b.centre) (int_cmp a.from b.from) (int_cmp a.width b.width)

stack_rise : (a b : StackAt) → is_lt (place_order a b) ≡ true → a.net ≤ b.net
stack_rise a b = net_first a.net b.net (int_cmp a.x b.x) (int_cmp a.y b.y) (nat_cmp a.stack.from b.stack.from) (nat_cmp a.stack.to b.stack.to)

all_flat : {X Y : Type 0} (P : Y → Type 0) (f : X → List Y) (xs : List X) → All (λ x. All P (f x)) xs → All P (flat_map f xs)
all_flat P f [] h = All-nil P
all_flat {X} P f (x ∷ xs) h =
    let Q : X → Type 0 = λ x. All P (f x) in
    All-append P (f x) (flat_map f xs) (All-head Q x xs h) (all_flat P f xs (All-tail Q x xs h))

-- The numbers of the vias have few digits.
pub few_vias : (design : Design) (tech : Tech) (grid : Grid) → CanBeRead design tech grid → All (λ (a : CutArray). IsFew (via_of a)) (arrays_of grid.stacks)
few_vias design tech grid can =
    all_flat (λ (a : CutArray). IsFew (via_of a)) (λ (at : StackAt). at.stack.arrays) grid.stacks
    (λ k d within j e inside.
    let rule = ((can.grid_fits.arrays k d within).arrays j e inside).rule in
    let few = can.tech_keeps.few_rules in
    let columns = ((can.stacks k d within).arrays j e inside).columns.1 in
    let rows = ((can.stacks k d within).arrays j e inside).rows.1 in
    record { rule = omega (arith, rule, few); columns = omega (arith, columns); rows = omega (arith, rows) })

module _ (tech : Tech) (grid : Grid) (is : IsRewirable tech grid) where
  pub pieces_stand : All (λ (p : Piece). PieceIs tech p × (p.from <ℤ p.to)) grid.pieces
  pieces_stand k d within = (is.pieces k d within, (is.apart.keep k d within).1)

  pub pieces_rise : AllPairs (λ (a b : Piece). a.net ≤ b.net) grid.pieces
  pieces_rise i j d below within = piece_rise (get_or grid.pieces i d) (get_or grid.pieces j d) (is.cut.are.in_order i j d below within)

  pub stacks_rise : AllPairs (λ (a b : StackAt). a.net ≤ b.net) grid.stacks
  stacks_rise i j d below within = stack_rise (get_or grid.stacks i d) (get_or grid.stacks j d) (is.apart.in_order i j d below within)

  pub two_nets_of_stacks : All (λ (at : StackAt). at.net < 2) grid.stacks
  two_nets_of_stacks k d within = (is.stacks k d within).net

  -- The highest layer of a stack is that of a piece.
  high : All (λ (at : StackAt). at.stack.from + length at.stack.arrays < length tech.routing) grid.stacks
  high k d within =
      let at : StackAt = get_or grid.stacks k d in
      let whole = is.apart.whole k d within in
      let (piece, in_pieces, on) = (is.apart.ends k d within).1 in
      let layer = (All-contains (PieceIs tech) grid.pieces piece is.pieces in_pieces).layer in
      let on_layer = on.on_layer in
      let rising = whole.rising in
      let arrays = whole.arrays in
      omega (arith, layer, on_layer, rising, arrays)

  pub stacks_stand : All (StackStandsIn tech (arrays_of grid.stacks)) grid.stacks
  stacks_stand = stack_stands tech grid.stacks is.stacks high
