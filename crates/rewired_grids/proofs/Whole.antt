-- The wires of a grid over two nets, with places for names.
use Rattle.std.proofs.Common.{◌≡◌, ℕ, ◌<◌, ◌≤◌, ◌==◌, ◌<ℤ◌, true, false, cond, All, AllPairs, List, [], ◌∷◌, ◌++◌, map, filter, get_or, refl, sym, ◌∙◌, ap, subst, append-nil, arith}
use Rattle.std.specs.Prelude.{Contains, flat_map, slice_index_or}
use Rattle.std.specs.Bool.{MatchBool}
use Rattle.std.specs.List.{enumerate_from}
use Rattle.std.proofs.lemmas.List.{map-append, get_or-map, length-map}
use Rattle.std.proofs.lemmas.List.Elements.{All-filter, All-map, All-weaker, Contains-get_or, filter_passes}
use Rattle.geom_rect.specs.declared.drawn.Drawn.{Drawn}
use Rattle.name_table.specs.ByteOrder.{IsBefore}
use Rattle.lef_tech.specs.declared.tech.Tech.{Tech}
use Rattle.def_writer.specs.Via.{via_of, arrays_of}
use Rattle.def_writer.specs.Wiring.{pieces_of, stacks_of}
use Rattle.def_wiring.specs.declared.record.WiredNet.{WiredNet}
use Rattle.via_arrays.specs.declared.parts.CutArray.{CutArray}
use Rattle.grid_pieces.specs.declared.grid.Grid.{Grid}
use Rattle.grid_pieces.specs.declared.piece.Piece.{Piece}
use Rattle.grid_pieces.specs.declared.piece.StackAt.{StackAt}
use Rattle.grid_pieces.specs.Piece.{Among}
use Rattle.written_wiring.specs.Wires.{segment_of, wired_net, wires_of}
use Rattle.wire_names.specs.declared.record.NamedVia.{NamedVia}
use Rattle.wire_names.specs.declared.record.NamedWires.{NamedWires}
use Rattle.wire_names.specs.Names.{Names, names_of}
use Rattle.wire_names.specs.Nets.{is_wired, net_number}
use Rattle.wire_names.specs.Wiring.{AreNamed, shape_of as wire_shape, shapes_of, spot_of, spots_of}
use Rattle.rewired_stacks.specs.Rewired.{AreRewired}
use Rattle.redrawn_pieces.specs.Redrawn.{AreRedrawn, shape_of}
use Rattle.wired_again.specs.Again.{HasOwnNames, PieceIs, AreOfTheirVias, IsOverOneDomain}
use Rattle.rewired_grids.proofs.ViaNames.{IsFew}
use Rattle.rewired_grids.proofs.Found.{vias_found}
use Rattle.rewired_grids.proofs.Shapes.{all_drawn, same_number}
use Rattle.rewired_grids.proofs.Split.{two_nets}
use Rattle.rewired_grids.proofs.Spots.{StackStandsIn, spots_of_net, stacks_again, rewired_both}
use Rattle.rewired_grids.proofs.Two.{ArePair, one_order, power_is, ground_is, one_number, other_number, in_order}

-- Shapes that are those of pieces, in their order.
pub redrawn : (pieces : List Piece) (shapes : List Drawn) → shapes ≡ map shape_of pieces → AreRedrawn pieces shapes
redrawn pieces shapes are = record {
  each = subst (All (λ (shape : Drawn). Among (λ (piece : Piece). shape ≡ shape_of piece) pieces)) (sym are)
      (All-map (λ (shape : Drawn). Among (λ (piece : Piece). shape ≡ shape_of piece) pieces) shape_of pieces (λ k d within. (get_or pieces k d, Contains-get_or pieces k d within, refl)));
  every = subst (λ (all : List Drawn). All (λ (piece : Piece). Contains all (shape_of piece)) pieces) (sym are)
      (λ k d within. let many = length-map pieces shape_of in (k, omega (arith, within, many), get_or-map shape_of pieces k d (shape_of (get_or pieces k d)) within));
}

module _ (tech : Tech) (grid : Grid) (own : HasOwnNames tech) (over : IsOverOneDomain grid) (named : NamedWires) (are : AreNamed tech (wires_of tech grid) named) where
  abbrev names : Names
  names = names_of tech (wires_of tech grid)

  abbrev first : List ℕ
  first = cond over.power_first over.power over.ground

  abbrev second : List ℕ
  second = cond over.power_first over.ground over.power

  abbrev one : WiredNet
  one = wired_net tech grid (0, first)

  abbrev other : WiredNet
  other = wired_net tech grid (1, second)

  nets_are : (wires_of tech grid).nets ≡ one ∷ other ∷ []
  nets_are = ap (λ nets. map (wired_net tech grid) (enumerate_from 0 nets)) (over.nets ∙ in_order over.power over.ground over.power_first)

  pair : ArePair over.power over.ground over.power_first one other
  pair = record {
    one_name = refl;
    other_name = refl;
    one_power = ap (λ powers. slice_index_or powers 0 false) over.powers;
    other_power = ap (λ powers. slice_index_or powers 1 false) over.powers;
  }

  -- ## the nets

  pub power_same : named.power ≡ over.power
  power_same =
      power_is over.power over.ground named.power over.power_first one other pair
      (sym (ap (λ nets. map (λ (net : WiredNet). net.name) (filter (is_wired true) nets)) nets_are) ∙ are.power)

  pub ground_same : named.ground ≡ over.ground
  ground_same =
      ground_is over.power over.ground named.ground over.power_first one other pair
      (sym (ap (λ nets. map (λ (net : WiredNet). net.name) (filter (is_wired false) nets)) nets_are) ∙ are.ground)

  pub first_same : named.power_first ≡ over.power_first
  first_same =
      one_order over.power over.ground named.power_first over.power_first
      (subst (λ p. MatchBool named.power_first (IsBefore p over.ground) (IsBefore over.ground p)) power_same
      (subst (λ g. MatchBool named.power_first (IsBefore named.power g) (IsBefore g named.power)) ground_same are.order)) over.order

  one_is : net_number over.power_first one.power ≡ 0
  one_is = ap (net_number over.power_first) pair.one_power ∙ one_number over.power_first

  other_is : net_number over.power_first other.power ≡ 1
  other_is = ap (net_number over.power_first) pair.other_power ∙ other_number over.power_first

  -- ## the pieces

  module _ (pieces : All (λ (p : Piece). PieceIs tech p × (p.from <ℤ p.to)) grid.pieces) (rise : AllPairs (λ (a b : Piece). a.net ≤ b.net) grid.pieces) where
    drawn : (net : ℕ) → map (wire_shape names net) (map (segment_of tech) (pieces_of grid.pieces net)) ≡ map shape_of (pieces_of grid.pieces net)
    drawn net =
        all_drawn tech grid own net (pieces_of grid.pieces net) (All-filter (λ (p : Piece). p.net == net) (λ (p : Piece). PieceIs tech p × (p.from <ℤ p.to)) grid.pieces pieces)
        (filter_passes (λ (p : Piece). p.net == net) grid.pieces)

    few_nets : All (λ (p : Piece). p.net < 2) grid.pieces
    few_nets k d within = (pieces k d within).0.net

    pub shapes_are : named.shapes ≡ map shape_of grid.pieces
    shapes_are =
        are.shapes
        ∙ ap (λ b. flat_map (shapes_of names b) (wires_of tech grid).nets) first_same
        ∙ ap (flat_map (shapes_of names over.power_first)) nets_are
        ∙ ap (λ n. map (wire_shape names n) one.segments ++ (map (wire_shape names (net_number over.power_first other.power)) other.segments ++ [])) one_is
        ∙ ap (λ n. map (wire_shape names 0) one.segments ++ (map (wire_shape names n) other.segments ++ [])) other_is
        ∙ ap (λ z. z ++ (map (wire_shape names 1) other.segments ++ [])) (drawn 0)
        ∙ ap (λ z. map shape_of (pieces_of grid.pieces 0) ++ z) (append-nil (map (wire_shape names 1) other.segments) ∙ drawn 1)
        ∙ sym (map-append shape_of (pieces_of grid.pieces 0) (pieces_of grid.pieces 1))
        ∙ ap (map shape_of) (sym (two_nets (λ (p : Piece). p.net) grid.pieces rise few_nets))

  -- ## the stacks

  module _ (few : All (λ (a : CutArray). IsFew (via_of a)) (arrays_of grid.stacks)) (theirs : AreOfTheirVias (arrays_of grid.stacks)) (stacks : All (StackStandsIn tech (arrays_of grid.stacks)) grid.stacks)
      (two : All (λ (at : StackAt). at.net < 2) grid.stacks) (rise : AllPairs (λ (a b : StackAt). a.net ≤ b.net) grid.stacks) where
    of_net : (net : ℕ) → All (λ (at : StackAt). at.net ≡ net) (stacks_of grid.stacks net)
    of_net net = All-weaker (λ (at : StackAt). (at.net == net) ≡ true) (λ (at : StackAt). at.net ≡ net) (λ at e. same_number at.net net e) (stacks_of grid.stacks net)
        (filter_passes (λ (at : StackAt). at.net == net) grid.stacks)

    again : (net : ℕ) (name : List ℕ) → AreRewired (vias_found tech grid own few theirs) (stacks_of grid.stacks net) (spots_of_net tech grid own few theirs net name (stacks_of grid.stacks net))
    again net name =
        stacks_again tech grid own few theirs net name (stacks_of grid.stacks net) (of_net net)
        (All-filter (λ (at : StackAt). at.net == net) (StackStandsIn tech (arrays_of grid.stacks)) grid.stacks stacks)

    spots_are : named.spots ≡ map (spot_of names 0) one.vias ++ map (spot_of names 1) other.vias
    spots_are =
        are.spots
        ∙ ap (λ b. flat_map (spots_of names b) (wires_of tech grid).nets) first_same
        ∙ ap (flat_map (spots_of names over.power_first)) nets_are
        ∙ ap (λ n. map (spot_of names n) one.vias ++ (map (spot_of names (net_number over.power_first other.power)) other.vias ++ [])) one_is
        ∙ ap (λ n. map (spot_of names 0) one.vias ++ (map (spot_of names n) other.vias ++ [])) other_is
        ∙ ap (λ z. map (spot_of names 0) one.vias ++ z) (append-nil (map (spot_of names 1) other.vias))

    pub rewired : AreRewired named.vias grid.stacks named.spots
    rewired =
        subst (λ (vias : List NamedVia). AreRewired vias grid.stacks named.spots) (sym are.vias)
        (subst (AreRewired (vias_found tech grid own few theirs) grid.stacks) (sym spots_are)
        (subst (λ (all : List StackAt). AreRewired (vias_found tech grid own few theirs) all (map (spot_of names 0) one.vias ++ map (spot_of names 1) other.vias))
        (sym (two_nets (λ (at : StackAt). at.net) grid.stacks rise two))
        (rewired_both (vias_found tech grid own few theirs) (stacks_of grid.stacks 0) (stacks_of grid.stacks 1) (map (spot_of names 0) one.vias) (map (spot_of names 1) other.vias)
        (again 0 first) (again 1 second))))
