use Rattle.std.proofs.Common.{◌≡◌, List, [], ◌∷◌, sym, ◌∙◌, subst}
use Rattle.grid_pieces.specs.declared.piece.Piece.{Piece}
use Rattle.wire_stacks.specs.Stacks.{AreStacks}
use Rattle.wired_grid.specs.Wired.{two_in_order, two_powers, one_domain}
use Rattle.rewired_grids.proofs.Premises.{few_vias, pieces_stand, pieces_rise, stacks_rise, two_nets_of_stacks, stacks_stand}
use Rattle.rewired_grids.proofs.Whole.{redrawn, power_same, ground_same, first_same, shapes_are, rewired}
use Rattle.rewired_grids.proofs.laws.rewired_grids_are_alike.Goals as goal

pub returns : goal.returns
returns s design tech grid again is can units wired =
    let named = wired.named in
    let are = wired.are_named in
    let power = power_same tech grid is.names is.over named are in
    let ground = ground_same tech grid is.names is.over named are in
    let first = first_same tech grid is.names is.over named are in
    let shapes = shapes_are tech grid is.names is.over named are (pieces_stand tech grid is) (pieces_rise tech grid is) in
    let pieces : again.pieces ≡ grid.pieces = s.redrawn_pieces_are_the_same.ensures is.cut.drawn is.cut.blocks grid.pieces again.pieces named.shapes is.cut.are (redrawn grid.pieces named.shapes shapes) wired.pieces in
    let spots = rewired tech grid is.names is.over named are (few_vias design tech grid can) is.arrays (stacks_stand tech grid is) (two_nets_of_stacks tech grid is) (stacks_rise tech grid is) in
    let stacks = subst (λ (all : List Piece). AreStacks tech named.vias named.spots all again.stacks) pieces wired.stacks in
    record {
      units = units ∙ sym wired.units;
      nets = is.over.nets ∙ sym (λ i. two_in_order (power i) (ground i) (first i)) ∙ sym wired.nets;
      power = is.over.powers ∙ sym (λ i. two_powers (first i)) ∙ sym wired.power;
      domains = is.over.domains ∙ sym (λ i. one_domain (first i) ∷ []) ∙ sym wired.domains;
      pieces = sym pieces;
      stacks = sym (s.rewired_stacks_are_the_same.ensures tech grid.pieces grid.stacks again.stacks named.vias named.spots is.apart spots stacks);
    }
