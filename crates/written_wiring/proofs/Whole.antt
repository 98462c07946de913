-- The wiring that is written net by net is the grid's own.
use Rattle.std.proofs.Common.{◌≡◌, ℕ, List, map, ◌∙◌, ap}
use Rattle.std.specs.Prelude.{flat_map}
use Rattle.std.specs.List.{enumerate_from}
use Rattle.lef_tech.specs.declared.tech.Tech.{Tech}
use Rattle.def_design.specs.declared.record.Design.{Design}
use Rattle.grid_pieces.specs.declared.grid.Grid.{Grid}
use Rattle.grid_pieces.specs.declared.piece.Piece.{Piece}
use Rattle.grid_pieces.specs.declared.piece.StackAt.{StackAt}
use Rattle.def_writer.specs.Limits.{GridFits}
use Rattle.wiring_file.specs.declared.record.ViaText.{ViaText}
use Rattle.wiring_file.specs.declared.record.Wiring.{Wiring}
use Rattle.wiring_file.specs.Written.{NetText, wiring_with}
use Rattle.written_wiring.specs.Wiring.{wire_text, places_at, wire_of, places_of, wiring_of}
use Rattle.written_wiring.specs.Fits.{CanBeRead}
use Rattle.written_wiring.proofs.Nets.{net_first, net_first_of_four, Rises, rises_all, all_nets, all_mapped}
use Rattle.written_wiring.proofs.Texts.{vias_text, nets_text, wires_are, places_are}

abbrev piece_net : Piece → ℕ
piece_net p = p.net

abbrev stack_net : StackAt → ℕ
stack_net at = at.net

pieces_rise : (tech : Tech) (grid : Grid) → GridFits tech grid → Rises piece_net grid.pieces
pieces_rise tech grid fits = rises_all piece_net grid.pieces (λ i j d lt within. net_first _ _ _ _ _ _ (fits.pieces i j d lt within))

stacks_rise : (tech : Tech) (grid : Grid) → GridFits tech grid → Rises stack_net grid.stacks
stacks_rise tech grid fits = rises_all stack_net grid.stacks (λ i j d lt within. net_first_of_four _ _ _ _ _ (fits.stacks i j d lt within))

pub wiring_is : (design : Design) (tech : Tech) (grid : Grid) → CanBeRead design tech grid → wiring_with (vias_text tech grid) (nets_text tech grid) ≡ wiring_of tech grid
wiring_is design tech grid can =
    let vias : List ViaText = vias_text tech grid in
    let nets : List (ℕ × List ℕ) = enumerate_from 0 grid.nets in
    let wires : flat_map (λ (net : NetText). net.wires) (nets_text tech grid) ≡ map (wire_of tech grid) grid.pieces =
    wires_are tech grid nets ∙ all_mapped piece_net (wire_text tech) grid.nets grid.pieces (pieces_rise tech grid can.grid_fits) can.piece_nets in
    let places : flat_map (λ (net : NetText). net.places) (nets_text tech grid) ≡ flat_map (places_of tech grid) grid.stacks =
    places_are tech grid nets ∙ all_nets stack_net (places_at tech) grid.nets grid.stacks (stacks_rise tech grid can.grid_fits) can.stack_nets in
    ap (λ z. let w : Wiring = record { vias = vias; wires = z; places = flat_map (λ (net : NetText). net.places) (nets_text tech grid) } in w) wires
    ∙ ap (λ z. let w : Wiring = record { vias = vias; wires = map (wire_of tech grid) grid.pieces; places = z } in w) places
