-- The nodes at the ends of a wire, by the numbers of the junctions.
use Rattle.std.proofs.Common.{◌≡◌, zero, suc, ℕ, ◌-◌, ◌<◌, min, max, List, Some, map, length, get_or, sym, ap, ◌∙◌, arith}
use Rattle.std.specs.Option.{option_map}
use Rattle.std.proofs.lemmas.List.{get_or-map}
use Rattle.lef_tech.specs.declared.layer.RoutingLayer.{RoutingLayer}
use Rattle.grid_pieces.specs.declared.piece.Piece.{Piece}
use Rattle.grid_network.specs.declared.junction.Junction.{Junction}
use Rattle.grid_network.specs.declared.key.Key.{Key}
use Rattle.grid_network.specs.declared.row.Row.{Row}
use Rattle.grid_network.specs.declared.segment.Segment.{Segment}
use Rattle.grid_network.specs.Drawing.{key_at}
use Rattle.grid_network.specs.Nodes.{number_of}
use Rattle.grid_network.specs.inside.Steps.{junction_at, row_of_segment, wire_to}
use Rattle.grid_network.proofs.Wires.{step_is}

-- the numbers of the junctions
abbrev Ends : List Piece → List Key → List Junction → List ℕ → Type 0
Ends pieces keys js ends = ends ≡ map (λ j. number_of keys (key_at pieces j.piece j.along)) js

end_at : (pieces : List Piece) (keys : List Key) (js : List Junction) (ends : List ℕ) (n : ℕ) → Ends pieces keys js ends → n < length js
    → get_or ends n 0 ≡ number_of keys (key_at pieces (junction_at js n).piece (junction_at js n).along)
end_at pieces keys js ends n are within = ap (λ l. get_or l n 0) are ∙ get_or-map (λ j. number_of keys (key_at pieces j.piece j.along)) js n _ 0 within

ends_of_wire : (layers : List RoutingLayer) (pieces : List Piece) (keys : List Key) (js : List Junction) (ends : List ℕ) (i : ℕ) (wire : Segment) → Ends pieces keys js ends → i < length js → wire_to layers pieces js i ≡ Some wire
    → (get_or ends (i - 1) 0 ≡ number_of keys wire.first) × (get_or ends i 0 ≡ number_of keys wire.second)
ends_of_wire layers pieces keys js ends zero wire are within e = absurd (cc)
ends_of_wire layers pieces keys js ends (suc k) wire are within e =
    let near = junction_at js k in
    let far = junction_at js (suc k) in
    let step = step_is layers pieces js k wire e in
    let back : k ≡ suc k - 1 = omega arith in (
      ap (λ n. get_or ends n 0) (sym back) ∙ end_at pieces keys js ends k are (omega arith) ∙ ap (λ n. number_of keys (key_at pieces n near.along)) step.0 ∙ sym (ap (λ s. number_of keys s.first) step.1),
      end_at pieces keys js ends (suc k) are within ∙ sym (ap (λ s. number_of keys s.second) step.1),
    )

pub wire_row_is : (layers : List RoutingLayer) (pieces : List Piece) (keys : List Key) (js : List Junction) (ends : List ℕ) (i : ℕ) (wire : Segment) (row : Row) → Ends pieces keys js ends → i < length js
    → wire_to layers pieces js i ≡ Some wire → row ≡ record { a = min (get_or ends (i - 1) 0) (get_or ends i 0); b = max (get_or ends (i - 1) 0) (get_or ends i 0); branch = wire.branch; ohms = wire.ohms }
    → Some row ≡ option_map (row_of_segment keys) (wire_to layers pieces js i)
wire_row_is layers pieces keys js ends i wire row are within e is =
    let both = ends_of_wire layers pieces keys js ends i wire are within e in
    let made : row ≡ row_of_segment keys wire = is ∙ (λ t. record {
      a = min (both.0 t) (both.1 t);
      b = max (both.0 t) (both.1 t);
      branch = wire.branch;
      ohms = wire.ohms;
    }) in
    ap Some made ∙ sym (ap (option_map (row_of_segment keys)) e)
