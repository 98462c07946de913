-- What is asked of a grid that is signed off, the grid of wiring has.
use Rattle.std.proofs.Common.{◌≡◌, inl, inr, ℕ, ◌<◌, All, Some, List, length, get_or, slice_get, sym, subst, ap}
use Rattle.std.specs.Prelude.{pos}
use Rattle.std.proofs.lemmas.List.Elements.{All-map, Contains-get_or}
use Rattle.std.proofs.lemmas.Option.{slice_get_within, get_or_from_slice_get, slice_get-get_or}
use Rattle.text_lex.specs.Name.{IsName}
use Rattle.geom_rect.specs.declared.direction.Axis.TheVariants.{X}
use Rattle.geom_rect.specs.declared.drawn.Shape.TheVariants.{Stripe}
use Rattle.grid_extract.specs.Extraction.{GridKeeps, drawing_of}
use Rattle.grid_limits.specs.Limits.{IsWire, IsCuts, IsBranchOf}
use Rattle.grid_network.specs.declared.extracted.Extracted.{Extracted}
use Rattle.grid_network.specs.declared.pad.PadOn.{PadOn}
use Rattle.grid_network.specs.declared.pad.Tap.{Tap}
use Rattle.grid_network.specs.declared.segment.Segment.{Segment}
use Rattle.grid_network.specs.Segments.{IsSegment}
use Rattle.grid_pieces.specs.declared.grid.Grid.{Grid}
use Rattle.grid_pieces.specs.declared.piece.Piece.{Piece}
use Rattle.grid_pieces.specs.declared.piece.StackAt.{StackAt}
use Rattle.grid_signing.specs.Signing.{IsNetworkOver, CanBeSigned}
use Rattle.lef_tech.specs.declared.tech.Tech.{Tech}
use Rattle.via_arrays.specs.declared.parts.CutArray.{CutArray}
use Rattle.wired_grid.specs.Wired.{ArrayStands, ArraysStand}
use Rattle.signing_off.specs.declared.records.WiredRecords.{WiredRecords}
use Rattle.signing_off.specs.Reading.{WiredRecordsKeep}
use Rattle.signing_off.specs.Signing.{base_of}

no_piece : Piece
no_piece = record { net = 0; layer = 0; axis = X; centre = pos 0; width = pos 0; from = pos 0; to = pos 0; shape = Stripe }

no_array : CutArray
no_array = record { rule = 0; columns = 0; rows = 0; cut_x = pos 0; cut_y = pos 0; pitch_x = pos 0; pitch_y = pos 0; lower_x = pos 0; lower_y = pos 0; upper_x = pos 0; upper_y = pos 0 }

module _ (tech : Tech) (grid : Grid) (keeps : GridKeeps grid tech) (arrays : All (ArraysStand tech) grid.stacks) where
  wire_is : (number : ℕ) → number < length grid.pieces → IsWire tech grid number
  wire_is number within =
      let stands = keeps.pieces number no_piece within in
      record {
        piece = get_or grid.pieces number no_piece;
        is = slice_get-get_or grid.pieces number no_piece within;
        keeps = stands.keeps;
        layer = stands.layer;
      }

  cuts_are : (number level : ℕ) (stack : StackAt) → slice_get grid.stacks number ≡ Some stack → level < length stack.stack.arrays → IsCuts tech grid number level
  cuts_are number level stack is within = record {
    array = get_or stack.stack.arrays level no_array;
    is = record { stack = stack; stack_is = is; is = slice_get-get_or stack.stack.arrays level no_array within };
    rule = stands.rule;
    cuts = record { row = stands.row; column = stands.column };
  }
    where
      here : ArraysStand tech stack
      here = subst (ArraysStand tech) (get_or_from_slice_get grid.stacks number stack stack is) (arrays number stack (slice_get_within grid.stacks number stack is))

      stands : ArrayStands tech (get_or stack.stack.arrays level no_array)
      stands = here level no_array within

  -- What a segment is, its branch is.
  segment_is : (pads : List PadOn) (taps : List Tap) (s : Segment) → IsSegment (drawing_of grid pads taps) tech s → IsBranchOf tech grid s.branch
  segment_is pads taps s (inl (number, near, far, neighbours, is)) =
      subst (IsBranchOf tech grid) (sym (ap (λ (t : Segment). t.branch) is)) (wire_is number neighbours.near_joins.of_a_piece)
  segment_is pads taps s (inr (number, stack, level, at, within, is)) =
      subst (IsBranchOf tech grid) (sym (ap (λ (t : Segment). t.branch) is)) (cuts_are number level stack at within)

pub can_be_signed : (r : WiredRecords) (grid : Grid) → WiredRecordsKeep r → GridKeeps grid r.tech → All (ArraysStand r.tech) grid.stacks → All IsName grid.nets → CanBeSigned (base_of r) grid
can_be_signed r grid keep keeps arrays names = record {
  keeps = keeps;
  names = record { layers = keep.layer_names; nets = names };
  branches = branches;
}
  where
    branches : (e : Extracted) → IsNetworkOver (base_of r) grid e → All (IsBranchOf r.tech grid) e.branches
    branches e is =
        subst (All (IsBranchOf r.tech grid)) (sym is.network.branches)
        (All-map (IsBranchOf r.tech grid) (λ (s : Segment). s.branch) is.network.segments
        (λ k d within. segment_is r.tech grid keeps arrays is.pads is.taps (get_or is.network.segments k d)
        ((is.network.all_segments.all (get_or is.network.segments k d)).0 (Contains-get_or is.network.segments k d within))))
