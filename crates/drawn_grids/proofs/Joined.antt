-- The branches of a network are wires along pieces of the grid and arrays of its stacks.
use Rattle.std.proofs.Common.{◌≡◌, inl, inr, ℕ, ◌<◌, All, Some, List, length, get_or, sym, subst, ap}
use Rattle.std.specs.Prelude.{slice_get, pos}
use Rattle.std.proofs.lemmas.List.Elements.{All-map, Contains-get_or}
use Rattle.std.proofs.lemmas.Option.{slice_get_within, get_or_from_slice_get, slice_get-get_or}
use Rattle.geom_rect.specs.declared.direction.Axis.TheVariants.{X}
use Rattle.geom_rect.specs.declared.drawn.Shape.TheVariants.{Stripe}
use Rattle.lef_tech.specs.declared.tech.Tech.{Tech}
use Rattle.lef_tech.specs.Limits.{TechKeeps}
use Rattle.via_arrays.specs.declared.parts.CutArray.{CutArray}
use Rattle.via_arrays.specs.Lengths.{IsUnits}
use Rattle.grid_pieces.specs.declared.grid.Grid.{Grid}
use Rattle.grid_pieces.specs.declared.piece.Block.{Block}
use Rattle.grid_pieces.specs.declared.piece.Piece.{Piece}
use Rattle.grid_pieces.specs.declared.piece.StackAt.{StackAt}
use Rattle.grid_stacks.specs.declared.connect.Connect.{Connect}
use Rattle.grid_stacks.specs.Crossing.{Stands}
use Rattle.grid_stacks.specs.Stacking.{AreStacks}
use Rattle.grid_network.specs.declared.extracted.Extracted.{Extracted}
use Rattle.grid_network.specs.declared.pad.PadOn.{PadOn}
use Rattle.grid_network.specs.declared.pad.Tap.{Tap}
use Rattle.grid_network.specs.declared.segment.Segment.{Segment}
use Rattle.grid_network.specs.Network.{IsNetworkOn}
use Rattle.grid_network.specs.Segments.{IsSegment}
use Rattle.grid_extract.specs.Extraction.{drawing_of}
use Rattle.grid_limits.specs.Limits.{IsWire, IsCuts, IsBranchOf}
use Rattle.grid_shapes.specs.Drawing.{PieceStands}
use Rattle.drawn_grids.specs.Laws.Cut.{ArrayStands}
use Rattle.drawn_grids.specs.Laws.Sites.{HasSite, has_site, arrays_stand}

no_piece : Piece
no_piece = record { net = 0; layer = 0; axis = X; centre = pos 0; width = pos 0; from = pos 0; to = pos 0; shape = Stripe }

no_array : CutArray
no_array = record { rule = 0; columns = 0; rows = 0; cut_x = pos 0; cut_y = pos 0; pitch_x = pos 0; pitch_y = pos 0; lower_x = pos 0; lower_y = pos 0; upper_x = pos 0; upper_y = pos 0 }

module _ (tech : Tech) (grid : Grid) (connects : List Connect) (blocks : List Block) (units : ℕ) (keeps : TechKeeps tech) (is_units : IsUnits units)
    (pieces : All (PieceStands tech grid) grid.pieces) (are : AreStacks (Stands tech grid.pieces connects blocks) tech units grid.pieces grid.stacks) where
  wire_is : (number : ℕ) → number < length grid.pieces → IsWire tech grid number
  wire_is number within =
      let stands = pieces number no_piece within in
      record {
        piece = get_or grid.pieces number no_piece;
        is = slice_get-get_or grid.pieces number no_piece within;
        keeps = stands.keeps;
        layer = stands.layer;
      }

  cuts_are : (number level : ℕ) (stack : StackAt) → slice_get grid.stacks number ≡ Some stack → level < length stack.stack.arrays → IsCuts tech grid number level
  cuts_are number level stack is within = record {
    array = get_or stack.stack.arrays level no_array;
    is = record { stack = stack; stack_is = is; is = slice_get-get_or stack.stack.arrays level no_array within };
    rule = stands.rule;
    cuts = stands.cuts;
  }
    where
      site : HasSite tech stack
      site = subst (HasSite tech) (get_or_from_slice_get grid.stacks number stack stack is)
          (has_site tech grid connects blocks units grid.stacks is_units pieces are number stack (slice_get_within grid.stacks number stack is))

      stands : ArrayStands tech (get_or stack.stack.arrays level no_array)
      stands = arrays_stand tech stack keeps site level no_array within

  -- What a segment is, its branch is.
  segment_is : (pads : List PadOn) (taps : List Tap) (s : Segment) → IsSegment (drawing_of grid pads taps) tech s → IsBranchOf tech grid s.branch
  segment_is pads taps s (inl (number, near, far, neighbours, is)) =
      subst (IsBranchOf tech grid) (sym (ap (λ (t : Segment). t.branch) is)) (wire_is number neighbours.near_joins.of_a_piece)
  segment_is pads taps s (inr (number, stack, level, at, within, is)) =
      subst (IsBranchOf tech grid) (sym (ap (λ (t : Segment). t.branch) is)) (cuts_are number level stack at within)

  pub branches_are : (e : Extracted) → IsNetworkOn grid tech e → All (IsBranchOf tech grid) e.branches
  branches_are e is =
      let network = is.network in
      subst (All (IsBranchOf tech grid)) (sym network.branches)
      (All-map (IsBranchOf tech grid) (λ (s : Segment). s.branch) network.segments
      (λ k s within. segment_is is.pads is.taps (get_or network.segments k s)
      ((network.all_segments.all (get_or network.segments k s)).0 (Contains-get_or network.segments k s within))))
