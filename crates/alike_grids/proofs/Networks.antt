-- The network of a grid with pads and taps is that of one that is alike.
use Rattle.std.proofs.Common.{◌≡◌, ◌⊎◌, inl, inr, ℕ, ◌<◌, ◌≤◌, ℤ, pos, ◌<ℤ◌, List, map, length, Some, sym, ap, ◌∙◌, subst}
use Rattle.lef_tech.specs.declared.tech.Tech.{Tech}
use Rattle.grid_pieces.specs.declared.grid.DomainAt.{DomainAt}
use Rattle.grid_pieces.specs.declared.grid.Grid.{Grid}
use Rattle.grid_pieces.specs.declared.piece.StackAt.{StackAt}
use Rattle.grid_pieces.specs.declared.piece.Piece.{Piece}
use Rattle.via_arrays.specs.declared.parts.Stack.{Stack}
use Rattle.grid_net.specs.declared.note.Note.{Note}
use Rattle.grid_network.specs.declared.extracted.Extracted.{Extracted}
use Rattle.grid_network.specs.declared.key.Key.{Key}
use Rattle.grid_network.specs.declared.pad.PadOn.{PadOn}
use Rattle.grid_network.specs.declared.pad.Tap.{Tap}
use Rattle.grid_network.specs.declared.segment.Segment.{Segment}
use Rattle.grid_network.specs.Listing.{ListsAll}
use Rattle.grid_network.specs.Drawing.{Drawing, key_of_stack, piece_at, key_on, StackEndsAt, HasStackEnd, HasPad, HasTap, IsJunction, AreNeighbours}
use Rattle.grid_network.specs.Nodes.{IsOfStack, IsOfPiece, IsNode, AreNodes}
use Rattle.grid_network.specs.Segments.{IsWire, IsCutArray, cut_array, IsSegment, AreSegments}
use Rattle.grid_network.specs.Layers.{IsNoteOf, AreNotes}
use Rattle.grid_network.specs.Network.{IsNetworkOf}
use Rattle.grid_extract.specs.Extraction.{drawing_of}
use Rattle.alike_grids.specs.Alike.{Joint, joint_of}
use Rattle.alike_grids.proofs.Stacks.{some_in, get_in}

-- a grid with these domains and these stacks
abbrev pub with : Grid → List DomainAt → List StackAt → Grid
with grid domains stacks = record grid { domains = domains; stacks = stacks }

-- a stack goes through the point on one of its layers
abbrev Through : Key → Joint → Type 0
Through key j = (layer : ℕ) × (j.stack.from ≤ layer) × (layer ≤ j.stack.to)
    × (key ≡ record { net = j.net; layer = layer; x = j.x; y = j.y })

module _ (grid : Grid) (pads : List PadOn) (taps : List Tap) where
  -- the grid with these domains and these stacks, with its pads and its taps
  abbrev on : List DomainAt → List StackAt → Drawing
  on domains stacks = drawing_of (with grid domains stacks) pads taps

  module _ (ds es : List DomainAt) (xs ys : List StackAt) (same : map joint_of xs ≡ map joint_of ys) where
    ends_in : (key : Key) → StackEndsAt xs key → StackEndsAt ys key
    ends_in key = some_in joint_of (λ s. (key ≡ key_of_stack s s.stack.from) ⊎ (key ≡ key_of_stack s s.stack.to))
        (λ s. (key ≡ key_of_stack s s.stack.from) ⊎ (key ≡ key_of_stack s s.stack.to)) by xs ys same
      where
        low : Joint → Key
        low j = record { net = j.net; layer = j.stack.from; x = j.x; y = j.y }

        high : Joint → Key
        high j = record { net = j.net; layer = j.stack.to; x = j.x; y = j.y }

        by : (s t : StackAt) → joint_of s ≡ joint_of t → (key ≡ key_of_stack s s.stack.from) ⊎ (key ≡ key_of_stack s s.stack.to)
            → (key ≡ key_of_stack t t.stack.from) ⊎ (key ≡ key_of_stack t t.stack.to)
        by s t e (inl p) = inl (p ∙ ap low e)
        by s t e (inr p) = inr (p ∙ ap high e)

    stack_in : (key : Key) → IsOfStack xs key → IsOfStack ys key
    stack_in key = some_in joint_of (λ s. Through key (joint_of s)) (λ s. Through key (joint_of s))
        (λ s t e h. subst (Through key) e h) xs ys same

    junction_in : (number : ℕ) (along : ℤ) → IsJunction (on ds xs) number along → IsJunction (on es ys) number along
    junction_in number along j = record { of_a_piece = j.of_a_piece; joins = by j.joins }
      where
        piece : Piece
        piece = piece_at grid.pieces number

        by : HasStackEnd xs piece along ⊎ HasPad pads number along ⊎ HasTap taps number along
            → HasStackEnd ys piece along ⊎ HasPad pads number along ⊎ HasTap taps number along
        by (inl (from, to, ends)) = inl (from, to, ends_in (key_on piece along) ends)
        by (inr other) = inr other

    cut_in : (s : Segment) → IsCutArray (on ds xs) s → IsCutArray (on es ys) s
    cut_in s (number, stack, level, is, within, are) =
        let found = get_in joint_of xs ys same number stack is in
        let e = found.2 in
        (number, found.0, level, found.1, subst (λ (j : Joint). level < length j.stack.arrays) e within, are ∙ ap (λ (j : Joint). Cut j) e)
      where
        Cut : Joint → Segment
        Cut j = cut_array (record { net = j.net; x = j.x; y = j.y; crossing = record { x1 = pos 0; y1 = pos 0; x2 = pos 0; y2 = pos 0 }; stack = j.stack }) number level

  module _ (ds es : List DomainAt) (xs ys : List StackAt) (there : map joint_of xs ≡ map joint_of ys) where
    back : map joint_of ys ≡ map joint_of xs
    back = sym there

    neighbours_in : (number : ℕ) (near far : ℤ) → AreNeighbours (on ds xs) number near far → AreNeighbours (on es ys) number near far
    neighbours_in number near far a = record {
      near_joins = junction_in ds es xs ys there number near a.near_joins;
      far_joins = junction_in ds es xs ys there number far a.far_joins;
      rising = a.rising;
      none_between = λ along j. a.none_between along (junction_in es ds ys xs back number along j);
    }

    node_in : (key : Key) → IsNode (on ds xs) key → IsNode (on es ys) key
    node_in key (inl (number, along, junction, is)) = inl (number, along, junction_in ds es xs ys there number along junction, is)
    node_in key (inr of_stack) = inr (stack_in ds es xs ys there key of_stack)

    wire_in : (tech : Tech) (s : Segment) → IsWire (on ds xs) tech s → IsWire (on es ys) tech s
    wire_in tech s (number, near, far, next, is) = (number, near, far, neighbours_in number near far next, is)

    segment_in : (tech : Tech) (s : Segment) → IsSegment (on ds xs) tech s → IsSegment (on es ys) tech s
    segment_in tech s (inl wire) = inl (wire_in tech s wire)
    segment_in tech s (inr cut) = inr (cut_in ds es xs ys there s cut)

    note_in : (tech : Tech) (key : Key) (n : Note) → IsNoteOf (on ds xs) tech key n → IsNoteOf (on es ys) tech key n
    note_in tech key n is = record { has_node = node_in key is.has_node; layer = is.layer; net = is.net; number = is.number }

  module _ (ds es : List DomainAt) (xs ys : List StackAt) (there : map joint_of xs ≡ map joint_of ys) where
    here : map joint_of ys ≡ map joint_of xs
    here = sym there

    nodes_in : (layers : ℕ) (keys : List Key) → AreNodes (on ds xs) layers keys → AreNodes (on es ys) layers keys
    nodes_in layers keys are = record {
      all = λ key. (λ in_list. node_in ds es xs ys there key ((are.all key).0 in_list), λ node. (are.all key).1 (node_in es ds ys xs here key node));
      once = are.once;
      in_order = are.in_order;
    }

    segments_in : (tech : Tech) (keys : List Key) (segments : List Segment) → AreSegments (on ds xs) tech keys segments → AreSegments (on es ys) tech keys segments
    segments_in tech keys segments are = record {
      all = λ s. (λ in_list. segment_in ds es xs ys there tech s ((are.all s).0 in_list), λ is. (are.all s).1 (segment_in es ds ys xs here tech s is));
      once = are.once;
      in_order = are.in_order;
    }

    notes_in : (tech : Tech) (notes : List Note) → AreNotes (on ds xs) tech notes → AreNotes (on es ys) tech notes
    notes_in tech notes are = record {
      all = λ n. (
        λ in_list. let of_key = (are.all n).0 in_list in (of_key.0, note_in ds es xs ys there tech of_key.0 n of_key.1),
        λ of_key. (are.all n).1 (of_key.0, note_in es ds ys xs here tech of_key.0 n of_key.1),
      );
      in_order = are.in_order;
    }

    pub network_in : (tech : Tech) (e : Extracted) → IsNetworkOf (on ds xs) tech e → IsNetworkOf (on es ys) tech e
    network_in tech e is = record {
      segments = is.segments;
      nodes = nodes_in (length tech.routing) e.keys is.nodes;
      names = is.names;
      all_segments = segments_in tech e.keys is.segments is.all_segments;
      branches = is.branches;
      net = is.net;
      not_refused = is.not_refused;
      notes = notes_in tech e.notes is.notes;
    }
