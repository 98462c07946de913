-- The segments of a drawn grid: the wires between neighbouring junctions and the arrays of cuts. Each is one resistor.
use Rattle.std.specs.Prelude.{◌≡◌, ◌⊎◌, ⊤, ℕ, ◌+◌, ◌<◌, min, max, ℤ, pos, ◌+ℤ◌, ◌-ℤ◌, ◌*ℤ◌, List, AllPairs, Some, length, slice_get, slice_index, unwrap_or}
use Rattle.std.specs.Int.{int_max}
use Rattle.rounding.specs.Rounding.{floor_div}
use Rattle.lef_tech.specs.declared.tech.Tech.{Tech}
use Rattle.lef_tech.specs.declared.layer.RoutingLayer.{RoutingLayer}
use Rattle.grid_pieces.specs.declared.piece.Piece.{Piece}
use Rattle.grid_pieces.specs.declared.piece.StackAt.{StackAt}
use Rattle.grid_net.specs.declared.part.Resistor.{Resistor}
use Rattle.grid_network.specs.declared.branch.Branch.{Branch}
use Rattle.grid_network.specs.declared.branch.Branch.TheVariants.{Wire, Cuts}
use Rattle.grid_network.specs.declared.key.Key.{Key}
use Rattle.grid_network.specs.declared.segment.Segment.{Segment}
use Rattle.grid_network.specs.Listing.{ListsAll, EachOnce}
use Rattle.grid_network.specs.Asked.{sheet_of}
use Rattle.grid_network.specs.Drawing.{Drawing, piece_at, key_on, key_of_stack, AreNeighbours}
use Rattle.grid_network.specs.Nodes.{number_of}

-- z / r rounded to the nearest whole number, halves up
abbrev pub nearest : ℤ → ℤ → ℤ
nearest z r = floor_div (pos 2 *ℤ z +ℤ r) (pos 2 *ℤ r)

-- the resistance of so much length of a piece, in nano-ohms: that of a square of its layer (LEF/DEF 5.8 Language
-- Reference, RESISTANCE RPERSQ) times length over width, rounded to nearest, and at least 1
abbrev pub wire_ohms : List RoutingLayer → Piece → ℤ → ℤ
wire_ohms layers piece long =
    int_max (pos 1) (nearest (pos (unwrap_or (sheet_of layers piece.layer) 0) *ℤ long) piece.width)

-- the wire of a piece between two places along it
abbrev pub wire_between : List RoutingLayer → List Piece → ℕ → ℤ → ℤ → Segment
wire_between layers pieces number near far = let piece = piece_at pieces number in
    record {
      branch = Wire number;
      first = key_on piece near;
      second = key_on piece far;
      ohms = wire_ohms layers piece (far -ℤ near);
    }

-- the array of cuts at a level of a stack, which joins two layers that follow on each other
abbrev pub cut_array : StackAt → ℕ → ℕ → Segment
cut_array s number level = let layer = s.stack.from + level in
    record {
      branch = Cuts number level;
      first = key_of_stack s layer;
      second = key_of_stack s (layer + 1);
      ohms = pos (slice_index s.stack.ohms level);
    }

-- a piece has neighbouring junctions at the ends of the segment
abbrev pub IsWire : Drawing → Tech → Segment → Type 0
IsWire d tech s = (number : ℕ) × (near : ℤ) × (far : ℤ) × AreNeighbours d number near far
    × (s ≡ wire_between tech.routing d.grid.pieces number near far)

-- a stack has the segment as one of its arrays
abbrev pub IsCutArray : Drawing → Segment → Type 0
IsCutArray d s = (number : ℕ) × (stack : StackAt) × (level : ℕ)
    × (slice_get d.grid.stacks number ≡ Some stack) × (level < length stack.stack.arrays)
    × (s ≡ cut_array stack number level)

-- the segments are the wires between neighbouring junctions of each piece, and the arrays of each stack
abbrev pub IsSegment : Drawing → Tech → Segment → Type 0
IsSegment d tech s = IsWire d tech s ⊎ IsCutArray d s

-- the resistor of a segment, from the earlier of its nodes to the later
abbrev pub resistor_of : List Key → Segment → Resistor
resistor_of keys s = let i = number_of keys s.first in let j = number_of keys s.second in
    record { a = min i j; b = max i j; ohms = s.ohms }

-- pieces come before stacks, each in the order of their numbers, and the arrays of a stack in that of their levels
abbrev pub IsEarlier : Branch → Branch → Type 0
IsEarlier (Wire k) (Wire l) = k < l
IsEarlier (Wire k) (Cuts l j) = ⊤
IsEarlier (Cuts k i) (Wire l) = ⊥
IsEarlier (Cuts k i) (Cuts l j) = (k < l) ⊎ ((k ≡ l) × (i < j))

-- one number is below another, or they are equal and P holds
abbrev pub LessThen : ℕ → ℕ → Type 0 → Type 0
LessThen m n P = (m < n) ⊎ ((m ≡ n) × P)

-- by the earlier node, then by the later node, then by what metal it is
abbrev pub ComesBefore : List Key → Segment → Segment → Type 0
ComesBefore keys s t = let q = resistor_of keys s in let r = resistor_of keys t in
    LessThen q.a r.a (LessThen q.b r.b (IsEarlier s.branch t.branch))

-- all segments, each once, in the order of the nodes at their ends
pub record AreSegments (d : Drawing) (tech : Tech) (keys : List Key) (segments : List Segment) : Type 0 where
  pub all : ListsAll (IsSegment d tech) segments
  pub once : EachOnce segments
  pub in_order : AllPairs (ComesBefore keys) segments
