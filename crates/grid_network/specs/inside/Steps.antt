-- What the steps of the extraction make and keep.
use Rattle.std.specs.Prelude.{◌≡◌, ◌⊎◌, ◌↔◌, ◌≢◌, zero, suc, ℕ, ◌+◌, ◌-◌, ◌*◌, ◌<◌, ◌≤◌, ◌^◌, ◌==◌, min, max, ℤ, pos, negsuc, ◌≤ℤ◌, List, [], ◌++◌, All, Any, Contains, Option, Some, None, length, map, slice_get, slice_index, slice_index_or, if◌then◌else◌}
use Rattle.std.specs.List.{range_with_len}
use Rattle.std.specs.Option.{option_to_list}
use Rattle.std.specs.List.Sorted.{IsStrictlySortedBy}
use Rattle.std.specs.Cmp.Lexicographic.{slice_cmp}
use Rattle.std.specs.Ordering.{ordering_then, nat_cmp, int_cmp}
use Rattle.std.specs.declared.cmp.Ordering.{Ordering}
use Rattle.std.specs.declared.cmp.Ordering.TheVariants.{Less, Greater}
use Rattle.geom_rect.specs.Rect.{IsCoordinate}
use Rattle.geom_rect.specs.declared.direction.Axis.{Axis}
use Rattle.geom_rect.specs.declared.direction.Axis.TheVariants.{X, Y}
use Rattle.lef_tech.specs.declared.layer.RoutingLayer.{RoutingLayer}
use Rattle.grid_pieces.specs.declared.piece.Piece.{Piece}
use Rattle.grid_pieces.specs.declared.piece.StackAt.{StackAt}
use Rattle.grid_net.specs.declared.part.Resistor.{Resistor}
use Rattle.grid_net.specs.declared.part.Pad.{Pad}
use Rattle.grid_net.specs.declared.part.Load.{Load}
use Rattle.grid_net.specs.Network.{Network}
use Rattle.grid_net.specs.Building.{network_of, first_net_refusal}
use Rattle.grid_network.specs.declared.error.ExtractError.{ExtractError}
use Rattle.grid_network.specs.declared.error.ExtractError.TheVariants.{Net as OfNet, Want}
use Rattle.grid_network.specs.declared.pad.PadOn.{PadOn}
use Rattle.grid_network.specs.declared.pad.Tap.{Tap}
use Rattle.grid_network.specs.declared.branch.Branch.{Branch}
use Rattle.grid_network.specs.declared.branch.Branch.TheVariants.{Wire, Cuts}
use Rattle.grid_network.specs.declared.junction.Junction.{Junction}
use Rattle.grid_network.specs.declared.key.Key.{Key}
use Rattle.grid_network.specs.declared.numbered_names.NumberedName.{NumberedName}
use Rattle.grid_network.specs.declared.question.Question.{Question}
use Rattle.grid_network.specs.declared.row.Row.{Row}
use Rattle.grid_network.specs.declared.segment.Segment.{Segment}
use Rattle.grid_network.specs.declared.spot.Spot.{Spot}
use Rattle.grid_network.specs.Asked.{IsOnPiece}
use Rattle.grid_network.specs.Drawing.{piece_at, key_at, key_of_stack, HasStackEnd}
use Rattle.grid_network.specs.Nodes.{name_of, number_of}
use Rattle.grid_network.specs.Segments.{wire_between, cut_array}

-- ---- lists that grow

-- a list takes exactly the things of a kind besides
abbrev pub Adds : {X : Type 0} → (X → Type 0) → List X → List X → Type 0
Adds {X} P old new = (x : X) → Contains new x ↔ (Contains old x ⊎ P x)

-- ---- orders

-- by net, layer, x and y
abbrev pub key_cmp : Key → Key → Ordering
key_cmp a b = ordering_then (nat_cmp a.net b.net) (ordering_then (nat_cmp a.layer b.layer) (ordering_then (int_cmp a.x b.x) (int_cmp a.y b.y)))

-- by net, layer, the place across and the place along
abbrev pub spot_cmp : Spot → Spot → Ordering
spot_cmp a b = ordering_then (nat_cmp a.net b.net) (ordering_then (nat_cmp a.layer b.layer) (ordering_then (int_cmp a.across b.across) (int_cmp a.along b.along)))

-- by piece, and along it
abbrev pub junction_cmp : Junction → Junction → Ordering
junction_cmp a b = ordering_then (nat_cmp a.piece b.piece) (int_cmp a.along b.along)

-- pieces before stacks, each by their numbers
abbrev pub branch_cmp : Branch → Branch → Ordering
branch_cmp (Wire k) (Wire l) = nat_cmp k l
branch_cmp (Wire k) (Cuts l j) = Less
branch_cmp (Cuts k i) (Wire l) = Greater
branch_cmp (Cuts k i) (Cuts l j) = ordering_then (nat_cmp k l) (nat_cmp i j)

-- by the two nodes, then by the branch, then by the resistance
abbrev pub row_cmp : Row → Row → Ordering
row_cmp q r = ordering_then (nat_cmp q.a r.a) (ordering_then (nat_cmp q.b r.b) (ordering_then (branch_cmp q.branch r.branch) (int_cmp q.ohms r.ohms)))

-- ---- spots

-- the spot of a point, seen along an axis
abbrev pub spot_along : Axis → ℕ → ℕ → ℤ → ℤ → Spot
spot_along X net layer x y = record { net = net; layer = layer; across = y; along = x }
spot_along Y net layer x y = record { net = net; layer = layer; across = x; along = y }

-- the spot of a stack on a layer
abbrev pub spot_of_stack : Axis → StackAt → ℕ → Spot
spot_of_stack axis s layer = spot_along axis s.net layer s.x s.y

-- the spot is the lower or the upper end of a stack
abbrev pub IsEnd : Axis → List StackAt → Spot → Type 0
IsEnd axis stacks spot = Any (λ s. (spot ≡ spot_of_stack axis s s.stack.from) ⊎ (spot ≡ spot_of_stack axis s s.stack.to)) stacks

-- the spot so far along a piece
abbrev pub spot_on_piece : Piece → ℤ → Spot
spot_on_piece piece along = record { net = piece.net; layer = piece.layer; across = piece.centre; along = along }

-- the junction is one of the piece with the number, at one of the spots
abbrev pub IsEndOn : List Spot → Piece → ℕ → Junction → Type 0
IsEndOn spots piece number j = (j.piece ≡ number) × (piece.from ≤ℤ j.along) × (j.along ≤ℤ piece.to) × Contains spots (spot_on_piece piece j.along)

-- the junction is one of the piece with the number, at the end of a stack
abbrev pub IsEndOf : List StackAt → Piece → ℕ → Junction → Type 0
IsEndOf stacks piece number j = (j.piece ≡ number) × HasStackEnd stacks piece j.along

-- the junction is one of the first n pieces, at the end of a stack
abbrev pub IsEndBelow : List StackAt → List Piece → ℕ → Junction → Type 0
IsEndBelow stacks pieces n j = (j.piece < n) × HasStackEnd stacks (piece_at pieces j.piece) j.along

-- ---- nodes

-- the point is that of one of the junctions
abbrev pub IsAtJunction : List Piece → List Junction → Key → Type 0
IsAtJunction pieces junctions key = Any (λ j. key ≡ key_at pieces j.piece j.along) junctions

-- the point is that of a stack on one of its layers
abbrev pub IsOnStack : StackAt → Key → Type 0
IsOnStack s key = (layer : ℕ) × (s.stack.from ≤ layer) × (layer ≤ s.stack.to) × (key ≡ key_of_stack s layer)

-- the point at a place
abbrev pub place_of : List Key → ℕ → Key
place_of places i = slice_index_or places i (record { net = 0; layer = 0; x = pos 0; y = pos 0 })

-- the numbers of the nodes: the points in order, and for each its number, which is its place among the keys
pub record TellsNumbers (keys places : List Key) (numbers : List ℕ) : Type 0 where
  pub sorted : IsStrictlySortedBy key_cmp places
  pub one_each : length numbers ≡ length places
  pub as_many : length keys ≡ length places
  pub told : (i : ℕ) → i < length places → slice_get keys (slice_index numbers i) ≡ slice_get places i
  pub once : (i j : ℕ) (d : Key) → i < j → j < length keys → slice_index_or keys i d ≢ slice_index_or keys j d
  pub same : (key : Key) → Contains keys key → Contains places key

-- the first n bytes of a name as one number; where the name has ended, 0 stands
unfoldable pub front_of : List ℕ → ℕ → ℕ
front_of name zero = 0
front_of name (suc n) = front_of name n * 256 + slice_index name n

-- the name of the point with a number, with that number
abbrev pub numbered_name : ℕ → List Key → ℕ → NumberedName
numbered_name layers places i = let name = name_of layers (place_of places i) in
    record { front = front_of name 16; name = name; number = i }

-- by the numbers of the first bytes, then by the names
abbrev pub name_cmp : NumberedName → NumberedName → Ordering
name_cmp a b = ordering_then (nat_cmp a.front b.front) (slice_cmp nat_cmp a.name b.name)

-- each of the numbers stands at the place that is given for it
abbrev pub IsPlaced : List ℕ → List ℕ → Type 0
IsPlaced numbers places = All (λ number. slice_get numbers (slice_index places number) ≡ Some number) numbers

-- the points that are asked for have their places as their numbers
abbrev pub AreInTurn : List Question → Type 0
AreInTurn questions = (i : ℕ) (d : Question) → i < length questions → (slice_index_or questions i d).at ≡ i

-- ---- segments

-- the row of a segment
abbrev pub row_of_segment : List Key → Segment → Row
row_of_segment keys s = let i = number_of keys s.first in let j = number_of keys s.second in
    record { a = min i j; b = max i j; branch = s.branch; ohms = s.ohms }

-- a junction by its place, in the list of all
abbrev pub junction_at : List Junction → ℕ → Junction
junction_at js i = slice_index_or js i (record { piece = 0; along = pos 0 })

-- the wire that ends at a junction and begins at the one before it, where both are of one piece
abbrev pub wire_to : List RoutingLayer → List Piece → List Junction → ℕ → Option Segment
wire_to layers pieces js zero = None
wire_to layers pieces js (suc i) = let near = junction_at js i in let far = junction_at js (suc i) in
    (if near.piece == far.piece then Some (wire_between layers pieces far.piece near.along far.along) else None)

-- the wires that end at the first n junctions
abbrev pub wires_below : List RoutingLayer → List Piece → List Junction → ℕ → List Segment
wires_below layers pieces js zero = []
wires_below layers pieces js (suc n) = wires_below layers pieces js n ++ option_to_list (wire_to layers pieces js n)

-- the arrays of a stack below a level
abbrev pub arrays_below : StackAt → ℕ → ℕ → List Segment
arrays_below s number level = map (cut_array s number) (range_with_len 0 level)

-- all arrays of a stack, if there is one
abbrev pub arrays_of : Option StackAt → ℕ → List Segment
arrays_of None number = []
arrays_of (Some s) number = arrays_below s number (length s.stack.arrays)

-- the arrays of the first n stacks
abbrev pub cuts_below : List StackAt → ℕ → List Segment
cuts_below stacks zero = []
cuts_below stacks (suc n) = cuts_below stacks n ++ arrays_of (slice_get stacks n) n

-- the junctions are in order, each on one of the pieces and between its ends
pub record AreAlong (pieces : List Piece) (js : List Junction) : Type 0 where
  pub in_order : IsStrictlySortedBy junction_cmp js
  pub on_pieces : All (λ j. IsOnPiece pieces j.piece j.along) js

-- the piece has a width, and its ends are coordinates
pub record IsMeasured (piece : Piece) : Type 0 where
  pub wide : pos 1 ≤ℤ piece.width
  pub narrow : piece.width ≤ℤ pos (2 ^ 32)
  pub from : IsCoordinate piece.from
  pub to : IsCoordinate piece.to

-- the stack has one array and one resistance for each layer from its lower end up to below its upper one
pub record IsStacked (s : StackAt) : Type 0 where
  pub arrays : s.stack.from + length s.stack.arrays ≡ s.stack.to
  pub resistances : length s.stack.ohms ≡ length s.stack.arrays

-- the node at a place is the first of its layer and net
abbrev pub BeginsLayer : List Key → ℕ → Type 0
BeginsLayer places i = let key = place_of places i in let before = place_of places (i - 1) in (i ≡ 0) ⊎ (before.net ≢ key.net) ⊎ (before.layer ≢ key.layer)

-- the numbers of the point fit their types
pub record IsShort (key : Key) : Type 0 where
  pub net : key.net < 2 ^ 32
  pub x_low : negsuc (2 ^ 63) ≤ℤ key.x
  pub x_high : key.x ≤ℤ pos (2 ^ 63)
  pub y_low : negsuc (2 ^ 63) ≤ℤ key.y
  pub y_high : key.y ≤ℤ pos (2 ^ 63)

-- ---- the network

-- the resistors of the rows
abbrev pub row_resistors : List Row → List Resistor
row_resistors rows = map (λ r. record { a = r.a; b = r.b; ohms = r.ohms }) rows

-- the pads on their nodes
abbrev pub node_pads : List Piece → List Key → List PadOn → List Pad
node_pads pieces keys pads = map (λ p. record { node = number_of keys (key_at pieces p.piece p.along); volts = p.volts }) pads

-- the loads on their nodes
abbrev pub node_loads : List Piece → List Key → List Tap → List Load
node_loads pieces keys taps = map (λ t. record { node = number_of keys (key_at pieces t.piece t.along); low = t.low; high = t.high }) taps

-- the network is that of the rows, the pads and the loads, and nothing refuses them
pub record IsBuiltOf (pieces : List Piece) (keys : List Key) (rows : List Row) (pads : List PadOn) (taps : List Tap) (net : Network) : Type 0 where
  pub is : net ≡ network_of (length keys) (row_resistors rows) (node_pads pieces keys pads) (node_loads pieces keys taps)
  pub not_refused : first_net_refusal (length keys) (row_resistors rows) (node_pads pieces keys pads) (node_loads pieces keys taps) ≡ None

-- the rows, the pads and the loads are refused for this reason, or memory was wanting
abbrev pub IsNotBuilt : List Piece → List Key → List Row → List PadOn → List Tap → ExtractError → Type 0
IsNotBuilt pieces keys rows pads taps (OfNet error) =
    first_net_refusal (length keys) (row_resistors rows) (node_pads pieces keys pads) (node_loads pieces keys taps) ≡ Some error
IsNotBuilt pieces keys rows pads taps Want = Unit {0}
IsNotBuilt pieces keys rows pads taps _ = ⊥
