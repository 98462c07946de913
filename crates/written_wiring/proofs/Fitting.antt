-- The names and numbers of a grid may stand in the places of its DEF.
use Rattle.std.proofs.Common.{◌≡◌, ℕ, ◌+◌, ◌^◌, ◌<◌, ◌≤◌, ◌==◌, Bool, true, false, ℤ, pos, List, [], ◌∷◌, length, map, codes, refl, arith, inl, inr, fold}
use Rattle.std.specs.Prelude.{All, flat_map, slice_index_or, ◌⊎◌, unsigned_abs, negsuc, neg_ℤ, ◌≤ℤ◌, ◌<ℤ◌, ◌+ℤ◌, ◌-ℤ◌}
use Rattle.std.specs.List.{enumerate_from}
use Rattle.std.specs.Map.{values_of}
use Rattle.std.specs.BTreeMap.{insert_entry}
use Rattle.std.specs.Ordering.{match_ordering}
use Rattle.std.specs.declared.cmp.Ordering.{Ordering}
use Rattle.std.specs.declared.cmp.Ordering.TheVariants.{Less, Equal, Greater}
use Rattle.std.proofs.lemmas.Int.{ints}
use Rattle.std.proofs.lemmas.List.{length-map}
use Rattle.std.proofs.lemmas.List.Elements.{All-nil, All-cons, All-head, All-tail, All-append, All-map, All-filter}
use Rattle.text_lex.specs.Name.{IsName}
use Rattle.geom_rect.specs.Rect.{IsCoordinate, HasCoordinates}
use Rattle.geom_rect.specs.Drawn.{half, centred}
use Rattle.geom_rect.specs.declared.direction.Axis.{Axis}
use Rattle.geom_rect.specs.declared.direction.Axis.TheVariants.{X, Y}
use Rattle.geom_rect.specs.declared.drawn.Shape.{Shape}
use Rattle.geom_rect.specs.declared.drawn.Shape.TheVariants.{Ring, Stripe, FollowPin}
use Rattle.def_design.specs.declared.record.Design.{Design}
use Rattle.def_design.specs.Limits.{DesignKeeps}
use Rattle.lef_tech.specs.declared.tech.Tech.{Tech}
use Rattle.lef_tech.specs.Limits.{TechKeeps}
use Rattle.via_arrays.specs.declared.parts.CutArray.{CutArray}
use Rattle.grid_pieces.specs.declared.grid.Grid.{Grid}
use Rattle.grid_pieces.specs.declared.piece.Piece.{Piece}
use Rattle.grid_pieces.specs.declared.piece.StackAt.{StackAt}
use Rattle.grid_pieces.specs.Limits.{PieceKeeps}
use Rattle.def_writer.specs.declared.via.Via.{Via}
use Rattle.def_writer.specs.Via.{via_of, via_order, with_array, vias_of, arrays_of, gap}
use Rattle.def_writer.specs.Wiring.{shape_word, use_word, pieces_of, stacks_of, point_on}
use Rattle.def_writer.specs.Limits.{PitchKeeps, ArrayFits, StackFits}
use Rattle.wiring_file.specs.Number.{limit}
use Rattle.wiring_file.specs.Written.{IsNear, IsLength, IsSome, HeadReads, ViaReads, WireReads, PlaceReads, NetReads, CanBeWritten}
use Rattle.written_wiring.specs.Wiring.{via_text, wire_text, place_text, places_at}
use Rattle.written_wiring.specs.Fits.{ArrayReads, StackReads, CanBeRead}
use Rattle.written_wiring.proofs.Names.{TechNames, layer_is, rule_is, lower_is, upper_is, cut_is, IsFew, via_is, via_not_open}
use Rattle.written_wiring.proofs.Texts.{head_text, vias_text, net_text, nets_text, nets_count}

-- ## numbers

between : (z : ℤ) (n : ℕ) → neg_ℤ (pos n) ≤ℤ z → z ≤ℤ pos n → unsigned_abs z ≤ n
between (pos m) n low high = omega (arith, ints)
between (negsuc m) n low high = omega (arith, ints)

near_coordinate : (z : ℤ) → IsCoordinate z → IsNear z
near_coordinate z h = between z limit h.0 h.1

-- The middle of two coordinates is one.
near_middle : (c h : ℤ) → IsCoordinate (c -ℤ h) → IsCoordinate (c +ℤ h) → IsNear c
near_middle c h low high =
    let a : neg_ℤ (pos limit) ≤ℤ (c -ℤ h) = low.0 in
    let b : (c -ℤ h) ≤ℤ pos limit = low.1 in
    let d : neg_ℤ (pos limit) ≤ℤ (c +ℤ h) = high.0 in
    let e : (c +ℤ h) ≤ℤ pos limit = high.1 in
    between c limit (omega (arith, ints)) (omega (arith, ints))

nearer : (z : ℤ) → unsigned_abs z ≤ 2 ^ 30 → IsNear z
nearer z h = omega arith

length_below : (z : ℤ) (n : ℕ) → pos 0 ≤ℤ z → z ≤ℤ pos n → n ≤ limit → IsLength z
length_below (pos m) n low high few = (low, omega (arith, ints))
length_below (negsuc m) n low high few = absurd (omega (arith, ints))

gap_is : (cut pitch : ℤ) → PitchKeeps cut pitch → IsLength (gap cut pitch)
gap_is cut pitch h =
    let a : pos 0 ≤ℤ cut = h.0 in
    let b : cut ≤ℤ pitch = h.1 in
    let c : pitch ≤ℤ pos (2 ^ 40) = h.2 in
    length_below (pitch -ℤ cut) (2 ^ 40) (omega (arith, ints)) (omega (arith, ints)) (omega arith)

count_is : (n : ℕ) → (0 < n) × (n ≤ limit) → IsSome (pos n)
count_is n h = let some : 0 < n = h.0 in (omega (arith, ints), h.1)

width_is : (z : ℤ) → (pos 2 ≤ℤ z) × (z <ℤ pos (2 ^ 32)) → IsSome z
width_is z h =
    let a : pos 2 ≤ℤ z = h.0 in
    let b : z <ℤ pos (2 ^ 32) = h.1 in
    let length : IsLength z = length_below z (2 ^ 32) (omega (arith, ints)) (omega (arith, ints)) (omega arith) in
    (omega (arith, ints), length.1)

differ : (a b : ℤ) → a <ℤ b → a ≡ b → ⊥
differ a b h e = omega (arith, ints)

-- ## what stands before the vias

head_reads : (design : Design) → IsName design.name → DesignKeeps design → HeadReads (head_text design)
head_reads design name h = record {
  name = name;
  some_units = h.some_units;
  units = h.units;
  x1 = nearer design.die.x1 h.die.keeps.x1;
  y1 = nearer design.die.y1 h.die.keeps.y1;
  x2 = nearer design.die.x2 h.die.keeps.x2;
  y2 = nearer design.die.y2 h.die.keeps.y2;
  wide = differ design.die.x1 design.die.x2 h.die.wide;
  high = differ design.die.y1 design.die.y2 h.die.high;
}

-- ## vias

-- An array that fits and reads.
abbrev IsGood : Tech → CutArray → Type 0
IsGood tech a = ArrayFits tech a × ArrayReads a

pub few_is : (tech : Tech) → TechKeeps tech → (a : CutArray) → IsGood tech a → IsFew (via_of a)
few_is tech keeps a h =
    let rule : a.rule < length tech.rules = h.0.rule in
    let few : length tech.rules < 2 ^ 32 = keeps.few_rules in
    let columns : a.columns ≤ limit = h.1.columns.1 in
    let rows : a.rows ≤ limit = h.1.rows.1 in
    record { rule = omega arith; columns = omega arith; rows = omega arith }

via_reads : (tech : Tech) → TechKeeps tech → TechNames tech → (a : CutArray) → IsGood tech a → ViaReads (via_text tech a)
via_reads tech keeps names a h = record {
  name = via_is (via_of a) (few_is tech keeps a h);
  rule = rule_is tech names a.rule h.0.rule;
  cut_x = h.1.cut_x;
  cut_y = h.1.cut_y;
  lower = lower_is tech names keeps.rules a.rule h.0.rule;
  cut = cut_is tech names keeps.rules a.rule h.0.rule;
  upper = upper_is tech names keeps.rules a.rule h.0.rule;
  gap_x = gap_is a.cut_x a.pitch_x h.0.in_x;
  gap_y = gap_is a.cut_y a.pitch_y h.0.in_y;
  lower_x = h.1.lower_x;
  lower_y = h.1.lower_y;
  upper_x = h.1.upper_x;
  upper_y = h.1.upper_y;
  rows = count_is a.rows h.1.rows;
  columns = count_is a.columns h.1.columns;
}

module _ (P : CutArray → Type 0) where
  abbrev Kept : List (Via × CutArray) → Type 0
  Kept vias = All P (values_of vias)

  inserted : (o : Ordering) (k : Via) (a : CutArray) (e : Via × CutArray) (es rest : List (Via × CutArray)) → P a → Kept (e ∷ es) → Kept rest
      → Kept (match_ordering o ((k, a) ∷ e ∷ es) ((e.0, a) ∷ es) (e ∷ rest))
  inserted Less k a e es rest p h r = All-cons P a (values_of (e ∷ es)) p h
  inserted Equal k a e es rest p h r = All-cons P a (values_of es) p (All-tail P e.1 (values_of es) h)
  inserted Greater k a e es rest p h r = All-cons P e.1 (values_of rest) (All-head P e.1 (values_of es) h) r

  insert_keeps : (k : Via) (a : CutArray) (es : List (Via × CutArray)) → P a → Kept es → Kept (insert_entry via_order es k a)
  insert_keeps k a [] p h = All-cons P a [] p (All-nil P)
  insert_keeps k a (e ∷ es) p h = inserted (via_order k e.0) k a e es (insert_entry via_order es k a) p h (insert_keeps k a es p (All-tail P e.1 (values_of es) h))

  fold_keeps : (arrays : List CutArray) (es : List (Via × CutArray)) → All P arrays → Kept es → Kept (fold with_array es arrays)
  fold_keeps [] es all h = h
  fold_keeps (a ∷ arrays) es all h = fold_keeps arrays (with_array es a) (All-tail P a arrays all) (insert_keeps (via_of a) a es (All-head P a arrays all) h)

  -- What all arrays have, all vias have.
  pub vias_keep : (arrays : List CutArray) → All P arrays → All P (vias_of arrays)
  vias_keep arrays all = fold_keeps arrays [] all (All-nil P)

pub all_flat : {X Y : Type 0} (P : Y → Type 0) (f : X → List Y) (xs : List X) → All (λ x. All P (f x)) xs → All P (flat_map f xs)
all_flat P f [] h = All-nil P
all_flat {X} P f (x ∷ xs) h =
    let Q : X → Type 0 = λ x. All P (f x) in
    All-append P (f x) (flat_map f xs) (All-head Q x xs h) (all_flat P f xs (All-tail Q x xs h))

-- Each array of each stack fits and reads.
good_stack : (tech : Tech) (at : StackAt) → StackFits tech at → StackReads at → All (IsGood tech) at.stack.arrays
good_stack tech at fits reads = λ k d lt. (fits.arrays k d lt, reads.arrays k d lt)

good_arrays : (tech : Tech) (stacks : List StackAt) → All (StackFits tech) stacks → All StackReads stacks → All (IsGood tech) (arrays_of stacks)
good_arrays tech stacks fits reads =
    all_flat (IsGood tech) (λ (at : StackAt). at.stack.arrays) stacks (λ k d lt. good_stack tech (slice_index_or stacks k d) (fits k d lt) (reads k d lt))

vias_read : (tech : Tech) → TechKeeps tech → TechNames tech → (stacks : List StackAt) → All (StackFits tech) stacks → All StackReads stacks →
    All ViaReads (map (via_text tech) (vias_of (arrays_of stacks)))
vias_read tech keeps names stacks fits reads =
    let good : All (IsGood tech) (vias_of (arrays_of stacks)) = vias_keep (IsGood tech) (arrays_of stacks) (good_arrays tech stacks fits reads) in
    All-map ViaReads (via_text tech) (vias_of (arrays_of stacks)) (λ k d lt. via_reads tech keeps names (slice_index_or (vias_of (arrays_of stacks)) k d) (good k d lt))

-- ## pieces

shape_is : (shape : Shape) → (shape_word shape ≡ codes "RING") ⊎ ((shape_word shape ≡ codes "STRIPE") ⊎ (shape_word shape ≡ codes "FOLLOWPIN"))
shape_is Ring = inl refl
shape_is Stripe = inr (inl refl)
shape_is FollowPin = inr (inr refl)

-- The ends of a piece's centre line lie at coordinates.
record IsPlaced (axis : Axis) (from to centre : ℤ) : Type 0 where
  pub x1 : IsNear (point_on axis from centre).0
  pub y1 : IsNear (point_on axis from centre).1
  pub x2 : IsNear (point_on axis to centre).0
  pub y2 : IsNear (point_on axis to centre).1

placed_on : (axis : Axis) (from to centre : ℤ) → IsNear from → IsNear to → IsNear centre → IsPlaced axis from to centre
placed_on X from to centre f t c = record { x1 = f; y1 = c; x2 = t; y2 = c }
placed_on Y from to centre f t c = record { x1 = c; y1 = f; x2 = c; y2 = t }

placed_by : (axis : Axis) (from to centre width : ℤ) → HasCoordinates (centred axis centre width from to) → IsPlaced axis from to centre
placed_by X from to centre width h =
    placed_on X from to centre (near_coordinate from h.0) (near_coordinate to h.2) (near_middle centre (half width) h.1 h.3)
placed_by Y from to centre width h =
    placed_on Y from to centre (near_coordinate from h.1) (near_coordinate to h.3) (near_middle centre (half width) h.0 h.2)

wire_reads : (tech : Tech) → TechNames tech → (name : List ℕ) (p : Piece) → PieceKeeps p → p.layer < length tech.routing → WireReads name (wire_text tech name p)
wire_reads tech names name p keeps within =
    let placed : IsPlaced p.axis p.from p.to p.centre = placed_by p.axis p.from p.to p.centre p.width keeps.2 in
    record {
      net = refl;
      layer = layer_is tech names p.layer within;
      width = width_is p.width keeps.0;
      shape = shape_is p.shape;
      x1 = placed.x1;
      y1 = placed.y1;
      x2 = placed.x2;
      y2 = placed.y2;
    }

-- ## arrays of stacks

place_reads : (tech : Tech) → TechKeeps tech → TechNames tech → (name : List ℕ) (x y : ℤ) → IsNear x → IsNear y → (layer : ℕ) → layer < length tech.routing → (a : CutArray) → IsGood tech a →
    PlaceReads name (place_text tech name (x, y) (layer, a))
place_reads tech keeps names name x y near_x near_y layer within a good = record {
  net = refl;
  layer = layer_is tech names layer within;
  x = near_x;
  y = near_y;
  via = via_is (via_of a) (few_is tech keeps a good);
  not_open = via_not_open (via_of a);
}

arrays_read : (tech : Tech) → TechKeeps tech → TechNames tech → (name : List ℕ) (x y : ℤ) → IsNear x → IsNear y → (arrays : List CutArray) (from : ℕ) →
    All (IsGood tech) arrays → from + length arrays ≤ length tech.routing → All (PlaceReads name) (map (place_text tech name (x, y)) (enumerate_from from arrays))
arrays_read tech keeps names name x y near_x near_y [] from good within = All-nil (PlaceReads name)
arrays_read tech keeps names name x y near_x near_y (a ∷ arrays) from good within =
    All-cons (PlaceReads name) (place_text tech name (x, y) (from, a)) (map (place_text tech name (x, y)) (enumerate_from (from + 1) arrays))
    (place_reads tech keeps names name x y near_x near_y from (omega arith) a (All-head (IsGood tech) a arrays good))
    (arrays_read tech keeps names name x y near_x near_y arrays (from + 1) (All-tail (IsGood tech) a arrays good) (omega arith))

stack_reads : (tech : Tech) → TechKeeps tech → TechNames tech → (name : List ℕ) (at : StackAt) → StackFits tech at → StackReads at → All (PlaceReads name) (places_at tech name at)
stack_reads tech keeps names name at fits reads =
    arrays_read tech keeps names name at.x at.y reads.x reads.y at.stack.arrays at.stack.from (good_stack tech at fits reads) fits.layers

-- ## nets

use_is : (power : Bool) → (use_word power ≡ codes "POWER") ⊎ (use_word power ≡ codes "GROUND")
use_is true = inl refl
use_is false = inr refl

-- What is known of a grid.
record IsKnown (tech : Tech) (grid : Grid) : Type 0 where
  pub keeps : TechKeeps tech
  pub names : TechNames tech
  pub layers : All (λ (p : Piece). p.layer < length tech.routing) grid.pieces
  pub fits : All (StackFits tech) grid.stacks
  pub pieces : All PieceKeeps grid.pieces
  pub stacks : All StackReads grid.stacks

net_reads : (tech : Tech) (grid : Grid) → IsKnown tech grid → (net : ℕ) (name : List ℕ) → IsName name → NetReads (net_text tech grid (net, name))
net_reads tech grid known net name is =
    let W : Piece → Type 0 = λ p. WireReads name (wire_text tech name p) in
    let S : StackAt → Type 0 = λ at. All (PlaceReads name) (places_at tech name at) in
    let wires : All W grid.pieces = λ k d lt. wire_reads tech known.names name (slice_index_or grid.pieces k d) (known.pieces k d lt) (known.layers k d lt) in
    let stacks : All S grid.stacks = λ k d lt. stack_reads tech known.keeps known.names name (slice_index_or grid.stacks k d) (known.fits k d lt) (known.stacks k d lt) in
    record {
      name = is;
      supply = use_is (slice_index_or grid.power net false);
      wires = All-map (WireReads name) (wire_text tech name) (pieces_of grid.pieces net) (All-filter (λ (p : Piece). p.net == net) W grid.pieces wires);
      places = all_flat (PlaceReads name) (places_at tech name) (stacks_of grid.stacks net) (All-filter (λ (at : StackAt). at.net == net) S grid.stacks stacks);
    }

nets_read : (tech : Tech) (grid : Grid) → IsKnown tech grid → (nets : List (List ℕ)) (from : ℕ) → All IsName nets → All NetReads (map (net_text tech grid) (enumerate_from from nets))
nets_read tech grid known [] from h = All-nil NetReads
nets_read tech grid known (name ∷ nets) from h =
    All-cons NetReads (net_text tech grid (from, name)) (map (net_text tech grid) (enumerate_from (from + 1) nets))
    (net_reads tech grid known from name (All-head IsName name nets h)) (nets_read tech grid known nets (from + 1) (All-tail IsName name nets h))

-- ## all of it

pub can_be_written : (design : Design) (tech : Tech) (grid : Grid) → CanBeRead design tech grid → CanBeWritten (head_text design) (vias_text tech grid) (nets_text tech grid)
can_be_written design tech grid h =
    let names : TechNames tech = record { routing = h.words.routing_names; cuts = h.words.cut_names; rules = h.words.rule_names } in
    let known : IsKnown tech grid = record {
      keeps = h.tech_keeps;
      names = names;
      layers = h.grid_fits.layers;
      fits = h.grid_fits.arrays;
      pieces = h.pieces;
      stacks = h.stacks;
    } in
    let few_nets : length grid.nets ≤ limit = h.few_nets in
    let few_vias : length (vias_of (arrays_of grid.stacks)) ≤ limit = h.few_vias in
    record {
      head_reads = head_reads design h.words.design_name h.design_keeps;
      vias_read = vias_read tech h.tech_keeps names grid.stacks h.grid_fits.arrays h.stacks;
      nets_read = nets_read tech grid known grid.nets 0 h.words.net_names;
      few_vias = omega (arith, length-map (vias_of (arrays_of grid.stacks)) (via_text tech));
      few_nets = omega (arith, nets_count tech grid);
    }
