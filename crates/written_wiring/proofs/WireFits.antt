-- What is written of a grid may be read by any reader of wiring.
use Rattle.std.proofs.Common.{◌≡◌, ℕ, ◌+◌, ◌-◌, ◌^◌, ◌<◌, ◌≤◌, ◌==◌, ℤ, pos, List, [], ◌∷◌, ◌++◌, length, map, refl, ap, subst, arith, inl, inr, length-append}
use Rattle.std.specs.Prelude.{All, Contains, ◌⊎◌, flat_map, slice_index_or, negsuc, ◌≤ℤ◌, ◌-ℤ◌}
use Rattle.std.specs.List.{enumerate_from}
use Rattle.std.proofs.lemmas.Int.{ints}
use Rattle.std.proofs.lemmas.List.{length-map, get_or_append_left, get_or-append-add}
use Rattle.std.proofs.lemmas.List.Elements.{All-nil, All-cons, All-head, All-tail, All-map, All-filter}
use Rattle.name_table.specs.Numbering.{AreDistinct}
use Rattle.geom_rect.specs.declared.direction.Axis.{Axis}
use Rattle.geom_rect.specs.declared.direction.Axis.TheVariants.{X, Y}
use Rattle.def_design.specs.declared.record.Design.{Design}
use Rattle.lef_tech.specs.declared.tech.Tech.{Tech}
use Rattle.via_arrays.specs.declared.parts.CutArray.{CutArray}
use Rattle.grid_pieces.specs.declared.grid.Grid.{Grid}
use Rattle.grid_pieces.specs.declared.piece.Piece.{Piece}
use Rattle.grid_pieces.specs.declared.piece.StackAt.{StackAt}
use Rattle.grid_pieces.specs.Limits.{PieceKeeps}
use Rattle.def_writer.specs.Limits.{PitchKeeps, ArrayFits, StackFits}
use Rattle.def_writer.specs.Via.{via_of, via_name, vias_of, arrays_of, gap}
use Rattle.def_writer.specs.Wiring.{pieces_of, stacks_of, point_on}
use Rattle.def_wiring.specs.Limits.{IsNear, IsLength, IsPositive}
use Rattle.def_wiring.specs.WrittenFits.{ViaFits, WireFits, PlaceIsPlain, PlaceFits, NetIsPlain, NetFits, CanBeWired}
use Rattle.def_wiring.specs.WrittenFits as texts
use Rattle.written_wiring.specs.Wiring.{via_text, wire_text, place_text, places_at}
use Rattle.written_wiring.specs.Fits.{ArrayReads, StackReads, CanBeRead}
use Rattle.written_wiring.specs.WiresFit.{PieceIsNear, ArrayIsNear, StackIsNear, WiresFit}
use Rattle.written_wiring.proofs.Names.{IsFew}
use Rattle.written_wiring.proofs.Texts.{head_text, vias_text, net_text, nets_text, nets_count}
use Rattle.written_wiring.proofs.Fitting.{few_is, vias_keep, all_flat, can_be_written}
use Rattle.written_wiring.proofs.ViaNames.{all_named, vias_apart}

-- ## vias

-- An array that fits, reads and is near.
abbrev IsGood : Tech → CutArray → Type 0
IsGood tech a = (ArrayFits tech a × ArrayReads a) × ArrayIsNear a

length_below : (z : ℤ) → pos 0 ≤ℤ z → z ≤ℤ pos (2 ^ 30) → IsLength z
length_below (pos m) low high = (low, omega (arith, ints))
length_below (negsuc m) low high = absurd (omega (arith, ints))

near_above : (z : ℤ) → IsNear z → z ≤ℤ pos (2 ^ 30)
near_above (pos m) h = omega (arith, ints)
near_above (negsuc m) h = omega (arith, ints)

gap_is : (cut pitch : ℤ) → PitchKeeps cut pitch → IsNear pitch → IsLength (gap cut pitch)
gap_is cut pitch h near =
    let a : pos 0 ≤ℤ cut = h.0 in
    let b : cut ≤ℤ pitch = h.1 in
    let c : pitch ≤ℤ pos (2 ^ 30) = near_above pitch near in
    length_below (pitch -ℤ cut) (omega (arith, ints)) (omega (arith, ints))

count_is : (n : ℕ) → 0 < n → n ≤ 2 ^ 30 → IsPositive (pos n)
count_is n some few = (omega (arith, ints), few)

via_fits : (tech : Tech) (a : CutArray) → IsGood tech a → ViaFits (via_text tech a)
via_fits tech a h =
    let fits = h.0.0 in
    let reads = h.0.1 in
    let near = h.1 in
    record {
      cut_x = (reads.cut_x.0, near.cut_x);
      cut_y = (reads.cut_y.0, near.cut_y);
      gap_x = gap_is a.cut_x a.pitch_x fits.in_x near.pitch_x;
      gap_y = gap_is a.cut_y a.pitch_y fits.in_y near.pitch_y;
      lower_x = (reads.lower_x.0, near.lower_x);
      lower_y = (reads.lower_y.0, near.lower_y);
      upper_x = (reads.upper_x.0, near.upper_x);
      upper_y = (reads.upper_y.0, near.upper_y);
      rows = count_is a.rows reads.rows.0 near.rows;
      columns = count_is a.columns reads.columns.0 near.columns;
    }

-- What all arrays of stacks have, all arrays have, and the other way round.
good_arrays : (tech : Tech) (stacks : List StackAt) → All (StackFits tech) stacks → All StackReads stacks → All StackIsNear stacks → All (IsGood tech) (arrays_of stacks)
good_arrays tech stacks fits reads near =
    all_flat (IsGood tech) (λ (at : StackAt). at.stack.arrays) stacks
    (λ k d lt i e within. (((fits k d lt).arrays i e within, (reads k d lt).arrays i e within), (near k d lt).arrays i e within))

all_left : {X : Type 0} (P : X → Type 0) (xs ys : List X) → All P (xs ++ ys) → All P xs
all_left P xs ys h = λ k d lt. let sizes = length-append xs ys in subst P (get_or_append_left xs ys d k lt) (h k d (omega arith))

all_right : {X : Type 0} (P : X → Type 0) (xs ys : List X) → All P (xs ++ ys) → All P ys
all_right P xs ys h = λ k d lt. let sizes = length-append xs ys in subst P (get_or-append-add xs ys k d) (h (length xs + k) d (omega arith))

flat_all : {X Y : Type 0} (P : Y → Type 0) (f : X → List Y) (xs : List X) → All P (flat_map f xs) → All (λ x. All P (f x)) xs
flat_all {X} P f [] h = All-nil (λ (x : X). All P (f x))
flat_all {X} P f (x ∷ xs) h =
    All-cons (λ (z : X). All P (f z)) x xs (all_left P (f x) (flat_map f xs) h) (flat_all P f xs (all_right P (f x) (flat_map f xs) h))

-- ## names

abbrev names_of : List CutArray → List (List ℕ)
names_of arrays = map (λ (a : CutArray). via_name (via_of a)) arrays

names_are : (tech : Tech) (arrays : List CutArray) → names_of arrays ≡ map texts.via_name (map (via_text tech) arrays)
names_are tech [] = refl
names_are tech (a ∷ arrays) = ap (λ z. via_name (via_of a) ∷ z) (names_are tech arrays)

net_names_are : (tech : Tech) (grid : Grid) (names : List (List ℕ)) (from : ℕ) → names ≡ map texts.net_name (map (net_text tech grid) (enumerate_from from names))
net_names_are tech grid [] from = refl
net_names_are tech grid (name ∷ names) from = ap (λ z. name ∷ z) (net_names_are tech grid names (from + 1))

-- ## pieces and stacks

straight_is : (axis : Axis) (from to centre : ℤ) → ((point_on axis from centre).0 ≡ (point_on axis to centre).0) ⊎ ((point_on axis from centre).1 ≡ (point_on axis to centre).1)
straight_is X from to centre = inr refl
straight_is Y from to centre = inl refl

-- The ends of a piece are near.
record AreNear (axis : Axis) (from to centre : ℤ) : Type 0 where
  pub x1 : IsNear (point_on axis from centre).0
  pub y1 : IsNear (point_on axis from centre).1
  pub x2 : IsNear (point_on axis to centre).0
  pub y2 : IsNear (point_on axis to centre).1

near_on : (axis : Axis) (from to centre : ℤ) → IsNear from → IsNear to → IsNear centre → AreNear axis from to centre
near_on X from to centre f t c = record { x1 = f; y1 = c; x2 = t; y2 = c }
near_on Y from to centre f t c = record { x1 = c; y1 = f; x2 = c; y2 = t }

wire_fits : (tech : Tech) (name : List ℕ) (p : Piece) → PieceKeeps p → PieceIsNear p → WireFits (wire_text tech name p)
wire_fits tech name p keeps near =
    let ends : AreNear p.axis p.from p.to p.centre = near_on p.axis p.from p.to p.centre near.from near.to near.centre in
    let low : pos 2 ≤ℤ p.width = keeps.0.0 in
    record {
      width = (omega (arith, ints), near.width);
      x1 = ends.x1;
      y1 = ends.y1;
      x2 = ends.x2;
      y2 = ends.y2;
      straight = straight_is p.axis p.from p.to p.centre;
    }

arrays_fit : (tech : Tech) (names : List (List ℕ)) (name : List ℕ) (x y : ℤ) → IsNear x → IsNear y → (arrays : List CutArray) (from : ℕ) →
    All (λ (a : CutArray). Contains names (via_name (via_of a))) arrays → All (PlaceFits names) (map (place_text tech name (x, y)) (enumerate_from from arrays))
arrays_fit tech names name x y near_x near_y [] from h = All-nil (PlaceFits names)
arrays_fit tech names name x y near_x near_y (a ∷ arrays) from h =
    let P : CutArray → Type 0 = λ a. Contains names (via_name (via_of a)) in
    All-cons (PlaceFits names) (place_text tech name (x, y) (from, a)) (map (place_text tech name (x, y)) (enumerate_from (from + 1) arrays))
    (record { x = near_x; y = near_y; known = All-head P a arrays h; no_keyword = refl }) (arrays_fit tech names name x y near_x near_y arrays (from + 1) (All-tail P a arrays h))

-- ## nets

-- What is known of a grid.
record IsKnown (names : List (List ℕ)) (grid : Grid) : Type 0 where
  pub pieces : All PieceKeeps grid.pieces
  pub near : All PieceIsNear grid.pieces
  pub stacks : All StackIsNear grid.stacks
  pub arrays : All (λ (at : StackAt). All (λ (a : CutArray). Contains names (via_name (via_of a))) at.stack.arrays) grid.stacks

net_fits : (tech : Tech) (grid : Grid) (names : List (List ℕ)) → IsKnown names grid → (net : ℕ) (name : List ℕ) → NetFits names (net_text tech grid (net, name))
net_fits tech grid names known net name =
    let W : Piece → Type 0 = λ p. WireFits (wire_text tech name p) in
    let S : StackAt → Type 0 = λ at. All (PlaceFits names) (places_at tech name at) in
    let wires : All W grid.pieces = λ k d lt. wire_fits tech name (slice_index_or grid.pieces k d) (known.pieces k d lt) (known.near k d lt) in
    let stacks : All S grid.stacks = λ k d lt.
    let at : StackAt = slice_index_or grid.stacks k d in
    let near : StackIsNear at = known.stacks k d lt in
    arrays_fit tech names name at.x at.y near.x near.y at.stack.arrays at.stack.from (known.arrays k d lt) in
    record {
      wires = All-map WireFits (wire_text tech name) (pieces_of grid.pieces net) (All-filter (λ (p : Piece). p.net == net) W grid.pieces wires);
      places = all_flat (PlaceFits names) (places_at tech name) (stacks_of grid.stacks net) (All-filter (λ (at : StackAt). at.net == net) S grid.stacks stacks);
    }

nets_fit : (tech : Tech) (grid : Grid) (vias : List (List ℕ)) → IsKnown vias grid → (nets : List (List ℕ)) (from : ℕ) → All (NetFits vias) (map (net_text tech grid) (enumerate_from from nets))
nets_fit tech grid vias known [] from = All-nil (NetFits vias)
nets_fit tech grid vias known (name ∷ nets) from =
    All-cons (NetFits vias) (net_text tech grid (from, name)) (map (net_text tech grid) (enumerate_from (from + 1) nets))
    (net_fits tech grid vias known from name) (nets_fit tech grid vias known nets (from + 1))

-- ## names of vias are no keywords

arrays_plain : (tech : Tech) (name : List ℕ) (x y : ℤ) (arrays : List CutArray) (from : ℕ) → All PlaceIsPlain (map (place_text tech name (x, y)) (enumerate_from from arrays))
arrays_plain tech name x y [] from = All-nil PlaceIsPlain
arrays_plain tech name x y (a ∷ arrays) from =
    All-cons PlaceIsPlain (place_text tech name (x, y) (from, a)) (map (place_text tech name (x, y)) (enumerate_from (from + 1) arrays)) refl
    (arrays_plain tech name x y arrays (from + 1))

stacks_plain : (tech : Tech) (name : List ℕ) (stacks : List StackAt) → All PlaceIsPlain (flat_map (places_at tech name) stacks)
stacks_plain tech name stacks =
    all_flat PlaceIsPlain (places_at tech name) stacks
    (λ k d lt. let at : StackAt = slice_index_or stacks k d in arrays_plain tech name at.x at.y at.stack.arrays at.stack.from)

nets_plain : (tech : Tech) (grid : Grid) (nets : List (List ℕ)) (from : ℕ) → All NetIsPlain (map (net_text tech grid) (enumerate_from from nets))
nets_plain tech grid [] from = All-nil NetIsPlain
nets_plain tech grid (name ∷ nets) from =
    All-cons NetIsPlain (net_text tech grid (from, name)) (map (net_text tech grid) (enumerate_from (from + 1) nets)) (stacks_plain tech name (stacks_of grid.stacks from))
    (nets_plain tech grid nets (from + 1))

pub texts_plain : (tech : Tech) (grid : Grid) → All NetIsPlain (nets_text tech grid)
texts_plain tech grid = nets_plain tech grid grid.nets 0

-- ## all of it

pub can_be_wired : (design : Design) (tech : Tech) (grid : Grid) → CanBeRead design tech grid → WiresFit grid → CanBeWired (head_text design) (vias_text tech grid) (nets_text tech grid)
can_be_wired design tech grid can fit =
    let arrays : List CutArray = arrays_of grid.stacks in
    let vias : List CutArray = vias_of arrays in
    let names : List (List ℕ) = map texts.via_name (vias_text tech grid) in
    let same : names_of vias ≡ names = names_are tech vias in
    let good : All (IsGood tech) arrays = good_arrays tech grid.stacks can.grid_fits.arrays can.stacks fit.stacks in
    let good_vias : All (IsGood tech) vias = vias_keep (IsGood tech) arrays good in
    let few : All (λ (a : CutArray). IsFew (via_of a)) vias = λ k d lt. few_is tech can.tech_keeps (slice_index_or vias k d) (good_vias k d lt).0 in
    let named : All (λ (a : CutArray). Contains names (via_name (via_of a))) arrays =
    subst (λ (z : List (List ℕ)). All (λ (a : CutArray). Contains z (via_name (via_of a))) arrays) same (all_named arrays) in
    let known : IsKnown names grid = record {
      pieces = can.pieces;
      near = fit.pieces;
      stacks = fit.stacks;
      arrays = flat_all (λ (a : CutArray). Contains names (via_name (via_of a))) (λ (at : StackAt). at.stack.arrays) grid.stacks named;
    } in
    let few_vias : length vias ≤ 2 ^ 30 = fit.few_vias in
    let few_nets : length grid.nets ≤ 2 ^ 30 = fit.few_nets in
    record {
      written = can_be_written design tech grid can;
      vias_fit = All-map ViaFits (via_text tech) vias (λ k d lt. via_fits tech (slice_index_or vias k d) (good_vias k d lt));
      nets_fit = nets_fit tech grid names known grid.nets 0;
      via_names = subst AreDistinct same (vias_apart arrays few);
      net_names = subst AreDistinct (net_names_are tech grid grid.nets 0) fit.net_names;
      few_vias = omega (arith, length-map vias (via_text tech));
      few_nets = omega (arith, nets_count tech grid);
    }
