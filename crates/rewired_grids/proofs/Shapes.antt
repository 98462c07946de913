-- A piece that is drawn again as a segment.
use Rattle.std.proofs.Common.{◌≡◌, ℕ, ◌<◌, ◌==◌, ℤ, pos, ◌+ℤ◌, ◌-ℤ◌, ◌<ℤ◌, ◌≤ℤ◌, true, false, cond, All, List, [], ◌∷◌, length, map, refl, sym, ◌∙◌, ap, arith}
use Rattle.std.specs.Prelude.{int_lt}
use Rattle.std.specs.Ordering.{int_eq, is_eq}
use Rattle.std.specs.declared.cmp.Ordering.TheVariants.{Less, Equal, Greater}
use Rattle.std.proofs.lemmas.Cmp.{int_cmp_total, tied_itself}
use Rattle.std.proofs.lemmas.Int.{ints}
use Rattle.std.proofs.lemmas.List.Elements.{All-head, All-tail}
use Rattle.geom_rect.specs.declared.direction.Axis.{Axis}
use Rattle.geom_rect.specs.declared.direction.Axis.TheVariants.{X, Y}
use Rattle.geom_rect.specs.declared.drawn.Shape.{Shape}
use Rattle.geom_rect.specs.declared.drawn.Shape.TheVariants.{Ring, Stripe, FollowPin}
use Rattle.lef_tech.specs.declared.tech.Tech.{Tech}
use Rattle.def_wiring.specs.declared.record.Segment.{Segment}
use Rattle.grid_pieces.specs.declared.grid.Grid.{Grid}
use Rattle.grid_pieces.specs.declared.piece.Piece.{Piece}
use Rattle.written_wiring.specs.Wires.{shape_read, segment_of, wires_of}
use Rattle.wire_names.specs.Names.{Names, names_of, place_in}
use Rattle.wire_names.specs.Wiring.{low_end, high_end, along_x, along_y, shape_of as wire_shape}
use Rattle.redrawn_pieces.specs.Redrawn.{shape_of}
use Rattle.wired_again.specs.Again.{HasOwnNames, PieceIs}
use Rattle.rewired_grids.proofs.Found.{layer_found}

lt_true : (a b : ℤ) → a <ℤ b → int_lt a b ≡ true
lt_true a b h = grind (arith, ints)

lt_false : (a b : ℤ) → b ≤ℤ a → int_lt a b ≡ false
lt_false a b h = grind (arith, ints)

eq_itself : (z : ℤ) → int_eq z z ≡ true
eq_itself z = ap is_eq (tied_itself int_cmp_total z)

eq_below : (a b : ℤ) → a <ℤ b → int_eq a b ≡ false
eq_below a b h = ap (λ c. is_eq (cond c Less (cond (int_lt b a) Greater Equal))) (lt_true a b h)

none_less : (z : ℤ) → z -ℤ pos 0 ≡ z
none_less z = omega (arith, ints)

none_more : (z : ℤ) → z +ℤ pos 0 ≡ z
none_more z = omega (arith, ints)

low_is : (from to : ℤ) → from <ℤ to → low_end from (pos 0) to (pos 0) ≡ from
low_is from to h = ap (λ c. cond c (to -ℤ pos 0) (from -ℤ pos 0)) (lt_false to from (omega (arith, ints, h))) ∙ none_less from

high_is : (from to : ℤ) → from <ℤ to → high_end from (pos 0) to (pos 0) ≡ to
high_is from to h = ap (λ c. cond c (from +ℤ pos 0) (to +ℤ pos 0)) (lt_false to from (omega (arith, ints, h))) ∙ none_more to

shape_stays : (axis : Axis) (shape : Shape) → (shape ≡ FollowPin → axis ≡ X) → shape_read axis shape ≡ shape
shape_stays X shape rail = refl
shape_stays Y Ring rail = refl
shape_stays Y Stripe rail = refl
shape_stays Y FollowPin rail = absurd (let e : Y ≡ X = rail refl in cc)

pub same_number : (m n : ℕ) → (m == n) ≡ true → m ≡ n
same_number m n e = grind (arith, e)

module _ (tech : Tech) (grid : Grid) (own : HasOwnNames tech) where
  abbrev names : Names
  names = names_of tech (wires_of tech grid)

  -- The line of the numbers of a piece.
  drawn_on : (net layer : ℕ) (axis : Axis) (centre width from to : ℤ) (shape : Shape) → layer < length tech.routing → from <ℤ to → (shape ≡ FollowPin → axis ≡ X)
      → wire_shape names net (segment_of tech (record { net = net; layer = layer; axis = axis; centre = centre; width = width; from = from; to = to; shape = shape }))
      ≡ record { net = net; layer = layer; axis = axis; centre = centre; width = width; from = from; to = to; shape = shape }
  drawn_on net layer X centre width from to shape within rising rail =
      let piece : Piece = record { net = net; layer = layer; axis = X; centre = centre; width = width; from = from; to = to; shape = shape } in
      let s : Segment = segment_of tech piece in
      let place = place_in names.layers s.layer in
      let at = layer_found tech own layer within in
      let low = low_is from to rising in
      let high = high_is from to rising in
      let stays = shape_stays X shape rail in
      ap (λ c. cond c (along_x net place s) (along_y net place s)) (eq_itself centre)
      ∙ (λ i. record { net = net; layer = at i; axis = X; centre = centre; width = width; from = low i; to = high i; shape = stays i })
  drawn_on net layer Y centre width from to shape within rising rail =
      let piece : Piece = record { net = net; layer = layer; axis = Y; centre = centre; width = width; from = from; to = to; shape = shape } in
      let s : Segment = segment_of tech piece in
      let place = place_in names.layers s.layer in
      let at = layer_found tech own layer within in
      let low = low_is from to rising in
      let high = high_is from to rising in
      let stays = shape_stays Y shape rail in
      ap (λ c. cond c (along_x net place s) (along_y net place s)) (eq_below from to rising)
      ∙ (λ i. record { net = net; layer = at i; axis = Y; centre = centre; width = width; from = low i; to = high i; shape = stays i })

  -- The segment of a piece has the shape of the piece.
  drawn_again : (net : ℕ) (piece : Piece) → PieceIs tech piece → piece.from <ℤ piece.to → piece.net ≡ net → wire_shape names net (segment_of tech piece) ≡ shape_of piece
  drawn_again net piece is rising of_net =
      drawn_on net piece.layer piece.axis piece.centre piece.width piece.from piece.to piece.shape is.layer rising is.rail
      ∙ (λ i. record {
        net = sym of_net i;
        layer = piece.layer;
        axis = piece.axis;
        centre = piece.centre;
        width = piece.width;
        from = piece.from;
        to = piece.to;
        shape = piece.shape;
      })

  -- So the segments of pieces of one net have the shapes of the pieces.
  pub all_drawn : (net : ℕ) (pieces : List Piece) → All (λ (p : Piece). PieceIs tech p × (p.from <ℤ p.to)) pieces → All (λ (p : Piece). (p.net == net) ≡ true) pieces
      → map (wire_shape names net) (map (segment_of tech) pieces) ≡ map shape_of pieces
  all_drawn net [] are of_net = refl
  all_drawn net (p ∷ pieces) are of_net =
      let P : Piece → Type 0 = λ p. PieceIs tech p × (p.from <ℤ p.to) in
      let Q : Piece → Type 0 = λ p. (p.net == net) ≡ true in
      let here = All-head P p pieces are in
      let first = drawn_again net p here.0 here.1 (same_number p.net net (All-head Q p pieces of_net)) in
      let rest = all_drawn net pieces (All-tail P p pieces are) (All-tail Q p pieces of_net) in
      λ i. first i ∷ rest i
