-- A stack has an end on a piece exactly where the network has a junction of the piece at the end of a stack.
use Rattle.std.proofs.Common.{◌≡◌, ◌↔◌, ◌⊎◌, inl, inr, IsTrue, ℕ, ℤ, ◌≤ℤ◌, true, ◌&&◌, ◌==◌, int_le, List, refl, sym, ap, ◌∙◌, eq-eqb, arith}
use Rattle.std.proofs.lemmas.Bool.{and_parts, and_from, or_cases, or_left, or_right, eqb-true}
use Rattle.std.proofs.lemmas.Int.{ints}
use Rattle.std.proofs.lemmas.List.Folds.{Any-from_list_any, list_any-from_Any}
use Rattle.geom_rect.specs.declared.direction.Axis.{Axis}
use Rattle.geom_rect.specs.declared.direction.Axis.TheVariants.{X, Y}
use Rattle.grid_network.specs.Drawing.{key_along, key_on, key_of_stack, HasStackEnd}
use Rattle.grid_network.specs.declared.key.Key.{Key}
use Rattle.grid_pieces.specs.declared.piece.Piece.{Piece}
use Rattle.grid_pieces.specs.declared.piece.StackAt.{StackAt}
use Rattle.rect_index.specs.Entry.{share, touches}
use Rattle.pin_taps.specs.Fed.{line_along, centre_line, point, ends_on_layer, ends_on, has_stack_end}

-- A line has the point of a stack so far along it.
abbrev IsAlong : Axis → ℤ → ℤ → ℤ → ℤ → ℤ → ℤ → Type 0
IsAlong axis centre from to x y along =
    (from ≤ℤ along) × (along ≤ℤ to) × ((net layer : ℕ) → key_along axis net layer centre along ≡ record { net = net; layer = layer; x = x; y = y })

le_of : (a b : ℤ) → int_le a b ≡ true → a ≤ℤ b
le_of a b h = omega (arith, ints)

le_true : (a b : ℤ) → a ≤ℤ b → int_le a b ≡ true
le_true a b h = sym (omega (arith, ints))

along_line : (axis : Axis) (centre from to x y : ℤ) → touches (line_along axis centre from to) (point x y) ≡ true → (along : ℤ) × IsAlong axis centre from to x y along
along_line X centre from to x y h =
    let both = and_parts (share from to x x) (share centre centre y y) h in
    let on = and_parts (int_le x to) (int_le from x) both.0 in
    let off = and_parts (int_le y centre) (int_le centre y) both.1 in
    let low = le_of y centre off.0 in
    let high = le_of centre y off.1 in
    let is : centre ≡ y = omega (arith, ints) in
    (x, (le_of from x on.1, le_of x to on.0, λ net layer i. record { net = net; layer = layer; x = x; y = is i }))
along_line Y centre from to x y h =
    let both = and_parts (share centre centre x x) (share from to y y) h in
    let on = and_parts (int_le y to) (int_le from y) both.1 in
    let off = and_parts (int_le x centre) (int_le centre x) both.0 in
    let low = le_of x centre off.0 in
    let high = le_of centre x off.1 in
    let is : centre ≡ x = omega (arith, ints) in
    (y, (le_of from y on.1, le_of y to on.0, λ net layer i. record { net = net; layer = layer; x = is i; y = y }))

touching : (low high z : ℤ) → low ≤ℤ z → z ≤ℤ high → share low high z z ≡ true
touching low high z l h = and_from (int_le z high) (int_le low z) (le_true z high h) (le_true low z l)

on_line : (axis : Axis) (net layer layer' net' : ℕ) (centre from to x y along : ℤ) → from ≤ℤ along → along ≤ℤ to
    → key_along axis net layer centre along ≡ record { net = net'; layer = layer'; x = x; y = y } → touches (line_along axis centre from to) (point x y) ≡ true
on_line X net layer layer' net' centre from to x y along low high is =
    let along_is : along ≡ x = ap (λ (k : Key). k.x) is in
    let across : centre ≡ y = ap (λ (k : Key). k.y) is in
    and_from (share from to x x) (share centre centre y y) (touching from to x (omega (arith, ints)) (omega (arith, ints)))
    (touching centre centre y (omega (arith, ints)) (omega (arith, ints)))
on_line Y net layer layer' net' centre from to x y along low high is =
    let along_is : along ≡ y = ap (λ (k : Key). k.y) is in
    let across : centre ≡ x = ap (λ (k : Key). k.x) is in
    and_from (share centre centre x x) (share from to y y) (touching centre centre x (omega (arith, ints)) (omega (arith, ints)))
    (touching from to y (omega (arith, ints)) (omega (arith, ints)))

abbrev EndsAt : Piece → StackAt → ℤ → Type 0
EndsAt piece s along = (key_on piece along ≡ key_of_stack s s.stack.from) ⊎ (key_on piece along ≡ key_of_stack s s.stack.to)

at_end : (axis : Axis) (centre from to : ℤ) (net layer s_net s_layer : ℕ) (x y along : ℤ) → IsAlong axis centre from to x y along → s_net ≡ net → s_layer ≡ layer
    → key_along axis net layer centre along ≡ record { net = s_net; layer = s_layer; x = x; y = y }
at_end axis centre from to net layer s_net s_layer x y along is of_net of_layer =
    is.2 net layer ∙ (λ i. record { net = sym of_net i; layer = sym of_layer i; x = x; y = y })

ends_at : (piece : Piece) (s : StackAt) → ends_on piece s ≡ true → (along : ℤ) × (piece.from ≤ℤ along) × (along ≤ℤ piece.to) × EndsAt piece s along
ends_at piece s h =
    let both = and_parts ((s.net == piece.net) && touches (centre_line piece) (point s.x s.y)) (ends_on_layer s piece.layer) h in
    let parts = and_parts (s.net == piece.net) (touches (centre_line piece) (point s.x s.y)) both.0 in
    let of_net : s.net ≡ piece.net = eqb-true s.net piece.net parts.0 in
    let place = along_line piece.axis piece.centre piece.from piece.to s.x s.y parts.1 in
    (place.0, place.1.0, place.1.1, by_layer of_net place.0 place.1 (or_cases (s.stack.from == piece.layer) (s.stack.to == piece.layer) both.1))
  where
    by_layer : s.net ≡ piece.net → (along : ℤ) → IsAlong piece.axis piece.centre piece.from piece.to s.x s.y along
        → ((s.stack.from == piece.layer) ≡ true) ⊎ ((s.stack.to == piece.layer) ≡ true) → EndsAt piece s along
    by_layer of_net along is (inl lowest) =
        inl (at_end piece.axis piece.centre piece.from piece.to piece.net piece.layer s.net s.stack.from s.x s.y along is of_net (eqb-true s.stack.from piece.layer lowest))
    by_layer of_net along is (inr highest) =
        inr (at_end piece.axis piece.centre piece.from piece.to piece.net piece.layer s.net s.stack.to s.x s.y along is of_net (eqb-true s.stack.to piece.layer highest))

net_of : (axis : Axis) (net layer : ℕ) (centre along : ℤ) → (key_along axis net layer centre along).net ≡ net
net_of X net layer centre along = refl
net_of Y net layer centre along = refl

layer_of : (axis : Axis) (net layer : ℕ) (centre along : ℤ) → (key_along axis net layer centre along).layer ≡ layer
layer_of X net layer centre along = refl
layer_of Y net layer centre along = refl

is_end : (piece : Piece) (s : StackAt) (along : ℤ) (layer : ℕ) → piece.from ≤ℤ along → along ≤ℤ piece.to → key_on piece along ≡ key_of_stack s layer
    → ((layer == piece.layer) ≡ true → ends_on_layer s piece.layer ≡ true) → ends_on piece s ≡ true
is_end piece s along layer low high is told =
    let of_net : s.net ≡ piece.net = sym (ap (λ (k : Key). k.net) is) ∙ net_of piece.axis piece.net piece.layer piece.centre along in
    let of_layer : layer ≡ piece.layer = sym (ap (λ (k : Key). k.layer) is) ∙ layer_of piece.axis piece.net piece.layer piece.centre along in
    and_from ((s.net == piece.net) && touches (centre_line piece) (point s.x s.y)) (ends_on_layer s piece.layer)
    (and_from (s.net == piece.net) (touches (centre_line piece) (point s.x s.y)) (eq-eqb s.net piece.net of_net)
    (on_line piece.axis piece.net piece.layer layer s.net piece.centre piece.from piece.to s.x s.y along low high is))
    (told (eq-eqb layer piece.layer of_layer))

ends_there : (piece : Piece) (s : StackAt) (along : ℤ) → piece.from ≤ℤ along → along ≤ℤ piece.to → EndsAt piece s along → ends_on piece s ≡ true
ends_there piece s along low high (inl is) =
    is_end piece s along s.stack.from low high is (λ e. or_left (s.stack.from == piece.layer) (s.stack.to == piece.layer) e)
ends_there piece s along low high (inr is) =
    is_end piece s along s.stack.to low high is (λ e. or_right (s.stack.from == piece.layer) (s.stack.to == piece.layer) e)

pub ends_are_junctions : (stacks : List StackAt) (piece : Piece) → IsTrue (has_stack_end stacks piece) ↔ ((along : ℤ) × HasStackEnd stacks piece along)
ends_are_junctions stacks piece = (there, back)
  where
    there : IsTrue (has_stack_end stacks piece) → (along : ℤ) × HasStackEnd stacks piece along
    there h =
        let one = Any-from_list_any (ends_on piece) stacks h in
        let ends = ends_at piece one.1 one.4 in
        (ends.0, (ends.1, ends.2, (one.0, one.1, one.2, one.3, ends.3)))

    back : (along : ℤ) × HasStackEnd stacks piece along → IsTrue (has_stack_end stacks piece)
    back (along, (low, high, (k, s, within, is, ends))) = list_any-from_Any (ends_on piece) stacks (k, s, within, is, ends_there piece s along low high ends)
