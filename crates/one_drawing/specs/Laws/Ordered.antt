-- Orders that never go both ways: of names, lines of straps, pieces, sites and places in a text.
use Rattle.std.proofs.Common.{◌≡◌, ℕ, inl, inr, ◌<ℤ◌, Bool, true, false, Ordering, List, [], ◌∷◌, subst, refl, sym, arith}
use Rattle.std.specs.declared.cmp.Ordering.TheVariants.{Less, Equal, Greater}
use Rattle.std.specs.Cmp.{IsTotalOrder, bool_cmp_total}
use Rattle.std.specs.Ordering.{nat_cmp, int_cmp, bool_cmp, ordering_reverse, is_lt, is_gt}
use Rattle.std.proofs.lemmas.Bool.{false≢true}
use Rattle.std.proofs.lemmas.Cmp.{nat_cmp_total, int_cmp_total, on_total, then_total}
use Rattle.std.proofs.lemmas.Int.{ints}
use Rattle.geom_rect.specs.declared.rect.Rect.{Rect}
use Rattle.geom_rect.specs.declared.run.Run.{Run}
use Rattle.name_table.specs.ByteOrder.{IsBefore}
use Rattle.outside.specs.declared.place.Place.{Place}
use Rattle.strap_layout.specs.Lines.{LineAt, ComesBefore}
use Rattle.grid_pieces.specs.declared.piece.Piece.{Piece}
use Rattle.grid_pieces.specs.declared.touch.Touching.{Touching}
use Rattle.grid_pieces.specs.Laws.Orders.{piece_total, then_equal, nat_equal, int_equal}
use Rattle.grid_pieces.specs.Piece.{piece_order}
use Rattle.grid_pieces.specs.Touch.{rect_order, touch_order}
use Rattle.grid_stacks.specs.declared.connect.Site.{Site}
use Rattle.grid_stacks.specs.Stacking.{site_order}
use Rattle.grid_plan.specs.declared.order.PlacedConnect.{PlacedConnect}
use Rattle.grid_plan.specs.Order.{place_order}

opposite : (o : Ordering) → is_lt (ordering_reverse o) ≡ true → is_lt o ≡ true → ⊥
opposite Less h k = false≢true h
opposite Equal h k = false≢true h
opposite Greater h k = false≢true k

one_way : {K : Type 0} (R : K → K → Ordering) → IsTotalOrder R → (a b : K) → is_lt (R a b) ≡ true → is_lt (R b a) ≡ true → ⊥
one_way R total a b there back = opposite (R b a) (subst (λ o. is_lt o ≡ true) (total.antisymm a b) there) back

both_ways : (o : Ordering) → is_gt o ≡ false → is_gt (ordering_reverse o) ≡ false → o ≡ Equal
both_ways Less a b = absurd (false≢true (sym b))
both_ways Equal a b = refl
both_ways Greater a b = absurd (false≢true (sym a))

below : (o : Ordering) → is_gt o ≡ false → (o ≡ Equal → ⊥) → is_lt o ≡ true
below Less low differ = refl
below Equal low differ = absurd (differ refl)
below Greater low differ = absurd (false≢true (sym low))

-- ## names, lines and runs

pub names_one_way : (a b : List ℕ) → IsBefore a b → IsBefore b a → ⊥
names_one_way [] [] h k = h
names_one_way [] (y ∷ ys) h k = k
names_one_way (x ∷ xs) [] h k = h
names_one_way (x ∷ xs) (y ∷ ys) (inl h) (inl k) = absurd (omega arith)
names_one_way (x ∷ xs) (y ∷ ys) (inl h) (inr k) = absurd (omega (arith, k.0))
names_one_way (x ∷ xs) (y ∷ ys) (inr h) (inl k) = absurd (omega (arith, h.0))
names_one_way (x ∷ xs) (y ∷ ys) (inr h) (inr k) = names_one_way xs ys h.1 k.1

pub lines_one_way : (a b : LineAt) → ComesBefore a b → ComesBefore b a → ⊥
lines_one_way a b (inl h) (inl k) = absurd (omega arith)
lines_one_way a b (inl h) (inr k) = absurd (omega (arith, k.0))
lines_one_way a b (inr h) (inl k) = absurd (omega (arith, h.0))
lines_one_way a b (inr h) (inr k) = absurd (omega (arith, h.1, k.1))

pub runs_one_way : (a b : Run) → a.from <ℤ b.from → b.from <ℤ a.from → ⊥
runs_one_way a b h k = absurd (omega (arith, ints))

-- ## pieces and sites

pub pieces_one_way : (a b : Piece) → is_lt (piece_order a b) ≡ true → is_lt (piece_order b a) ≡ true → ⊥
pieces_one_way = one_way piece_order piece_total

rect_total : IsTotalOrder rect_order
rect_total =
    then_total (then_total (then_total (on_total (λ (r : Rect). r.x1) int_cmp_total) (on_total (λ (r : Rect). r.y1) int_cmp_total)) (on_total (λ (r : Rect). r.x2) int_cmp_total))
    (on_total (λ (r : Rect). r.y2) int_cmp_total)

site_total : IsTotalOrder site_order
site_total =
    then_total
    (then_total
    (then_total (then_total (then_total (on_total (λ (s : Site). s.net) nat_cmp_total) (on_total (λ (s : Site). s.x) int_cmp_total)) (on_total (λ (s : Site). s.y) int_cmp_total))
    (on_total (λ (s : Site). s.from) nat_cmp_total)) (on_total (λ (s : Site). s.to) nat_cmp_total)) (on_total (λ (s : Site). s.crossing) rect_total)

pub sites_one_way : (a b : Site) → is_lt (site_order a b) ≡ true → is_lt (site_order b a) ≡ true → ⊥
sites_one_way = one_way site_order site_total

-- ## places in a text

order_total : IsTotalOrder place_order
order_total = then_total (on_total (λ (p : Place). p.line) nat_cmp_total) (on_total (λ (p : Place). p.word) nat_cmp_total)

place_equal : (p q : Place) → place_order p q ≡ Equal → p ≡ q
place_equal p q equal =
    let both = then_equal (nat_cmp p.line q.line) (nat_cmp p.word q.word) equal in
    let line = nat_equal p.line q.line both.0 in
    let word = nat_equal p.word q.word both.1 in
    λ i. record { line = line i; word = word i }

-- one command stands before another
abbrev pub IsEarlier : PlacedConnect → PlacedConnect → Type 0
IsEarlier a b = is_lt (place_order a.place b.place) ≡ true

pub earlier_one_way : (a b : PlacedConnect) → IsEarlier a b → IsEarlier b a → ⊥
earlier_one_way a b = one_way place_order order_total a.place b.place

pub earlier_from : (a b : PlacedConnect) → is_gt (place_order a.place b.place) ≡ false → (a.place ≡ b.place → ⊥) → IsEarlier a b
earlier_from a b low apart = below (place_order a.place b.place) low (λ e. apart (place_equal a.place b.place e))

-- ## touches

rect_equal : (a b : Rect) → rect_order a b ≡ Equal → a ≡ b
rect_equal a b equal =
    let one = then_equal _ (int_cmp a.y2 b.y2) equal in
    let two = then_equal _ (int_cmp a.x2 b.x2) one.0 in
    let three = then_equal (int_cmp a.x1 b.x1) (int_cmp a.y1 b.y1) two.0 in
    let x1 = int_equal a.x1 b.x1 three.0 in
    let y1 = int_equal a.y1 b.y1 three.1 in
    let x2 = int_equal a.x2 b.x2 two.1 in
    let y2 = int_equal a.y2 b.y2 one.1 in
    λ i. record { x1 = x1 i; y1 = y1 i; x2 = x2 i; y2 = y2 i }

bool_equal : (a b : Bool) → bool_cmp a b ≡ Equal → a ≡ b
bool_equal false false e = refl
bool_equal false true e = absurd (cc)
bool_equal true false e = absurd (cc)
bool_equal true true e = refl

touch_total : IsTotalOrder touch_order
touch_total =
    then_total (then_total (then_total (on_total (λ (t : Touching). t.layer) nat_cmp_total) (on_total (λ (t : Touching). t.first) rect_total)) (on_total (λ (t : Touching). t.second) rect_total))
    (on_total (λ (t : Touching). t.same) bool_cmp_total)

-- touches of which neither comes before the other are one
pub touch_equal : (t u : Touching) → is_gt (touch_order t u) ≡ false → is_gt (touch_order u t) ≡ false → t ≡ u
touch_equal t u low high =
    let equal = both_ways (touch_order t u) low (subst (λ o. is_gt o ≡ false) (touch_total.antisymm u t) high) in
    let three = then_equal _ (bool_cmp t.same u.same) equal in
    let two = then_equal _ (rect_order t.second u.second) three.0 in
    let one = then_equal (nat_cmp t.layer u.layer) (rect_order t.first u.first) two.0 in
    let layer = nat_equal t.layer u.layer one.0 in
    let first = rect_equal t.first u.first one.1 in
    let second = rect_equal t.second u.second two.1 in
    let same = bool_equal t.same u.same three.1 in
    λ i. record { layer = layer i; first = first i; second = second i; same = same i }
