-- Of two stacks of a drawing one goes before the other by its net, its place and its layers: no two stand at one place with
-- the same layers, since metal that touches is one piece.
use Rattle.std.proofs.Common.{◌≡◌, ◌≢◌, ◌⊎◌, inl, inr, ℕ, ◌<◌, ◌≤◌, ℤ, Bool, true, false, ◌==◌, List, All, map, length, get_or, refl, sym, ap, ◌∙◌, subst, eq-eqb, arith}
use Rattle.std.specs.Prelude.{Contains, IsTrue, ◌↔◌, flat_map}
use Rattle.std.specs.Cmp.{IsTotalOrder}
use Rattle.std.specs.Ordering.{nat_cmp, int_cmp, ordering_then, ordering_reverse, is_lt, is_gt}
use Rattle.std.specs.declared.cmp.Ordering.{Ordering}
use Rattle.std.specs.declared.cmp.Ordering.TheVariants.{Less, Equal, Greater}
use Rattle.std.proofs.lemmas.Bool.{false≢true, cases_lt}
use Rattle.std.proofs.lemmas.Cmp.{int_cmp_total, on_total, then_total, tied_itself}
use Rattle.std.proofs.lemmas.List.{get_or_default, get_or-map, length-map, length-append, get_or_append_left}
use Rattle.std.proofs.lemmas.List.Elements.{All-contains}
use Rattle.geom_rect.specs.declared.direction.Axis.TheVariants.{X, Y}
use Rattle.geom_rect.specs.declared.rect.Rect.{Rect}
use Rattle.geom_rect.specs.Rect.{HasPoint}
use Rattle.grid_pieces.specs.declared.metal.Metal.{Metal}
use Rattle.grid_pieces.specs.declared.piece.Block.{Block}
use Rattle.grid_pieces.specs.declared.piece.Piece.{Piece}
use Rattle.grid_pieces.specs.declared.piece.StackAt.{StackAt}
use Rattle.grid_pieces.specs.declared.touch.Touching.{Touching}
use Rattle.grid_pieces.specs.Laws.Found.{place_of_true}
use Rattle.grid_pieces.specs.Laws.Orders.{then_equal, nat_equal, int_equal}
use Rattle.grid_pieces.specs.Limits.{PieceKeeps}
use Rattle.grid_pieces.specs.Line.{piece_rect}
use Rattle.grid_pieces.specs.Touch.{piece_metal, stack_metal, between, metal, rect_order, StandsAt, IsTouch}
use Rattle.grid_shapes.specs.Site.{same_axis}
use Rattle.grid_stacks.specs.declared.connect.Connect.{Connect}
use Rattle.grid_stacks.specs.declared.connect.Site.{Site}
use Rattle.grid_stacks.specs.Crossing.{crossing_of, Joins, Cross, Stands}
use Rattle.grid_stacks.specs.Stacking.{place_order, site_order}
use Rattle.lef_tech.specs.declared.tech.Tech.{Tech}
use Rattle.drawn_again.proofs.Ends.{flat_has, upright_has, IsPlaced, placed}

rect_total : IsTotalOrder rect_order
rect_total =
    then_total
    (then_total (then_total (on_total (λ (r : Rect). r.x1) int_cmp_total) (on_total (λ (r : Rect). r.y1) int_cmp_total)) (on_total (λ (r : Rect). r.x2) int_cmp_total))
    (on_total (λ (r : Rect). r.y2) int_cmp_total)

-- ## one piece at a place

not_both : (o : Ordering) → is_gt o ≡ true → is_gt (ordering_reverse o) ≡ false
not_both Less is = absurd (false≢true is)
not_both Equal is = absurd (false≢true is)
not_both Greater is = refl

same_net : (a b : ℕ) → IsTrue (a == b) ↔ (a ≡ b)
same_net a b = (place_of_true a b, eq-eqb a b)

-- two at two places, on one layer and with a point in common, touch, where the first rectangle is not the greater one
touch : (all : List Metal) (m n : Metal) (i j : ℕ) → i ≢ j → StandsAt all i m → StandsAt all j n → m.layer ≡ n.layer → (x y : ℤ)
    → HasPoint m.rect x y → HasPoint n.rect x y → is_gt (rect_order m.rect n.rect) ≡ false → (t : Touching) × IsTouch all t
touch all m n i j differ at_i at_j layer x y in_m in_n low = (
  record { layer = m.layer; first = m.rect; second = n.rect; same = m.net == n.net },
  record {
    i = i;
    j = j;
    differ = differ;
    one = m;
    other = n;
    at_i = at_i;
    at_j = at_j;
    on_layer = (refl, sym layer);
    meet = (x, y, (in_m, in_n));
    first = refl;
    second = refl;
    lesser = low;
    same = same_net m.net n.net;
  },
)

module _ (pieces : List Piece) (stacks : List StackAt) (apart : (t : Touching) → IsTouch (metal pieces stacks) t → ⊥) where
  abbrev of_stacks : List Metal
  of_stacks = flat_map (λ (s : StackAt). map (stack_metal s) (between s.stack.from s.stack.to)) stacks

  stands : (p : Piece) (j : ℕ) → j < length pieces → get_or pieces j p ≡ p → StandsAt (metal pieces stacks) j (piece_metal p)
  stands p j within at =
      let many = length-map pieces piece_metal in
      let long = length-append (map piece_metal pieces) of_stacks in (
        omega (arith, within, many, long),
        get_or_append_left (map piece_metal pieces) of_stacks (piece_metal p) j (omega (arith, within, many)) ∙ get_or-map piece_metal pieces j p (piece_metal p) within
            ∙ ap piece_metal at,
      )

  one_place : (p q : Piece) → (i j : ℕ) → i < length pieces → j < length pieces → get_or pieces i p ≡ p → get_or pieces j q ≡ q → p.layer ≡ q.layer → (x y : ℤ)
      → HasPoint (piece_rect p) x y → HasPoint (piece_rect q) x y → i ≢ j → ⊥
  one_place p q i j in_i in_j at_i at_j layer x y in_p in_q differ = by (is_gt (rect_order (piece_rect p) (piece_rect q))) refl
    where
      by : (b : Bool) → is_gt (rect_order (piece_rect p) (piece_rect q)) ≡ b → ⊥
      by false low =
          let (t, is) = touch (metal pieces stacks) (piece_metal p) (piece_metal q) i j differ (stands p i in_i at_i) (stands q j in_j at_j) layer x y in_p in_q low in
          apart t is
      by true high =
          let low : is_gt (rect_order (piece_rect q) (piece_rect p)) ≡ false =
          subst (λ (o : Ordering). is_gt o ≡ false) (sym (rect_total.antisymm (piece_rect q) (piece_rect p))) (not_both (rect_order (piece_rect p) (piece_rect q)) high) in
          let (t, is) = touch (metal pieces stacks) (piece_metal q) (piece_metal p) j i (λ e. differ (sym e)) (stands q j in_j at_j) (stands p i in_i at_i) (sym layer) x y
          in_q in_p low in
          apart t is

  -- two pieces on one layer with a point in common are the same
  one_piece : (p q : Piece) → Contains pieces p → Contains pieces q → p.layer ≡ q.layer → (x y : ℤ) → HasPoint (piece_rect p) x y → HasPoint (piece_rect q) x y → p ≡ q
  one_piece p q (i, in_i, at_i) (j, in_j, at_j) layer x y in_p in_q = by (cases_lt i j) (cases_lt j i)
    where
      by : (i < j) ⊎ (j ≤ i) → (j < i) ⊎ (i ≤ j) → p ≡ q
      by (inl less) _ = absurd (one_place p q i j in_i in_j at_i at_j layer x y in_p in_q (λ e. absurd (omega (arith, less, e))))
      by (inr _) (inl less) = absurd (one_place p q i j in_i in_j at_i at_j layer x y in_p in_q (λ e. absurd (omega (arith, less, e))))
      by (inr low) (inr high) =
          let same : i ≡ j = omega (arith, low, high) in
          sym at_i ∙ ap (λ n. get_or pieces n p) same ∙ get_or_default pieces j p q in_j ∙ at_j

  -- ## one crossing at a place

  turned : (p q : Piece) → p.axis ≡ X → q.axis ≡ Y → p ≡ q → ⊥
  turned p q flat upright same = false≢true (sym (ap (same_axis X) (sym flat ∙ ap (λ (r : Piece). r.axis) same ∙ upright)))

  module _ (keep : All PieceKeeps pieces) (c c' : Connect) (f u f' u' : Piece) (in_f : Contains pieces f) (in_u : Contains pieces u) (in_f' : Contains pieces f')
      (in_u' : Contains pieces u') (cross : Cross c f u) (cross' : Cross c' f' u') (x : u.centre ≡ u'.centre) (y : f.centre ≡ f'.centre) (from : c.from ≡ c'.from)
      (to : c.to ≡ c'.to) where
    keeps : (p : Piece) → Contains pieces p → PieceKeeps p
    keeps p is = All-contains PieceKeeps pieces p keep is

    f_has : HasPoint (piece_rect f) u.centre f.centre
    f_has = flat_has c f u cross (keeps f in_f) (keeps u in_u)

    u_has : HasPoint (piece_rect u) u.centre f.centre
    u_has = upright_has c f u cross (keeps f in_f) (keeps u in_u)

    moved : (r : Rect) → HasPoint r u'.centre f'.centre → HasPoint r u.centre f.centre
    moved r has = subst (λ a. HasPoint r a f.centre) (sym x) (subst (λ b. HasPoint r u'.centre b) (sym y) has)

    f_has' : HasPoint (piece_rect f') u.centre f.centre
    f_has' = moved (piece_rect f') (flat_has c' f' u' cross' (keeps f' in_f') (keeps u' in_u'))

    u_has' : HasPoint (piece_rect u') u.centre f.centre
    u_has' = moved (piece_rect u') (upright_has c' f' u' cross' (keeps f' in_f') (keeps u' in_u'))

    same_pieces : f.layer ≡ f'.layer → u.layer ≡ u'.layer → crossing_of f u ≡ crossing_of f' u'
    same_pieces f_layer u_layer =
        let f_same = one_piece f f' in_f in_f' f_layer u.centre f.centre f_has f_has' in
        let u_same = one_piece u u' in_u in_u' u_layer u.centre f.centre u_has u_has' in
        λ i. crossing_of (f_same i) (u_same i)

    other_pieces : f.layer ≡ u'.layer → ⊥
    other_pieces layer = turned f u' cross.horizontal cross'.vertical (one_piece f u' in_f in_u' layer u.centre f.centre f_has u_has')

    pub one_crossing : Joins c f u → Joins c' f' u' → crossing_of f u ≡ crossing_of f' u'
    one_crossing (inl (low, high)) (inl (low', high')) = same_pieces (low ∙ from ∙ sym low') (high ∙ to ∙ sym high')
    one_crossing (inr (high, low)) (inr (high', low')) = same_pieces (high ∙ to ∙ sym high') (low ∙ from ∙ sym low')
    one_crossing (inl (low, high)) (inr (high', low')) = absurd (other_pieces (low ∙ from ∙ sym low'))
    one_crossing (inr (high, low)) (inl (low', high')) = absurd (other_pieces (high ∙ to ∙ sym high'))

  -- ## sites

  module _ (keep : All PieceKeeps pieces) (tech : Tech) (connects : List Connect) (blocks : List Block) where
    abbrev IsSite : Site → Type 0
    IsSite site = Stands tech pieces connects blocks site

    same_crossing : (a b : Site) → IsSite a → IsSite b → place_order a b ≡ Equal → a.crossing ≡ b.crossing
    same_crossing a b a_is b_is tied =
        let net = nat_cmp a.net b.net in
        let x = int_cmp a.x b.x in
        let y = int_cmp a.y b.y in
        let from = nat_cmp a.from b.from in
        let by_to = then_equal (ordering_then (ordering_then (ordering_then net x) y) from) (nat_cmp a.to b.to) tied in
        let by_from = then_equal (ordering_then (ordering_then net x) y) from by_to.0 in
        let by_y = then_equal (ordering_then net x) y by_from.0 in
        let by_x = then_equal net x by_y.0 in
        let a_site = a_is.is in
        let b_site = b_is.is in
        ap (λ (s : Site). s.crossing) a_site
        ∙ one_crossing keep a_is.connect b_is.connect a_is.flat a_is.upright b_is.flat b_is.upright a_is.flat_is a_is.upright_is b_is.flat_is b_is.upright_is a_is.cross b_is.cross
        (sym (ap (λ (s : Site). s.x) a_site) ∙ int_equal a.x b.x by_x.1 ∙ ap (λ (s : Site). s.x) b_site)
        (sym (ap (λ (s : Site). s.y) a_site) ∙ int_equal a.y b.y by_y.1 ∙ ap (λ (s : Site). s.y) b_site)
        (sym (ap (λ (s : Site). s.from) a_site) ∙ nat_equal a.from b.from by_from.1 ∙ ap (λ (s : Site). s.from) b_site)
        (sym (ap (λ (s : Site). s.to) a_site) ∙ nat_equal a.to b.to by_to.1 ∙ ap (λ (s : Site). s.to) b_site)
        a_is.cross.layers b_is.cross.layers
        ∙ sym (ap (λ (s : Site). s.crossing) b_site)

    -- the order of sites tells them apart by their places
    pub by_place : (a b : Site) → IsSite a → IsSite b → is_lt (site_order a b) ≡ true → is_lt (place_order a b) ≡ true
    by_place a b a_is b_is less = by (place_order a b) refl less
      where
        by : (o : Ordering) → place_order a b ≡ o → is_lt (ordering_then o (rect_order a.crossing b.crossing)) ≡ true → is_lt o ≡ true
        by Less is before = refl
        by Greater is before = before
        by Equal is before =
            let same = same_crossing a b a_is b_is is in
            let none : rect_order a.crossing b.crossing ≡ Equal = subst (λ r. rect_order a.crossing r ≡ Equal) same (tied_itself rect_total a.crossing) in
            absurd (false≢true (sym (ap is_lt none) ∙ before))

    pub is_placed : (site : Site) → IsSite site → IsPlaced pieces site
    is_placed site is =
        subst (IsPlaced pieces) (sym is.is)
        (placed is.connect is.flat is.upright is.cross (All-contains PieceKeeps pieces is.flat keep is.flat_is) (All-contains PieceKeeps pieces is.upright keep is.upright_is) pieces
        is.flat_is is.upright_is is.cross.layers)
