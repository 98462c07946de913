-- The sites among the crossings that are tried.
use Rattle.std.proofs.Common.{◌≡◌, ◌⊎◌, inl, inr, ℕ, ◌+◌, ◌<◌, ◌≤◌, List, [], length, get_or, take, AllPairs, Contains, subst, sym, refl, ap, ◌∙◌, Bool, true, false, not, ◌↔◌, IsTrue, arith}
use Rattle.std.specs.declared.cmp.Ordering.TheVariants.{Equal}
use Rattle.std.specs.Cmp.{IsTotalOrder}
use Rattle.std.specs.List.Sorted.{IsPermutation}
use Rattle.std.specs.Ordering.{nat_cmp, int_cmp, is_gt}
use Rattle.std.proofs.lemmas.Bool.{cases_lt, false≢true}
use Rattle.std.proofs.lemmas.Cmp.{nat_cmp_total, int_cmp_total, on_total, then_total}
use Rattle.std.proofs.lemmas.List.{get_or_default, take_all}
use Rattle.geom_rect.specs.declared.rect.Rect.{Rect}
use Rattle.lef_tech.specs.declared.tech.Tech.{Tech}
use Rattle.grid_pieces.specs.declared.piece.Block.{Block}
use Rattle.grid_pieces.specs.declared.piece.Piece.{Piece}
use Rattle.grid_pieces.specs.Piece.{Among}
use Rattle.grid_pieces.specs.Touch.{rect_order}
use Rattle.grid_pieces.specs.Laws.Amongst.{Among-more}
use Rattle.grid_pieces.specs.Laws.Orders.{then_equal, nat_equal, int_equal}
use Rattle.grid_stacks.specs.declared.connect.Connect.{Connect}
use Rattle.grid_stacks.specs.declared.connect.Site.{Site}
use Rattle.grid_stacks.specs.Crossing.{At, Cross, IsObstructed, IsUsed, Stands, crossing_of, limit_of, site_of}
use Rattle.grid_stacks.specs.Stacking.{AreSites, place_order, site_order}
use Rattle.plain_drawing.specs.inside.Adding.{Adds, AddsOne}
use Rattle.plain_drawing.specs.inside.Sites.{NoneEarlier, Obstructs, StandsAt, IsSiteOf, StandsOn, StandsBy, StandsTo}
use Rattle.plain_drawing.proofs.Added.{adds_none, adds_same, adds_then, adds_one, arranged}

place_total : IsTotalOrder place_order
place_total =
    then_total
    (then_total (then_total (then_total (on_total (λ (s : Site). s.net) nat_cmp_total) (on_total (λ (s : Site). s.x) int_cmp_total)) (on_total (λ (s : Site). s.y) int_cmp_total))
    (on_total (λ (s : Site). s.from) nat_cmp_total))
    (on_total (λ (s : Site). s.to) nat_cmp_total)

rect_total : IsTotalOrder rect_order
rect_total =
    then_total (then_total (then_total (on_total (λ (r : Rect). r.x1) int_cmp_total) (on_total (λ (r : Rect). r.y1) int_cmp_total)) (on_total (λ (r : Rect). r.x2) int_cmp_total))
    (on_total (λ (r : Rect). r.y2) int_cmp_total)

pub site_total : IsTotalOrder site_order
site_total = then_total place_total (on_total (λ (s : Site). s.crossing) rect_total)

-- of the connects of two layers one is used
one_used : (connects : List Connect) (a b : Connect) → IsUsed connects a → IsUsed connects b → a.from ≡ b.from → a.to ≡ b.to → a ≡ b
one_used connects a b a_is b_is from to = by_place (cases_lt a_is.place b_is.place) (cases_lt b_is.place a_is.place)
  where
    by_place : (a_is.place < b_is.place) ⊎ (b_is.place ≤ a_is.place) → (b_is.place < a_is.place) ⊎ (a_is.place ≤ b_is.place) → a ≡ b
    by_place (inl less) _ = absurd (b_is.none a_is.place a less a_is.is from to)
    by_place (inr _) (inl less) = absurd (a_is.none b_is.place b less b_is.is (sym from) (sym to))
    by_place (inr high) (inr low) =
        let same : a_is.place ≡ b_is.place = omega arith in
        sym a_is.is.1 ∙ get_or_default connects a_is.place a b a_is.is.0 ∙ ap (λ n. get_or connects n b) same ∙ b_is.is.1

-- those that are alike in order are one
tied : (tech : Tech) (pieces : List Piece) (connects : List Connect) (blocks : List Block) (s t : Site) → Stands tech pieces connects blocks s → Stands tech pieces connects blocks t
    → site_order s t ≡ Equal → s ≡ t
tied tech pieces connects blocks s t s_is t_is equal =
    let both = then_equal (place_order s t) (rect_order s.crossing t.crossing) equal in
    let five = then_equal _ (nat_cmp s.to t.to) both.0 in
    let four = then_equal _ (nat_cmp s.from t.from) five.0 in
    let three = then_equal _ (int_cmp s.y t.y) four.0 in
    let two = then_equal (nat_cmp s.net t.net) (int_cmp s.x t.x) three.0 in
    let high = then_equal _ (int_cmp s.crossing.y2 t.crossing.y2) both.1 in
    let right = then_equal _ (int_cmp s.crossing.x2 t.crossing.x2) high.0 in
    let corner = then_equal (int_cmp s.crossing.x1 t.crossing.x1) (int_cmp s.crossing.y1 t.crossing.y1) right.0 in
    let net : s.net ≡ t.net = nat_equal s.net t.net two.0 in
    let x : s.x ≡ t.x = int_equal s.x t.x two.1 in
    let y : s.y ≡ t.y = int_equal s.y t.y three.1 in
    let from : s.from ≡ t.from = nat_equal s.from t.from four.1 in
    let to : s.to ≡ t.to = nat_equal s.to t.to five.1 in
    let x1 : s.crossing.x1 ≡ t.crossing.x1 = int_equal s.crossing.x1 t.crossing.x1 corner.0 in
    let y1 : s.crossing.y1 ≡ t.crossing.y1 = int_equal s.crossing.y1 t.crossing.y1 corner.1 in
    let x2 : s.crossing.x2 ≡ t.crossing.x2 = int_equal s.crossing.x2 t.crossing.x2 right.1 in
    let y2 : s.crossing.y2 ≡ t.crossing.y2 = int_equal s.crossing.y2 t.crossing.y2 high.1 in
    let low : s_is.connect.from ≡ t_is.connect.from = sym (ap (λ (a : Site). a.from) s_is.is) ∙ from ∙ ap (λ (a : Site). a.from) t_is.is in
    let top : s_is.connect.to ≡ t_is.connect.to = sym (ap (λ (a : Site). a.to) s_is.is) ∙ to ∙ ap (λ (a : Site). a.to) t_is.is in
    let connect : s_is.connect ≡ t_is.connect = one_used connects s_is.connect t_is.connect s_is.used t_is.used low top in
    let columns : s.max_columns ≡ t.max_columns =
    ap (λ (a : Site). a.max_columns) s_is.is ∙ ap (λ (c : Connect). limit_of c.max_columns) connect ∙ sym (ap (λ (a : Site). a.max_columns) t_is.is) in
    let rows : s.max_rows ≡ t.max_rows = ap (λ (a : Site). a.max_rows) s_is.is ∙ ap (λ (c : Connect). limit_of c.max_rows) connect ∙ sym (ap (λ (a : Site). a.max_rows) t_is.is) in
    λ i. record {
      net = net i;
      x = x i;
      y = y i;
      from = from i;
      to = to i;
      crossing = record { x1 = x1 i; y1 = y1 i; x2 = x2 i; y2 = y2 i };
      max_columns = columns i;
      max_rows = rows i;
    }

-- one blockage more, which doesn't obstruct
pub obstructed_more : (tech : Tech) (connect : Connect) (blocks : List Block) (rect : Rect) (i : ℕ) (d : Block) → i < length blocks → (IsObstructed tech connect (take i blocks) rect → ⊥)
    → (Obstructs tech connect rect (get_or blocks i d) → ⊥) → IsObstructed tech connect (take (i + 1) blocks) rect → ⊥
obstructed_more tech connect blocks rect i d within before here among = by_last ((Among-more (Obstructs tech connect rect) blocks i d within).0 among)
  where
    by_last : IsObstructed tech connect (take i blocks) rect ⊎ Obstructs tech connect rect (get_or blocks i d) → ⊥
    by_last (inl w) = before w
    by_last (inr is) = here is

-- none of them does
pub obstructed_none : (tech : Tech) (connect : Connect) (blocks : List Block) (rect : Rect) (i : ℕ) → length blocks ≤ i → (IsObstructed tech connect (take i blocks) rect → ⊥)
    → IsObstructed tech connect blocks rect → ⊥
obstructed_none tech connect blocks rect i past none = subst (λ bs. IsObstructed tech connect bs rect → ⊥) (take_all i blocks past) none

-- two pieces cross, and whether the common rectangle is obstructed
pub stands_if : (tech : Tech) (blocks : List Block) (connect : Connect) (flat upright : Piece) (rect : Rect) (obstructed : Bool) → Cross connect flat upright → rect ≡ crossing_of flat upright
    → IsTrue obstructed ↔ IsObstructed tech connect blocks rect → IsTrue (not obstructed) ↔ StandsAt tech blocks connect flat upright
stands_if tech blocks connect flat upright rect true cross is iff =
    (λ no. absurd (false≢true no), λ stands. absurd (stands.1 (subst (IsObstructed tech connect blocks) is (iff.0 refl))))
stands_if tech blocks connect flat upright rect false cross is iff =
    (λ yes. (cross, λ obstructed. false≢true (iff.1 (subst (IsObstructed tech connect blocks) (sym is) obstructed))), λ stands. refl)

-- what stands at a place
pub at_get : {X : Type 0} (xs : List X) (k : ℕ) (d : X) → k < length xs → At xs k (get_or xs k d)
at_get xs k d within = (within, get_or_default xs k (get_or xs k d) d within)

module _ (tech : Tech) (pieces : List Piece) (connects : List Connect) (blocks : List Block) where
  abbrev Is : Site → Type 0
  Is = Stands tech pieces connects blocks

  -- no upright piece
  pub upright_none : (connect : Connect) (flat : Piece) (a : List Site) → Adds (Stands tech pieces connects blocks) (StandsOn tech (take 0 pieces) blocks connect flat) a a
  upright_none connect flat a = adds_none Is (StandsOn tech (take 0 pieces) blocks connect flat) a (λ s s_is w. absurd (omega (arith, w.1.1)))

  -- all of them
  pub upright_all : (connect : Connect) (flat : Piece) (i : ℕ) (a b : List Site) → length pieces ≤ i → Adds (Stands tech pieces connects blocks) (StandsOn tech (take i pieces) blocks connect flat) a b
      → Adds (Stands tech pieces connects blocks) (StandsOn tech pieces blocks connect flat) a b
  upright_all connect flat i a b past adds = subst (λ ps. Adds Is (StandsOn tech ps blocks connect flat) a b) (take_all i pieces past) adds

  -- one upright piece more, at which a stack stands
  pub upright_more : (connect : Connect) (flat : Piece) (i : ℕ) (d : Piece) (a b c : List Site) → i < length pieces → IsUsed connects connect → Contains pieces flat
      → Contains pieces (get_or pieces i d) → StandsAt tech blocks connect flat (get_or pieces i d) → AddsOne (site_of connect flat (get_or pieces i d)) b c
      → Adds (Stands tech pieces connects blocks) (StandsOn tech (take i pieces) blocks connect flat) a b
      → Adds (Stands tech pieces connects blocks) (StandsOn tech (take (i + 1) pieces) blocks connect flat) a c
  upright_more connect flat i d a b c within used flat_is upright_is stands one first =
      adds_then Is (StandsOn tech (take i pieces) blocks connect flat) (λ s. s ≡ site_of connect flat (get_or pieces i d)) (StandsOn tech (take (i + 1) pieces) blocks connect flat) a b c first
      (adds_one Is (λ s. s ≡ site_of connect flat (get_or pieces i d)) (site_of connect flat (get_or pieces i d)) b c one
      (record { connect = connect; flat = flat; upright = get_or pieces i d; used = used; flat_is = flat_is; upright_is = upright_is; cross = stands.0; free = stands.1; is = refl })
      (λ s s_is same. same))
      (λ s s_is among. at_end s ((Among-more (IsSiteOf tech blocks connect flat s) pieces i d within).0 among))
    where
      at_end : (s : Site) → StandsOn tech (take i pieces) blocks connect flat s ⊎ IsSiteOf tech blocks connect flat s (get_or pieces i d)
          → StandsOn tech (take i pieces) blocks connect flat s ⊎ (s ≡ site_of connect flat (get_or pieces i d))
      at_end s (inl among) = inl among
      at_end s (inr is) = inr is.1

  -- one at which none stands
  pub upright_kept : (connect : Connect) (flat : Piece) (i : ℕ) (d : Piece) (a b : List Site) → i < length pieces → (StandsAt tech blocks connect flat (get_or pieces i d) → ⊥)
      → Adds (Stands tech pieces connects blocks) (StandsOn tech (take i pieces) blocks connect flat) a b
      → Adds (Stands tech pieces connects blocks) (StandsOn tech (take (i + 1) pieces) blocks connect flat) a b
  upright_kept connect flat i d a b within none first =
      adds_same Is (StandsOn tech (take i pieces) blocks connect flat) (StandsOn tech (take (i + 1) pieces) blocks connect flat) a b first
      (λ s s_is among. at_end s ((Among-more (IsSiteOf tech blocks connect flat s) pieces i d within).0 among))
    where
      at_end : (s : Site) → StandsOn tech (take i pieces) blocks connect flat s ⊎ IsSiteOf tech blocks connect flat s (get_or pieces i d) → StandsOn tech (take i pieces) blocks connect flat s
      at_end s (inl among) = among
      at_end s (inr is) = absurd (none is.0)

  -- one horizontal piece more
  pub flat_more : (connect : Connect) (i : ℕ) (d : Piece) (a b c : List Site) → i < length pieces
      → Adds (Stands tech pieces connects blocks) (λ s. Among (λ flat. StandsOn tech pieces blocks connect flat s) (take i pieces)) a b
      → Adds (Stands tech pieces connects blocks) (StandsOn tech pieces blocks connect (get_or pieces i d)) b c
      → Adds (Stands tech pieces connects blocks) (λ s. Among (λ flat. StandsOn tech pieces blocks connect flat s) (take (i + 1) pieces)) a c
  flat_more connect i d a b c within first second =
      adds_then Is (λ s. Among (λ flat. StandsOn tech pieces blocks connect flat s) (take i pieces)) (StandsOn tech pieces blocks connect (get_or pieces i d))
      (λ s. Among (λ flat. StandsOn tech pieces blocks connect flat s) (take (i + 1) pieces)) a b c first second
      (λ s s_is among. (Among-more (λ flat. StandsOn tech pieces blocks connect flat s) pieces i d within).0 among)

  -- no horizontal piece
  pub flat_none : (connect : Connect) (a : List Site) → Adds (Stands tech pieces connects blocks) (λ s. Among (λ flat. StandsOn tech pieces blocks connect flat s) (take 0 pieces)) a a
  flat_none connect a = adds_none Is (λ s. Among (λ flat. StandsOn tech pieces blocks connect flat s) (take 0 pieces)) a (λ s s_is w. absurd (omega (arith, w.1.1)))

  -- all of them
  pub flat_all : (connect : Connect) (i : ℕ) (a b : List Site) → length pieces ≤ i
      → Adds (Stands tech pieces connects blocks) (λ s. Among (λ flat. StandsOn tech pieces blocks connect flat s) (take i pieces)) a b
      → Adds (Stands tech pieces connects blocks) (StandsBy tech pieces blocks connect) a b
  flat_all connect i a b past adds = subst (λ ps. Adds Is (λ s. Among (λ flat. StandsOn tech pieces blocks connect flat s) ps) a b) (take_all i pieces past) adds

  pub nothing_before : (a : List Site) → Adds (Stands tech pieces connects blocks) (StandsTo tech pieces connects blocks 0) a a
  nothing_before a = adds_none Is (StandsTo tech pieces connects blocks 0) a (λ s s_is w. absurd (omega (arith, w.2)))

  -- one connect more: used, or not
  pub connect_more : (place : ℕ) (connect : Connect) (a b c : List Site) → At connects place connect → Adds (Stands tech pieces connects blocks) (StandsTo tech pieces connects blocks place) a b
      → Adds (Stands tech pieces connects blocks) (StandsBy tech pieces blocks connect) b c → Adds (Stands tech pieces connects blocks) (StandsTo tech pieces connects blocks (place + 1)) a c
  connect_more place connect a b c is first second =
      adds_then Is (StandsTo tech pieces connects blocks place) (StandsBy tech pieces blocks connect) (StandsTo tech pieces connects blocks (place + 1)) a b c first second
      (λ s s_is w. by_place s w (cases_lt w.0 place))
    where
      by_place : (s : Site) (w : StandsTo tech pieces connects blocks (place + 1) s) → (w.0 < place) ⊎ (place ≤ w.0) → StandsTo tech pieces connects blocks place s ⊎ StandsBy tech pieces blocks connect s
      by_place s w (inl less) = inl (w.0, w.1, less, w.3, w.4, w.5)
      by_place s w (inr high) =
          let same : w.0 ≡ place = omega (arith, w.2) in
          let one : w.1 ≡ connect = sym w.3.1 ∙ get_or_default connects w.0 w.1 connect w.3.0 ∙ ap (λ n. get_or connects n connect) same ∙ is.1 in
          inr (subst (λ c. StandsBy tech pieces blocks c s) one w.5)

  pub connect_kept : (place : ℕ) (a b : List Site) → (NoneEarlier connects place → ⊥) → Adds (Stands tech pieces connects blocks) (StandsTo tech pieces connects blocks place) a b
      → Adds (Stands tech pieces connects blocks) (StandsTo tech pieces connects blocks (place + 1)) a b
  connect_kept place a b unused first =
      adds_same Is (StandsTo tech pieces connects blocks place) (StandsTo tech pieces connects blocks (place + 1)) a b first (λ s s_is w. by_place s w (cases_lt w.0 place))
    where
      by_place : (s : Site) (w : StandsTo tech pieces connects blocks (place + 1) s) → (w.0 < place) ⊎ (place ≤ w.0) → StandsTo tech pieces connects blocks place s
      by_place s w (inl less) = (w.0, w.1, less, w.3, w.4, w.5)
      by_place s w (inr high) =
          let same : w.0 ≡ place = omega (arith, w.2) in
          absurd (unused (subst (NoneEarlier connects) same w.4))

  -- a used connect at a place
  pub used_at : (place : ℕ) (connect : Connect) → At connects place connect → NoneEarlier connects place → IsUsed connects connect
  used_at place connect is none = record { place = place; is = is; none = λ k other less other_is from to. none k connect other less other_is is (from, to) }

  -- all sites, sorted
  pub sorted : (n : ℕ) (all sites : List Site) → length connects ≤ n → Adds (Stands tech pieces connects blocks) (StandsTo tech pieces connects blocks n) [] all → IsPermutation all sites
      → AllPairs (λ (s t : Site). is_gt (site_order s t) ≡ false) sites → AreSites (Stands tech pieces connects blocks) sites
  sorted n all sites past adds moved rising =
      let are = arranged Is (StandsTo tech pieces connects blocks n) site_order (tied tech pieces connects blocks) all sites adds whole moved rising in
      record { each = are.0; every = are.1; in_order = are.2 }
    where
      whole : (s : Site) → Is s → StandsTo tech pieces connects blocks n s
      whole s w = (
        w.used.place,
        w.connect,
        omega (arith, w.used.is.0),
        w.used.is,
        λ k one other less other_is one_is same. w.used.none k other less other_is (same.0 ∙ alike one one_is (λ c. c.from)) (same.1 ∙ alike one one_is (λ c. c.to)),
        (w.flat, w.flat_is, (w.upright, w.upright_is, ((w.cross, w.free), w.is))),
      )
        where
          alike : (one : Connect) → At connects w.used.place one → (f : Connect → ℕ) → f one ≡ f w.connect
          alike one one_is f = ap f (sym one_is.1 ∙ get_or_default connects w.used.place one w.connect one_is.0 ∙ w.used.is.1)
