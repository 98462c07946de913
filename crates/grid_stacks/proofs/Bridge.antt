-- Crossings of pieces, as crossings of bars.
use Rattle.std.proofs.Common.{◌≡◌, ◌↔◌, ℕ, ◌+◌, ◌<◌, ◌≤◌, ◌⊎◌, inl, inr, ℤ, pos, ◌+ℤ◌, ◌-ℤ◌, ◌<ℤ◌, ◌≤ℤ◌, List, [], ◌∷◌, ◌++◌, All, AllPairs, Contains, length, get_or, Result, OnOk, subst, refl, sym, ap, ◌∙◌, arith}
use Rattle.std.specs.declared.result.Result.TheVariants.{Ok, Err}
use Rattle.std.specs.Int.{int_max, int_min}
use Rattle.std.specs.List.Sorted.{IsPermutation}
use Rattle.std.proofs.lemmas.Bool.{cases_lt}
use Rattle.std.proofs.lemmas.Int.{ints, clamps}
use Rattle.std.proofs.lemmas.List.{get_or_default}
use Rattle.std.proofs.lemmas.List.Elements.{All-contains}
use Rattle.std.proofs.lemmas.List.Quantifiers.{all_pairs_push}
use Rattle.std.proofs.lemmas.List.Sorted.{All-permutation, Contains-permutation}
use Rattle.geom_rect.specs.Rect.{ShareArea, IsInOrder, HasCoordinates}
use Rattle.geom_rect.specs.Run.{HasCell}
use Rattle.grid_pieces.specs.Laws.Geometry.{ShareArea-decides}
use Rattle.geom_rect.specs.declared.run.Run.{Run}
use Rattle.geom_rect.specs.declared.rect.Rect.{Rect}
use Rattle.geom_rect.specs.declared.direction.Axis.{Axis}
use Rattle.geom_rect.specs.declared.direction.Axis.TheVariants.{X, Y}
use Rattle.lef_tech.specs.declared.tech.Tech.{Tech}
use Rattle.via_arrays.specs.Choice.{direction}
use Rattle.grid_stacks.specs.declared.bar.Bar.{Bar}
use Rattle.grid_stacks.specs.declared.connect.Connect.{Connect}
use Rattle.grid_stacks.specs.declared.connect.Site.{Site}
use Rattle.grid_pieces.specs.declared.piece.Piece.{Piece}
use Rattle.grid_pieces.specs.declared.piece.Block.{Block}
use Rattle.geom_rect.specs.Drawn.{half, centred}
use Rattle.grid_pieces.specs.Line.{piece_rect}
use Rattle.grid_pieces.specs.Limits.{PieceKeeps}
use Rattle.grid_pieces.specs.Piece.{Among}
use Rattle.grid_pieces.specs.Line.{across}
use Rattle.grid_stacks.specs.Stacking.{ConnectKeeps, AreDifferent, AreMany, AreStanding}
use Rattle.grid_stacks.specs.Crossing.{At, common, crossing_of, HasWidth, Joins, Cross, LiesBetween, IsObstructed, IsUsed, site_of, limit_of, Stands}
use Rattle.grid_stacks.specs.inside.Bar.{bar_of, IsOn, BarsApart, AreBarsOf}
use Rattle.grid_stacks.specs.inside.Standing.{IsOverCell, Passes, Crosses, IsInner, AllAdded, OnOneLayer, bar_site, StandsBy, SitesAdded, HasLayers, AreUsedTo, IsStandingTo, GoAlong}
use Rattle.list_laws.specs.Laws.Permuted.{apart_permuted}
use Rattle.grid_pieces.specs.Laws.Geometry.{units_in, half_within}
use Rattle.grid_stacks.proofs.RunSteps.{at_same, at_get, at_contains, at_place, push_old, push_new, All-push}

apart_back : (x y : Bar) → BarsApart x y → BarsApart y x
apart_back x y h net layer centre low high t in_y in_x = h (sym net) (sym layer) (sym centre) (sym low) (sym high) t in_x in_y

pub bars_moved : (connect : Connect) (axis : Axis) (pieces : List Piece) (old new : List Bar) → IsPermutation old new → AreBarsOf connect axis pieces old → AreBarsOf connect axis pieces new
bars_moved connect axis pieces old new moved are = record {
  each = All-permutation (λ (bar : Bar). Among (λ (p : Piece). IsOn connect axis p × (bar_of p ≡ bar)) pieces) old new moved are.each;
  every = λ p has on. Contains-permutation old new (bar_of p) moved (are.every p has on);
  wide = All-permutation (λ (bar : Bar). bar.low <ℤ bar.high) old new moved are.wide;
  apart = apart_permuted BarsApart apart_back old new moved are.apart;
}

-- the rectangle of a horizontal and of a vertical piece
flat_rect : Piece → Rect
flat_rect p = record { x1 = p.from; y1 = p.centre -ℤ half p.width; x2 = p.to; y2 = p.centre +ℤ half p.width }

upright_rect : Piece → Rect
upright_rect q = record { x1 = q.centre -ℤ half q.width; y1 = q.from; x2 = q.centre +ℤ half q.width; y2 = q.to }

flat_is : (p : Piece) → p.axis ≡ X → piece_rect p ≡ flat_rect p
unfolding flat_rect
flat_is p e = ap (λ (a : Axis). centred a p.centre p.width p.from p.to) e

upright_is : (q : Piece) → q.axis ≡ Y → piece_rect q ≡ upright_rect q
unfolding upright_rect
upright_is q e = ap (λ (a : Axis). centred a q.centre q.width q.from q.to) e

bar_rect : Bar → Bar → Rect
bar_rect flat upright = record { x1 = upright.low; y1 = flat.low; x2 = upright.high; y2 = flat.high }

-- each goes over the whole width of the other
record Meet (flat upright : Bar) : Type 0 where
  left : flat.from ≤ℤ upright.low
  right : upright.high ≤ℤ flat.to
  begins : upright.from ≤ℤ flat.low
  ends : flat.high ≤ℤ upright.to

crossing_is : (p q : Piece) → p.axis ≡ X → q.axis ≡ Y → Meet (bar_of p) (bar_of q) → crossing_of p q ≡ bar_rect (bar_of p) (bar_of q)
unfolding flat_rect upright_rect bar_rect
crossing_is p q x y meet =
    let left = meet.left in let right = meet.right in let begins = meet.begins in let ends = meet.ends in
    let x1 : int_max p.from (q.centre -ℤ half q.width) ≡ q.centre -ℤ half q.width = omega (arith, ints, clamps) in
    let y1 : int_max (p.centre -ℤ half p.width) q.from ≡ p.centre -ℤ half p.width = omega (arith, ints, clamps) in
    let x2 : int_min p.to (q.centre +ℤ half q.width) ≡ q.centre +ℤ half q.width = omega (arith, ints, clamps) in
    let y2 : int_min (p.centre +ℤ half p.width) q.to ≡ p.centre +ℤ half p.width = omega (arith, ints, clamps) in
    let e : common (piece_rect p) (piece_rect q) ≡ common (flat_rect p) (upright_rect q) = λ i. common (flat_is p x i) (upright_is q y i) in
    let f : common (flat_rect p) (upright_rect q) ≡ bar_rect (bar_of p) (bar_of q) = λ i. record { x1 = x1 i; y1 = y1 i; x2 = x2 i; y2 = y2 i } in
    e ∙ f

-- what the full widths say
meet_from : (p q : Piece) → p.axis ≡ X → q.axis ≡ Y → HasWidth (crossing_of p q) p → HasWidth (crossing_of p q) q → Meet (bar_of p) (bar_of q)
unfolding flat_rect upright_rect
meet_from p q x y wide_p wide_q =
    let e : crossing_of p q ≡ common (flat_rect p) (upright_rect q) = λ i. common (flat_is p x i) (upright_is q y i) in
    let at_p : across X (common (flat_rect p) (upright_rect q)) ≡ across X (flat_rect p) =
    sym (ap (across X) e) ∙ subst (λ (a : Axis). across a (crossing_of p q) ≡ across a (piece_rect p)) x wide_p ∙ ap (across X) (flat_is p x) in
    let at_q : across Y (common (flat_rect p) (upright_rect q)) ≡ across Y (upright_rect q) =
    sym (ap (across Y) e) ∙ subst (λ (a : Axis). across a (crossing_of p q) ≡ across a (piece_rect q)) y wide_q ∙ ap (across Y) (upright_is q y) in
    let low_p : int_max (p.centre -ℤ half p.width) q.from ≡ p.centre -ℤ half p.width = ap (λ (r : Run). r.from) at_p in
    let high_p : int_min (p.centre +ℤ half p.width) q.to ≡ p.centre +ℤ half p.width = ap (λ (r : Run). r.to) at_p in
    let low_q : int_max p.from (q.centre -ℤ half q.width) ≡ q.centre -ℤ half q.width = ap (λ (r : Run). r.from) at_q in
    let high_q : int_min p.to (q.centre +ℤ half q.width) ≡ q.centre +ℤ half q.width = ap (λ (r : Run). r.to) at_q in
    record { left = omega (arith, ints, clamps); right = omega (arith, ints, clamps); begins = omega (arith, ints, clamps); ends = omega (arith, ints, clamps) }

widths_of : (p q : Piece) → p.axis ≡ X → q.axis ≡ Y → Meet (bar_of p) (bar_of q) → HasWidth (crossing_of p q) p × HasWidth (crossing_of p q) q
unfolding flat_rect upright_rect bar_rect
widths_of p q x y meet =
    let is = crossing_is p q x y meet in (
      subst (λ (a : Axis). across a (crossing_of p q) ≡ across a (piece_rect p)) (sym x) (ap (across X) is ∙ sym (ap (across X) (flat_is p x))),
      subst (λ (a : Axis). across a (crossing_of p q) ≡ across a (piece_rect q)) (sym y) (ap (across Y) is ∙ sym (ap (across Y) (upright_is q y))),
    )

site_is : (connect : Connect) (p q : Piece) → p.axis ≡ X → q.axis ≡ Y → Meet (bar_of p) (bar_of q) → site_of connect p q ≡ bar_site connect (bar_of p) (bar_of q)
unfolding bar_rect
site_is connect p q x y meet =
    let is = crossing_is p q x y meet in
    λ i. record {
      net = p.net;
      x = q.centre;
      y = p.centre;
      from = connect.from;
      to = connect.to;
      crossing = is i;
      max_columns = limit_of connect.max_columns;
      max_rows = limit_of connect.max_rows;
    }

-- a rectangle overlaps the crossing where it lies over a cell of it
over_area : (flat upright : Bar) (r : Rect) → ShareArea (bar_rect flat upright) r
    ↔ ((int_max flat.low r.y1 <ℤ int_min flat.high r.y2) × (int_max upright.low r.x1 <ℤ int_min upright.high r.x2))
unfolding bar_rect
over_area flat upright r =
    let both = ShareArea-decides (bar_rect flat upright) r in
    let in_x = units_in upright.low upright.high r.x1 r.x2 in
    let in_y = units_in flat.low flat.high r.y1 r.y2 in
    (λ w. let u = both.0 w in (in_y.0 u.1, in_x.0 u.0), λ w. both.1 (in_x.1 w.1, in_y.1 w.0))

-- a stack stands where bars cross
pub stands_from : (tech : Tech) (pieces : List Piece) (blocks : List Block) (connect : Connect) (inner : List Rect) (p q : Piece) → ((r : Rect) → Contains inner r ↔ IsInner tech connect blocks r)
    → connect.from < connect.to → Contains pieces p → Contains pieces q → IsOn connect X p → IsOn connect Y q → (bar_of q).low <ℤ (bar_of q).high → Crosses inner (bar_of p) (bar_of q)
    → StandsBy tech pieces blocks connect (bar_site connect (bar_of p) (bar_of q))
stands_from tech pieces blocks connect inner p q is_inner rising has_p has_q on_p on_q wide crosses = record {
  flat = p;
  upright = q;
  flat_is = has_p;
  upright_is = has_q;
  cross = record {
    horizontal = on_p.0;
    vertical = on_q.0;
    net = crosses.passes.net;
    layers = layers on_p.1 on_q.1;
    flat_width = (widths_of p q on_p.0 on_q.0 meet).0;
    upright_width = (widths_of p q on_p.0 on_q.0 meet).1;
  };
  free = free;
  is = sym (site_is connect p q on_p.0 on_q.0 meet);
}
  where
    meet : Meet (bar_of p) (bar_of q)
    meet =
        let first = (crosses.free (bar_of q).low (omega (arith, ints)) wide).0 in
        let last = (crosses.free ((bar_of q).high -ℤ pos 1) (omega (arith, ints)) (omega (arith, ints))).0 in
        let first_from = first.0 in let last_to = last.1 in
        record { left = first_from; right = omega (arith, ints); begins = crosses.passes.begins; ends = crosses.passes.ends }

    layers : (p.layer ≡ connect.from) ⊎ (p.layer ≡ connect.to) → (q.layer ≡ connect.from) ⊎ (q.layer ≡ connect.to) → Joins connect p q
    layers (inl a) (inl b) = absurd (crosses.passes.layers (a ∙ sym b))
    layers (inl a) (inr b) = inl (a, b)
    layers (inr a) (inl b) = inr (a, b)
    layers (inr a) (inr b) = absurd (crosses.passes.layers (a ∙ sym b))

    free : IsObstructed tech connect blocks (crossing_of p q) → ⊥
    free w =
        let block = w.0 in
        let area = subst (λ (r : Rect). ShareArea r block.plain) (crossing_is p q on_p.0 on_q.0 meet) w.2.1 in
        let both = (over_area (bar_of p) (bar_of q) block.plain).0 area in
        let t = int_max (bar_of q).low block.plain.x1 in
        let less = both.1 in
        let has : Contains inner block.plain = (is_inner block.plain).1 (block, w.1, (w.2.0, refl)) in
        (crosses.free t (omega (arith, ints, clamps)) (omega (arith, ints, clamps))).1 (block.plain, has, (both.0, (omega (arith, ints, clamps), omega (arith, ints, clamps))))

-- where a stack stands, bars cross
pub stands_to : (tech : Tech) (pieces : List Piece) (blocks : List Block) (connect : Connect) (inner : List Rect) (flats uprights : List Bar) (site : Site)
    → ((r : Rect) → Contains inner r ↔ IsInner tech connect blocks r) → connect.from < connect.to → AreBarsOf connect X pieces flats → AreBarsOf connect Y pieces uprights
    → StandsBy tech pieces blocks connect site
    → (flat : Bar) × (upright : Bar) × Contains flats flat × Contains uprights upright × Crosses inner flat upright × (site ≡ bar_site connect flat upright)
stands_to tech pieces blocks connect inner flats uprights site is_inner rising are_flats are_uprights stands = (
  bar_of p,
  bar_of q,
  are_flats.every p stands.flat_is on_p,
  are_uprights.every q stands.upright_is on_q,
  record {
    passes = record { net = stands.cross.net; layers = differ stands.cross.layers; begins = meet.begins; ends = meet.ends };
    free = λ t from to. ((omega (arith, ints, meet.left), omega (arith, ints, meet.right)), λ over. obstructed t from to over);
  },
  stands.is ∙ site_is connect p q stands.cross.horizontal stands.cross.vertical meet,
)
  where
    p : Piece
    p = stands.flat

    q : Piece
    q = stands.upright

    meet : Meet (bar_of stands.flat) (bar_of stands.upright)
    meet = meet_from stands.flat stands.upright stands.cross.horizontal stands.cross.vertical stands.cross.flat_width stands.cross.upright_width

    on_p : IsOn connect X stands.flat
    on_p = (stands.cross.horizontal, low stands.cross.layers)
      where
        low : Joins connect stands.flat stands.upright → (stands.flat.layer ≡ connect.from) ⊎ (stands.flat.layer ≡ connect.to)
        low (inl w) = inl w.0
        low (inr w) = inr w.0

    on_q : IsOn connect Y stands.upright
    on_q = (stands.cross.vertical, high stands.cross.layers)
      where
        high : Joins connect stands.flat stands.upright → (stands.upright.layer ≡ connect.from) ⊎ (stands.upright.layer ≡ connect.to)
        high (inl w) = inr w.1
        high (inr w) = inl w.1

    differ : Joins connect stands.flat stands.upright → stands.flat.layer ≡ stands.upright.layer → ⊥
    differ (inl w) same = omega (arith, w.0, w.1, same, rising)
    differ (inr w) same = omega (arith, w.0, w.1, same, rising)

    obstructed : (t : ℤ) → (bar_of stands.upright).low ≤ℤ t → t <ℤ (bar_of stands.upright).high → IsOverCell (bar_of stands.flat) inner t → ⊥
    obstructed t from to over =
        let r = over.0 in
        let is = (is_inner r).0 over.1 in
        let in_from = over.2.1.0 in let in_to = over.2.1.1 in
        let area : ShareArea (bar_rect (bar_of stands.flat) (bar_of stands.upright)) r = (over_area (bar_of stands.flat) (bar_of stands.upright) r).1 (over.2.0, omega (arith, ints, clamps)) in
        let here = crossing_is stands.flat stands.upright stands.cross.horizontal stands.cross.vertical meet in
        stands.free (is.0, is.1, (is.2.0, subst (λ (x : Rect). ShareArea (crossing_of stands.flat stands.upright) x) (sym is.2.1) (subst (λ (x : Rect). ShareArea x r) (sym here) area)))

-- all bars along one axis lie on one layer
pub one_layer : (tech : Tech) (pieces : List Piece) (connect : Connect) (axis : Axis) (bars : List Bar) → ConnectKeeps tech connect → GoAlong tech connect pieces → AreBarsOf connect axis pieces bars → OnOneLayer bars
one_layer tech pieces connect axis bars keeps along are a b has_a has_b =
    let from_a = All-contains (λ (bar : Bar). Among (λ (p : Piece). IsOn connect axis p × (bar_of p ≡ bar)) pieces) bars a are.each has_a in
    let from_b = All-contains (λ (bar : Bar). Among (λ (p : Piece). IsOn connect axis p × (bar_of p ≡ bar)) pieces) bars b are.each has_b in
    sym (ap (λ (x : Bar). x.layer) from_a.2.1) ∙ same from_a.0 from_b.0 from_a.1 from_b.1 from_a.2.0 from_b.2.0 from_a.2.0.1 from_b.2.0.1 ∙ ap (λ (x : Bar). x.layer) from_b.2.1
  where
    same : (p q : Piece) → Contains pieces p → Contains pieces q → IsOn connect axis p → IsOn connect axis q → (p.layer ≡ connect.from) ⊎ (p.layer ≡ connect.to)
        → (q.layer ≡ connect.from) ⊎ (q.layer ≡ connect.to) → p.layer ≡ q.layer
    same p q has_p has_q on_p on_q (inl x) (inl y) = x ∙ sym y
    same p q has_p has_q on_p on_q (inr x) (inr y) = x ∙ sym y
    same p q has_p has_q on_p on_q (inl x) (inr y) =
        absurd (keeps.turned (sym (ap (direction tech) x) ∙ sym (along p has_p (inl x)) ∙ on_p.0 ∙ sym on_q.0 ∙ along q has_q (inr y) ∙ ap (direction tech) y))
    same p q has_p has_q on_p on_q (inr x) (inl y) =
        absurd (keeps.turned (sym (ap (direction tech) y) ∙ sym (along q has_q (inl y)) ∙ on_q.0 ∙ sym on_p.0 ∙ along p has_p (inr x) ∙ ap (direction tech) x))

-- the sites of bars are places where stacks stand
pub sites_added : (tech : Tech) (pieces : List Piece) (blocks : List Block) (connect : Connect) (inner : List Rect) (flats uprights : List Bar) (old new : List Site)
    → ((r : Rect) → Contains inner r ↔ IsInner tech connect blocks r) → connect.from < connect.to → AreBarsOf connect X pieces flats → AreBarsOf connect Y pieces uprights
    → AllAdded connect inner flats uprights (length flats) old new → SitesAdded (StandsBy tech pieces blocks connect) old new
sites_added tech pieces blocks connect inner flats uprights old new is_inner rising are_flats are_uprights added = record {
  kept = added.kept;
  longer = added.longer;
  each = λ k d within. came (get_or new k d) (added.each k d within);
  differ = added.differ;
}
  where
    IsBar : Axis → Bar → Type 0
    IsBar axis bar = Among (λ (p : Piece). IsOn connect axis p × (bar_of p ≡ bar)) pieces

    came : (s : Site) → Contains old s ⊎ ((i : ℕ) × (one : Bar) × (bar : Bar) × (i < length flats) × At flats i one × Contains uprights bar × Crosses inner one bar × (s ≡ bar_site connect one bar))
        → Contains old s ⊎ StandsBy tech pieces blocks connect s
    came s (inl has) = inl has
    came s (inr w) =
        let p = All-contains (IsBar X) flats w.1 are_flats.each (at_contains flats w.0 w.1 w.4) in
        let q = All-contains (IsBar Y) uprights w.2 are_uprights.each w.5 in
        let wide : w.2.low <ℤ w.2.high = All-contains (λ (b : Bar). b.low <ℤ b.high) uprights w.2 are_uprights.wide w.5 in
        let crosses : Crosses inner (bar_of p.0) (bar_of q.0) = subst (λ (b : Bar). Crosses inner b (bar_of q.0)) (sym p.2.1) (subst (λ (b : Bar). Crosses inner w.1 b) (sym q.2.1) w.6) in
        let stands = stands_from tech pieces blocks connect inner p.0 q.0 is_inner rising p.1 q.1 p.2.0 q.2.0 (subst (λ (b : Bar). b.low <ℤ b.high) (sym q.2.1) wide) crosses in
        let is : s ≡ bar_site connect (bar_of p.0) (bar_of q.0) = w.7 ∙ sym (ap (λ (b : Bar). bar_site connect b w.2) p.2.1) ∙ sym (ap (λ (b : Bar). bar_site connect (bar_of p.0) b) q.2.1) in
        inr (subst (StandsBy tech pieces blocks connect) (sym is) stands)

-- a call that succeeds or fails
pub ok_on : {T E : Type 0} (A B : Type 0) (r : Result T E) → (A → B) → OnOk r A → OnOk r B
ok_on A B (Ok x) f h = f h
ok_on A B (Err e) f h = tt

pub sites_every : (tech : Tech) (pieces : List Piece) (blocks : List Block) (connect : Connect) (inner : List Rect) (flats uprights : List Bar) (new : List Site)
    → ((r : Rect) → Contains inner r ↔ IsInner tech connect blocks r) → connect.from < connect.to → AreBarsOf connect X pieces flats → AreBarsOf connect Y pieces uprights
    → AreMany new ⊎ ((flat upright : Bar) → Contains flats flat → Contains uprights upright → Crosses inner flat upright → Contains new (bar_site connect flat upright))
    → AreMany new ⊎ ((s : Site) → StandsBy tech pieces blocks connect s → Contains new s)
sites_every tech pieces blocks connect inner flats uprights new is_inner rising are_flats are_uprights (inl many) = inl many
sites_every tech pieces blocks connect inner flats uprights new is_inner rising are_flats are_uprights (inr each) = inr (λ s stands.
    let w = stands_to tech pieces blocks connect inner flats uprights s is_inner rising are_flats are_uprights stands in
    subst (Contains new) (sym w.5) (each w.0 w.1 w.2 w.3 w.4))

-- one more connect, whose layers none that is used has
pub used_more : (connects : List Connect) (i : ℕ) (connect : Connect) (used : List Connect) → At connects i connect → AreUsedTo connects i used → (Among (HasLayers connect) used → ⊥)
    → AreUsedTo connects (i + 1) (used ++ connect ∷ [])
used_more connects i connect used at are new_one = record {
  each = All-push (IsUsed connects) used connect are.each (record {
    place = i;
    is = at;
    none = λ k other before at_k from to. new_one (let w = are.every k other before at_k in (w.0, w.1, (w.2.0 ∙ from, w.2.1 ∙ to)));
  });
  every = λ k other before at_k. by_place k other before at_k (cases_lt k i);
  apart = all_pairs_push (λ (a b : Connect). HasLayers a b → ⊥) used connect are.apart
      (λ k d within same. new_one (get_or used k d, at_contains used k (get_or used k d) (at_get used k d within), (sym same.0, sym same.1)));
}
  where
    by_place : (k : ℕ) (other : Connect) → k < i + 1 → At connects k other → (k < i) ⊎ (i ≤ k) → Among (HasLayers other) (used ++ connect ∷ [])
    by_place k other before at_k (inl earlier) = let w = are.every k other earlier at_k in (w.0, push_old used connect w.0 w.1, w.2)
    by_place k other before at_k (inr here) =
        let is : k ≡ i = omega arith in
        let same : connect ≡ other = sym (at_same connects i other connect (subst (λ n. At connects n other) is at_k) at) in
        (connect, push_new used connect, (ap (λ (c : Connect). c.from) same, ap (λ (c : Connect). c.to) same))

pub used_kept : (connects : List Connect) (i : ℕ) (connect : Connect) (used : List Connect) → At connects i connect → AreUsedTo connects i used → Among (HasLayers connect) used → AreUsedTo connects (i + 1) used
used_kept connects i connect used at are joined = record {
  each = are.each;
  every = λ k other before at_k. by_place k other before at_k (cases_lt k i);
  apart = are.apart;
}
  where
    by_place : (k : ℕ) (other : Connect) → k < i + 1 → At connects k other → (k < i) ⊎ (i ≤ k) → Among (HasLayers other) used
    by_place k other before at_k (inl earlier) = are.every k other earlier at_k
    by_place k other before at_k (inr here) =
        let is : k ≡ i = omega arith in
        subst (λ (c : Connect). Among (HasLayers c) used) (sym (at_same connects i other connect (subst (λ n. At connects n other) is at_k) at)) joined

-- each connect that is used is among them
pub used_has : (connects used : List Connect) (connect : Connect) → AreUsedTo connects (length connects) used → IsUsed connects connect → Contains used connect
used_has connects used connect are is =
    let w = are.every is.place connect is.is.0 is.is in
    let other = All-contains (IsUsed connects) used w.0 are.each w.1 in
    subst (Contains used) (same w.0 w.2 other (cases_lt is.place other.place) (cases_lt other.place is.place)) w.1
  where
    same : (other : Connect) → HasLayers connect other → (is_other : IsUsed connects other) → (is.place < is_other.place) ⊎ (is_other.place ≤ is.place)
        → (is_other.place < is.place) ⊎ (is.place ≤ is_other.place) → other ≡ connect
    same other layers is_other (inl before) _ = absurd (is_other.none is.place connect before is.is (sym layers.0) (sym layers.1))
    same other layers is_other (inr not_before) (inl behind) = absurd (is.none is_other.place other behind is_other.is layers.0 layers.1)
    same other layers is_other (inr not_before) (inr not_behind) =
        let e : is_other.place ≡ is.place = omega arith in
        at_same connects is.place other connect (subst (λ n. At connects n other) e is_other.is) is.is

pub standing_none : (tech : Tech) (pieces : List Piece) (blocks : List Block) (used : List Connect) → IsStandingTo tech pieces blocks used 0 []
standing_none tech pieces blocks used = record {
  each = λ k d within. absurd (omega arith);
  differ = λ i j d less within. absurd (omega arith);
  every = inr (λ k connect s before. absurd (omega arith));
}

pub standing_others : (tech : Tech) (pieces : List Piece) (connects used : List Connect) (blocks : List Block) (count : ℕ) (connect : Connect) (sites : List Site) → AreUsedTo connects (length connects) used
    → At used count connect → IsStandingTo tech pieces blocks used count sites → All (λ (s : Site). s.from ≡ connect.from → s.to ≡ connect.to → ⊥) sites
standing_others tech pieces connects used blocks count connect sites are at state k d within from to = differ (get_or sites k d) (state.each k d within) from to
  where
    differ : (s : Site) → ((j : ℕ) × (other : Connect) × (j < count) × At used j other × StandsBy tech pieces blocks other s) → s.from ≡ connect.from → s.to ≡ connect.to → ⊥
    differ s w s_from s_to =
        let other = w.1 in
        let first : get_or used w.0 connect ≡ other = get_or_default used w.0 connect other w.3.0 ∙ w.3.1 in
        let apart_at = are.apart w.0 count connect w.2 at.0 in
        let apart : HasLayers other connect → ⊥ = subst (λ (c : Connect). HasLayers other c → ⊥) at.1 (subst (λ (c : Connect). HasLayers c (get_or used count connect) → ⊥) first apart_at) in
        let is_from : s.from ≡ other.from = ap (λ (x : Site). x.from) w.4.is in
        let is_to : s.to ≡ other.to = ap (λ (x : Site). x.to) w.4.is in
        apart (sym s_from ∙ is_from, sym s_to ∙ is_to)

pub standing_more : (tech : Tech) (pieces : List Piece) (blocks : List Block) (used : List Connect) (count : ℕ) (connect : Connect) (sites new : List Site) → At used count connect
    → IsStandingTo tech pieces blocks used count sites → SitesAdded (StandsBy tech pieces blocks connect) sites new
    → (AreMany new ⊎ ((s : Site) → StandsBy tech pieces blocks connect s → Contains new s)) → IsStandingTo tech pieces blocks used (count + 1) new
standing_more tech pieces blocks used count connect sites new at state added every = record {
  each = λ k d within. came (get_or new k d) (added.each k d within);
  differ = added.differ;
  every = by_every state.every every;
}
  where
    Came : ℕ → Site → Type 0
    Came n s = (j : ℕ) × (other : Connect) × (j < n) × At used j other × StandsBy tech pieces blocks other s

    came : (s : Site) → Contains sites s ⊎ StandsBy tech pieces blocks connect s → Came (count + 1) s
    came s (inl has) = let w = All-contains (Came count) sites s state.each has in (w.0, w.1, omega (arith, w.2), w.3, w.4)
    came s (inr stands) = (count, connect, omega arith, at, stands)

    Each : ℕ → List Site → Type 0
    Each n list = (k : ℕ) (other : Connect) (s : Site) → k < n → At used k other → StandsBy tech pieces blocks other s → Contains list s

    by_every : AreMany sites ⊎ Each count sites → AreMany new ⊎ ((s : Site) → StandsBy tech pieces blocks connect s → Contains new s) → AreMany new ⊎ Each (count + 1) new
    by_every (inl many) here = inl (omega (arith, added.longer))
    by_every (inr each) (inl many) = inl many
    by_every (inr each) (inr here) = inr (λ k other s before at_k stands. by_place k other s before at_k stands (cases_lt k count))
      where
        by_place : (k : ℕ) (other : Connect) (s : Site) → k < count + 1 → At used k other → StandsBy tech pieces blocks other s → (k < count) ⊎ (count ≤ k) → Contains new s
        by_place k other s before at_k stands (inl low) = added.kept s (each k other s low at_k stands)
        by_place k other s before at_k stands (inr high) =
            let is : k ≡ count = omega arith in
            here s (subst (λ (c : Connect). StandsBy tech pieces blocks c s) (at_same used count other connect (subst (λ n. At used n other) is at_k) at) stands)

pub standing_all : (tech : Tech) (pieces : List Piece) (connects used : List Connect) (blocks : List Block) (count : ℕ) (sites : List Site) → AreUsedTo connects (length connects) used
    → (length used ≤ count) ⊎ AreMany sites → IsStandingTo tech pieces blocks used count sites → AreStanding (Stands tech pieces connects blocks) sites
standing_all tech pieces connects used blocks count sites are all state = record {
  each = λ k d within. stands (get_or sites k d) (state.each k d within);
  differ = state.differ;
  every = by_every all state.every;
}
  where
    stands : (s : Site) → ((j : ℕ) × (other : Connect) × (j < count) × At used j other × StandsBy tech pieces blocks other s) → Stands tech pieces connects blocks s
    stands s w = record {
      connect = w.1;
      flat = w.4.flat;
      upright = w.4.upright;
      used = All-contains (IsUsed connects) used w.1 are.each (at_contains used w.0 w.1 w.3);
      flat_is = w.4.flat_is;
      upright_is = w.4.upright_is;
      cross = w.4.cross;
      free = w.4.free;
      is = w.4.is;
    }

    by_every : (length used ≤ count) ⊎ AreMany sites → AreMany sites ⊎ ((k : ℕ) (connect : Connect) (s : Site) → k < count → At used k connect → StandsBy tech pieces blocks connect s → Contains sites s)
        → AreMany sites ⊎ ((s : Site) → Stands tech pieces connects blocks s → Contains sites s)
    by_every _ (inl many) = inl many
    by_every (inr many) (inr each) = inl many
    by_every (inl whole) (inr each) = inr (λ s is.
        let has = used_has connects used is.connect are is.used in
        each has.0 is.connect s (omega (arith, has.1)) (has.1, has.2) (record {
          flat = is.flat;
          upright = is.upright;
          flat_is = is.flat_is;
          upright_is = is.upright_is;
          cross = is.cross;
          free = is.free;
          is = is.is;
        }))

-- the crossing of two pieces is in order, and its edges lie within the limit
pub crossing_keeps : {connect : Connect} (p q : Piece) → Cross connect p q → PieceKeeps p → PieceKeeps q → IsInOrder (crossing_of p q) × HasCoordinates (crossing_of p q)
unfolding flat_rect upright_rect bar_rect
crossing_keeps p q cross p_keeps q_keeps =
    let meet = meet_from p q cross.horizontal cross.vertical cross.flat_width cross.upright_width in
    let is = crossing_is p q cross.horizontal cross.vertical meet in
    let at_p : HasCoordinates (flat_rect p) = subst HasCoordinates (flat_is p cross.horizontal) p_keeps.2 in
    let at_q : HasCoordinates (upright_rect q) = subst HasCoordinates (upright_is q cross.vertical) q_keeps.2 in
    let two_p : pos 2 ≤ℤ p.width = p_keeps.0.0 in
    let two_q : pos 2 ≤ℤ q.width = q_keeps.0.0 in
    let half_p = half_within p.width (omega (arith, ints)) in
    let half_q = half_within q.width (omega (arith, ints)) in
    let low_p = half_p.0 in
    let low_q = half_q.0 in (
      subst IsInOrder (sym is) (omega (arith, ints), omega (arith, ints)),
      subst HasCoordinates (sym is) (at_q.0, at_p.1, at_q.2, at_p.3),
    )
