-- The stacks of sites.
use Rattle.std.proofs.Common.{◌≡◌, ℕ, ◌+◌, ◌<◌, ◌≤◌, ◌⊎◌, inl, inr, ◌≢◌, true, false, List, [], ◌∷◌, ◌++◌, All, AllPairs, Contains, length, length-append, get_or, Result, MatchResult, subst, sym, ap, ◌∙◌, refl, arith}
use Rattle.std.specs.Result.{IsErrAnd}
use Rattle.std.specs.declared.result.Result.TheVariants.{Ok, Err}
use Rattle.std.specs.declared.cmp.Ordering.{Ordering}
use Rattle.std.specs.declared.cmp.Ordering.TheVariants.{Less, Equal, Greater}
use Rattle.std.specs.Ordering.{nat_cmp, int_cmp, ordering_then, is_lt, is_gt}
use Rattle.std.specs.List.Sorted.{IsPermutation}
use Rattle.std.proofs.lemmas.List.Elements.{All-contains}
use Rattle.std.proofs.lemmas.List.Sorted.{length_permutation, All-permutation, Contains-permutation}
use Rattle.std.proofs.lemmas.Bool.{cases_lt, false≢true}
use Rattle.geom_rect.specs.Rect.{IsInOrder, HasCoordinates}
use Rattle.grid_stacks.specs.declared.connect.Connect.{Connect}
use Rattle.grid_pieces.specs.declared.piece.Piece.{Piece}
use Rattle.grid_pieces.specs.declared.piece.Block.{Block}
use Rattle.grid_pieces.specs.Limits.{PieceKeeps}
use Rattle.grid_pieces.specs.Touch.{rect_order}
use Rattle.list_laws.specs.Laws.Permuted.{apart_permuted}
use Rattle.grid_stacks.proofs.Bridge.{crossing_keeps}
use Rattle.grid_pieces.specs.Laws.Orders.{then_equal, nat_equal, int_equal}
use Rattle.std.proofs.lemmas.List.{get_or_default, get_or_append_left}
use Rattle.std.proofs.Math.Seq.{get_or-append_seam}
use Rattle.lef_tech.specs.declared.tech.Tech.{Tech}
use Rattle.grid_stacks.specs.declared.connect.Site.{Site}
use Rattle.grid_pieces.specs.declared.piece.StackAt.{StackAt}
use Rattle.grid_pieces.specs.declared.error.DrawError.{DrawError}
use Rattle.grid_pieces.specs.declared.error.DrawError.TheVariants.{TooMany, NoSheet, Stack, Want}
use Rattle.grid_stacks.specs.Crossing.{At, IsUsed, Stands, limit_of}
use Rattle.grid_stacks.specs.Stacking.{IsStackAt, AreStacksAt, AreStacksTo, IsOneRefused, IsSiteRefused, IsFirstRefused, ConnectKeeps, SiteKeeps, AreAllowed, AreRefused, HasSheet, most_pieces, most_stacks, place_order, site_order, AreMany, AreStanding}
use Rattle.grid_stacks.proofs.RunSteps.{at_get, at_same, at_contains}

pub passed_on : {T E : Type 0} (P : T → Type 0) (Q : E → Type 0) (r : Result T E) (e : E) → IsErrAnd r (λ x. x ≡ e) → Q e → MatchResult r P Q
passed_on P Q (Ok x) e is h = absurd is
passed_on P Q (Err x) e is h = subst Q (sym is) h

pub stacks_more : (tech : Tech) (units : ℕ) (sites : List Site) (i : ℕ) (d : Site) (stacks : List StackAt) (at : StackAt) → i < length sites → AreStacksTo tech units sites i stacks
    → IsStackAt tech units (get_or sites i d) at → AreStacksTo tech units sites (i + 1) (stacks ++ at ∷ [])
stacks_more tech units sites i d stacks at within are is = record {
  within = omega arith;
  as_many = omega (arith, length-append stacks (at ∷ []), are.as_many);
  each = λ k site other before. by_place k site other before (cases_lt k i);
}
  where
    by_place : (k : ℕ) (site : Site) (other : StackAt) → k < i + 1 → (k < i) ⊎ (i ≤ k) → IsStackAt tech units (get_or sites k site) (get_or (stacks ++ at ∷ []) k other)
    by_place k site other before (inl earlier) =
        subst (IsStackAt tech units (get_or sites k site)) (sym (get_or_append_left stacks (at ∷ []) other k (omega (arith, are.as_many)))) (are.each k site other earlier)
    by_place k site other before (inr here) =
        let e : i ≡ k = omega arith in
        let last : get_or (stacks ++ at ∷ []) k other ≡ at = subst (λ n. get_or (stacks ++ at ∷ []) n other ≡ at) (are.as_many ∙ e) (get_or-append_seam stacks at [] other) in
        subst (IsStackAt tech units (get_or sites k site)) (sym last)
        (subst (λ n. IsStackAt tech units (get_or sites n site) at) e (subst (λ (s : Site). IsStackAt tech units s at) (get_or_default sites i d site within) is))

pub site_refused : (tech : Tech) (units : ℕ) (sites : List Site) (i : ℕ) (d : Site) (nothing : StackAt) (stacks : List StackAt) (error : DrawError) → i < length sites → AreStacksTo tech units sites i stacks
    → IsOneRefused tech units (get_or sites i d) error → IsSiteRefused tech units sites error
site_refused tech units sites i d nothing stacks (TooMany counted) within are refused = refused
site_refused tech units sites i d nothing stacks (NoSheet layer) within are refused = refused
site_refused tech units sites i d nothing stacks Want within are refused = tt
site_refused tech units sites i d nothing stacks (Stack error x y) within are refused = record {
  place = i;
  site = get_or sites i d;
  is = at_get sites i d within;
  stacks = λ k other before at. (get_or stacks k nothing, subst (λ (s : Site). IsStackAt tech units s (get_or stacks k nothing)) at.1 (are.each k other nothing before));
  refused = refused.0;
  known = refused.1;
  at_x = refused.2;
  at_y = refused.3;
}
site_refused tech units sites i d nothing stacks other within are refused = absurd refused

-- two connects that are used and have the same layers are one
used_same : (connects : List Connect) (a b : Connect) → IsUsed connects a → IsUsed connects b → a.from ≡ b.from → a.to ≡ b.to → a ≡ b
used_same connects a b is_a is_b from to = by_place (cases_lt is_a.place is_b.place) (cases_lt is_b.place is_a.place)
  where
    by_place : (is_a.place < is_b.place) ⊎ (is_b.place ≤ is_a.place) → (is_b.place < is_a.place) ⊎ (is_a.place ≤ is_b.place) → a ≡ b
    by_place (inl before) _ = absurd (is_b.none is_a.place a before is_a.is from to)
    by_place (inr not_before) (inl behind) = absurd (is_a.none is_b.place b behind is_b.is (sym from) (sym to))
    by_place (inr not_before) (inr not_behind) =
        let e : is_a.place ≡ is_b.place = omega arith in
        at_same connects is_b.place a b (subst (λ n. At connects n a) e is_a.is) is_b.is

-- two sites at one place are one
pub site_alike : (tech : Tech) (pieces : List Piece) (connects : List Connect) (blocks : List Block) (a b : Site) → Stands tech pieces connects blocks a → Stands tech pieces connects blocks b
    → site_order a b ≡ Equal → a ≡ b
site_alike tech pieces connects blocks a b is_a is_b alike =
    let both = then_equal (place_order a b) (rect_order a.crossing b.crossing) alike in
    let four = then_equal _ (nat_cmp a.to b.to) both.0 in
    let three = then_equal _ (nat_cmp a.from b.from) four.0 in
    let two = then_equal _ (int_cmp a.y b.y) three.0 in
    let one = then_equal (nat_cmp a.net b.net) (int_cmp a.x b.x) two.0 in
    let r3 = then_equal _ (int_cmp a.crossing.y2 b.crossing.y2) both.1 in
    let r2 = then_equal _ (int_cmp a.crossing.x2 b.crossing.x2) r3.0 in
    let r1 = then_equal (int_cmp a.crossing.x1 b.crossing.x1) (int_cmp a.crossing.y1 b.crossing.y1) r2.0 in
    let net : a.net ≡ b.net = nat_equal a.net b.net one.0 in
    let x : a.x ≡ b.x = int_equal a.x b.x one.1 in
    let y : a.y ≡ b.y = int_equal a.y b.y two.1 in
    let from : a.from ≡ b.from = nat_equal a.from b.from three.1 in
    let to : a.to ≡ b.to = nat_equal a.to b.to four.1 in
    let x1 : a.crossing.x1 ≡ b.crossing.x1 = int_equal a.crossing.x1 b.crossing.x1 r1.0 in
    let y1 : a.crossing.y1 ≡ b.crossing.y1 = int_equal a.crossing.y1 b.crossing.y1 r1.1 in
    let x2 : a.crossing.x2 ≡ b.crossing.x2 = int_equal a.crossing.x2 b.crossing.x2 r2.1 in
    let y2 : a.crossing.y2 ≡ b.crossing.y2 = int_equal a.crossing.y2 b.crossing.y2 r3.1 in
    let from_a : a.from ≡ is_a.connect.from = ap (λ (s : Site). s.from) is_a.is in
    let from_b : b.from ≡ is_b.connect.from = ap (λ (s : Site). s.from) is_b.is in
    let to_a : a.to ≡ is_a.connect.to = ap (λ (s : Site). s.to) is_a.is in
    let to_b : b.to ≡ is_b.connect.to = ap (λ (s : Site). s.to) is_b.is in
    let connect : is_a.connect ≡ is_b.connect = used_same connects is_a.connect is_b.connect is_a.used is_b.used (sym from_a ∙ from ∙ from_b) (sym to_a ∙ to ∙ to_b) in
    let columns : a.max_columns ≡ b.max_columns =
    ap (λ (s : Site). s.max_columns) is_a.is ∙ ap (λ (c : Connect). limit_of c.max_columns) connect ∙ sym (ap (λ (s : Site). s.max_columns) is_b.is) in
    let rows : a.max_rows ≡ b.max_rows = ap (λ (s : Site). s.max_rows) is_a.is ∙ ap (λ (c : Connect). limit_of c.max_rows) connect ∙ sym (ap (λ (s : Site). s.max_rows) is_b.is) in
    λ i. record {
      net = net i;
      x = x i;
      y = y i;
      from = from i;
      to = to i;
      crossing = record { x1 = x1 i; y1 = y1 i; x2 = x2 i; y2 = y2 i };
      max_columns = columns i;
      max_rows = rows i;
    }

below : (o : Ordering) → is_gt o ≡ false → (o ≡ Equal → ⊥) → is_lt o ≡ true
below Less low differ = refl
below Equal low differ = absurd (differ refl)
below Greater low differ = absurd (false≢true (sym low))

differ_back : (a b : Site) → a ≢ b → b ≢ a
differ_back a b h same = h (sym same)

-- the sites in order, where they are not too many
pub allowed : (tech : Tech) (pieces : List Piece) (connects : List Connect) (blocks : List Block) (old new : List Site) → length pieces ≤ most_pieces → length old ≤ most_stacks
    → AreStanding (Stands tech pieces connects blocks) old → IsPermutation old new → AllPairs (λ (a b : Site). is_gt (site_order a b) ≡ false) new
    → AreAllowed (Stands tech pieces connects blocks) pieces new
allowed tech pieces connects blocks old new few_pieces few are moved sorted = record {
  few_pieces = few_pieces;
  are = record {
    each = each;
    every = λ s is. Contains-permutation old new s moved (by_every are.every s is);
    in_order = λ i j d less within.
        below (site_order (get_or new i d) (get_or new j d)) (sorted i j d less within)
        (λ alike. differ i j d less within (site_alike tech pieces connects blocks (get_or new i d) (get_or new j d) (each i d (omega arith)) (each j d within) alike));
  };
  few = omega (arith, length_permutation old new moved);
}
  where
    each : All (Stands tech pieces connects blocks) new
    each = All-permutation (Stands tech pieces connects blocks) old new moved are.each

    differ : AllPairs (λ (a b : Site). a ≢ b) new
    differ = apart_permuted (λ (a b : Site). a ≢ b) differ_back old new moved are.differ

    by_every : AreMany old ⊎ ((s : Site) → Stands tech pieces connects blocks s → Contains old s) → (s : Site) → Stands tech pieces connects blocks s → Contains old s
    by_every (inl many) = absurd (omega arith)
    by_every (inr each_one) = each_one

-- a stack may be asked for at each site
pub site_keeps : (tech : Tech) (pieces : List Piece) (connects : List Connect) (blocks : List Block) (site : Site) → All (ConnectKeeps tech) connects → All PieceKeeps pieces
    → Stands tech pieces connects blocks site → SiteKeeps tech site
site_keeps tech pieces connects blocks site connects_keep pieces_keep stands =
    let connect = stands.connect in
    let keeps = All-contains (ConnectKeeps tech) connects connect connects_keep (at_contains connects stands.used.place connect stands.used.is) in
    let p = stands.flat in
    let q = stands.upright in
    let p_keeps = All-contains PieceKeeps pieces p pieces_keep stands.flat_is in
    let q_keeps = All-contains PieceKeeps pieces q pieces_keep stands.upright_is in
    let from : site.from ≡ connect.from = ap (λ (s : Site). s.from) stands.is in
    let to : site.to ≡ connect.to = ap (λ (s : Site). s.to) stands.is in
    let rising : connect.from < connect.to = keeps.rising in
    let layers = keeps.layers in
    let edges = crossing_keeps p q stands.cross p_keeps q_keeps in
    record {
      rising = omega (arith, from, to, rising);
      layers = omega (arith, to, layers);
      upright = subst IsInOrder (sym (ap (λ (s : Site). s.crossing) stands.is)) edges.0;
      edges = subst HasCoordinates (sym (ap (λ (s : Site). s.crossing) stands.is)) edges.1;
    }

pub all_keep : (tech : Tech) (pieces : List Piece) (connects : List Connect) (blocks : List Block) (sites : List Site) → All (ConnectKeeps tech) connects → All PieceKeeps pieces
    → AreAllowed (Stands tech pieces connects blocks) pieces sites → All (SiteKeeps tech) sites
all_keep tech pieces connects blocks sites connects_keep pieces_keep are k d within =
    site_keeps tech pieces connects blocks (get_or sites k d) connects_keep pieces_keep (are.are.each k d within)

-- the stacks of all sites, or the first that is refused
pub answered : {T : Type 0} (A B : T → Type 0) (P : Site → Type 0) (tech : Tech) (units : ℕ) (pieces : List Piece) (sites : List Site) (answer : Result T DrawError) → AreAllowed P pieces sites
    → All (HasSheet tech) pieces → ((x : T) → A x → B x) → MatchResult answer A (IsSiteRefused tech units sites) → MatchResult answer B (AreRefused P tech units pieces)
answered A B P tech units pieces sites (Ok stacks) are sheets f h = f stacks h
answered A B P tech units pieces sites (Err (TooMany counted)) are sheets f h = absurd h
answered A B P tech units pieces sites (Err (NoSheet layer)) are sheets f h = absurd h
answered A B P tech units pieces sites (Err (Stack error x y)) are sheets f h = (sites, are, sheets, h)
answered A B P tech units pieces sites (Err Want) are sheets f h = tt
answered A B P tech units pieces sites (Err other) are sheets f h = absurd h
