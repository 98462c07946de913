-- The sites of pieces, in whatever order two connects of one place stand: they are the same but for their limits.
use Rattle.std.proofs.Common.{◌≡◌, ◌≢◌, ◌⊎◌, inl, inr, ℕ, zero, suc, ◌<◌, ◌≤◌, true, List, [], ◌∷◌, map, length, get_or, AllPairs, Contains, subst, refl, sym, ap, ◌∙◌, arith}
use Rattle.std.specs.Ordering.{is_lt}
use Rattle.std.proofs.lemmas.Bool.{cases_lt, cases_eq}
use Rattle.std.proofs.lemmas.List.{length-map, get_or_default}
use Rattle.std.proofs.lemmas.List.Elements.{All-contains}
use Rattle.lef_tech.specs.declared.tech.Tech.{Tech}
use Rattle.grid_pieces.specs.declared.piece.Block.{Block}
use Rattle.grid_pieces.specs.declared.piece.Piece.{Piece}
use Rattle.grid_pieces.specs.Laws.Amongst.{Among-map}
use Rattle.grid_stacks.specs.declared.connect.Connect.{Connect}
use Rattle.grid_stacks.specs.declared.connect.Site.{Site}
use Rattle.grid_stacks.specs.Crossing.{At, IsUsed, Joins, IsObstructed, Stands, site_of, crossing_of, limit_of}
use Rattle.grid_stacks.specs.Stacking.{AreSites, AreAllowed, MoreThan, most_stacks, site_order}
use Rattle.one_drawing.specs.Laws.Listed.{has_first, has_later, has_cases, same_list, no_longer, pairs_map}
use Rattle.one_drawing.specs.Laws.Ordered.{sites_one_way}

-- ## the connect that is used

-- two connects have the same layers
abbrev SameLayers : Connect → Connect → Type 0
SameLayers a b = (a.from ≡ b.from) × (a.to ≡ b.to)

same_layers : (a b : Connect) → SameLayers a b ⊎ (SameLayers a b → ⊥)
same_layers a b = both (cases_eq a.from b.from) (cases_eq a.to b.to)
  where
    both : (a.from ≡ b.from) ⊎ (a.from ≡ b.from → ⊥) → (a.to ≡ b.to) ⊎ (a.to ≡ b.to → ⊥) → SameLayers a b ⊎ (SameLayers a b → ⊥)
    both (inl p) (inl q) = inl (p, q)
    both (inr n) _ = inr (λ s. n s.0)
    both (inl p) (inr n) = inr (λ s. n s.1)

-- the first connect with the layers of one
abbrev Used : List Connect → Connect → Type 0
Used connects c = (d : Connect) × IsUsed connects d × Contains connects d × SameLayers d c

used_here : (y : Connect) (ys : List Connect) (c : Connect) → SameLayers y c → Used (y ∷ ys) c
used_here y ys c same = (y, record { place = 0; is = (omega arith, refl); none = λ k other less at p q. absurd (omega arith) }, has_first y ys, same)

used_later : (y : Connect) (ys : List Connect) (c : Connect) → (SameLayers y c → ⊥) → Used ys c → Used (y ∷ ys) c
used_later y ys c differs (d, used, has, same) = (d, record { place = suc used.place; is = (omega (arith, used.is.0), used.is.1); none = none }, has_later y ys d has, same)
  where
    none : (k : ℕ) (other : Connect) → k < suc used.place → At (y ∷ ys) k other → other.from ≡ d.from → other.to ≡ d.to → ⊥
    none zero other less at p q =
        let is : y ≡ other = at.1 in
        differs (ap (λ (z : Connect). z.from) is ∙ p ∙ same.0, ap (λ (z : Connect). z.to) is ∙ q ∙ same.1)
    none (suc k) other less at p q = used.none k other (omega arith) (omega (arith, at.0), at.1) p q

used_by : (y : Connect) (ys : List Connect) (c : Connect) → (Contains ys c → Used ys c) → SameLayers y c ⊎ (SameLayers y c → ⊥) → (c ≡ y) ⊎ Contains ys c → Used (y ∷ ys) c
used_by y ys c rest (inl same) _ = used_here y ys c same
used_by y ys c rest (inr differs) (inl is) = absurd (differs (ap (λ (z : Connect). z.from) (sym is), ap (λ (z : Connect). z.to) (sym is)))
used_by y ys c rest (inr differs) (inr has) = used_later y ys c differs (rest has)

used : (connects : List Connect) (c : Connect) → Contains connects c → Used connects c
used [] c has = absurd (omega (arith, has.1))
used (y ∷ ys) c has = used_by y ys c (used ys c) (same_layers y c) (has_cases y ys c has)

one_used : (connects : List Connect) (a b : Connect) → IsUsed connects a → IsUsed connects b → SameLayers a b → a ≡ b
one_used connects a b x y same = by_place (cases_lt x.place y.place) (cases_lt y.place x.place)
  where
    by_place : (x.place < y.place) ⊎ (y.place ≤ x.place) → (y.place < x.place) ⊎ (x.place ≤ y.place) → a ≡ b
    by_place (inl before) _ = absurd (y.none x.place a before x.is same.0 same.1)
    by_place (inr _) (inl before) = absurd (x.none y.place b before y.is (sym same.0) (sym same.1))
    by_place (inr low) (inr high) =
        let place : x.place ≡ y.place = omega arith in
        let at : At connects y.place a = subst (λ (n : ℕ). At connects n a) place x.is in
        sym at.1 ∙ get_or_default connects y.place a b at.0 ∙ y.is.1

-- ## sites without their limits

abbrev pub bare : Site → Site
bare site = record site { max_columns = 0; max_rows = 0 }

pub bare_same : (tech : Tech) (pieces : List Piece) (connects : List Connect) (blocks : List Block) (a b : Site) → Stands tech pieces connects blocks a → Stands tech pieces connects blocks b → bare a ≡ bare b → a ≡ b
bare_same tech pieces connects blocks a b x y same =
    let from : a.from ≡ b.from = ap (λ (s : Site). s.from) same in
    let to : a.to ≡ b.to = ap (λ (s : Site). s.to) same in
    let from_a : a.from ≡ x.connect.from = ap (λ (s : Site). s.from) x.is in
    let from_b : b.from ≡ y.connect.from = ap (λ (s : Site). s.from) y.is in
    let to_a : a.to ≡ x.connect.to = ap (λ (s : Site). s.to) x.is in
    let to_b : b.to ≡ y.connect.to = ap (λ (s : Site). s.to) y.is in
    let connect : x.connect ≡ y.connect = one_used connects x.connect y.connect x.used y.used (sym from_a ∙ from ∙ from_b, sym to_a ∙ to ∙ to_b) in
    let columns : a.max_columns ≡ b.max_columns =
    ap (λ (s : Site). s.max_columns) x.is ∙ ap (λ (c : Connect). limit_of c.max_columns) connect ∙ sym (ap (λ (s : Site). s.max_columns) y.is) in
    let rows : a.max_rows ≡ b.max_rows = ap (λ (s : Site). s.max_rows) x.is ∙ ap (λ (c : Connect). limit_of c.max_rows) connect ∙ sym (ap (λ (s : Site). s.max_rows) y.is) in
    λ i. record {
      net = (same i).net;
      x = (same i).x;
      y = (same i).y;
      from = (same i).from;
      to = (same i).to;
      crossing = (same i).crossing;
      max_columns = columns i;
      max_rows = rows i;
    }

-- ## the same sites under other connects

module _ (tech : Tech) (pieces : List Piece) (p q : List Connect) (moves : (c : Connect) → Contains p c → Contains q c) (blocks : List Block) where
  -- the same site, with the limits of another connect of the same layers
  site_moves : (a : Site) → Stands tech pieces p blocks a → (b : Site) × Stands tech pieces q blocks b × (bare b ≡ bare a)
  site_moves a x =
      let d = used q x.connect (moves x.connect (x.used.place, x.used.is.0, x.used.is.1)) in
      let from : d.0.from ≡ x.connect.from = d.3.0 in
      let to : d.0.to ≡ x.connect.to = d.3.1 in
      let layers : Joins d.0 x.flat x.upright =
      subst (λ (n : ℕ). ((x.flat.layer ≡ n) × (x.upright.layer ≡ d.0.to)) ⊎ ((x.flat.layer ≡ d.0.to) × (x.upright.layer ≡ n))) (sym from)
      (subst (λ (n : ℕ). ((x.flat.layer ≡ x.connect.from) × (x.upright.layer ≡ n)) ⊎ ((x.flat.layer ≡ n) × (x.upright.layer ≡ x.connect.from))) (sym to) x.cross.layers) in
      let free : IsObstructed tech d.0 blocks (crossing_of x.flat x.upright) → ⊥ =
      subst (λ (n : ℕ). IsObstructed tech (record d.0 { from = n }) blocks (crossing_of x.flat x.upright) → ⊥) (sym from)
      (subst (λ (n : ℕ). IsObstructed tech (record d.0 { from = x.connect.from; to = n }) blocks (crossing_of x.flat x.upright) → ⊥) (sym to) x.free) in (
        site_of d.0 x.flat x.upright,
        record {
          connect = d.0;
          flat = x.flat;
          upright = x.upright;
          used = d.1;
          flat_is = x.flat_is;
          upright_is = x.upright_is;
          cross = record {
            horizontal = x.cross.horizontal;
            vertical = x.cross.vertical;
            net = x.cross.net;
            layers = layers;
            flat_width = x.cross.flat_width;
            upright_width = x.cross.upright_width;
          };
          free = free;
          is = refl;
        },
        (λ i. record (bare (site_of x.connect x.flat x.upright)) { from = from i; to = to i }) ∙ sym (ap bare x.is),
      )

  pub has_bare : (xs ys : List Site) → AreSites (Stands tech pieces p blocks) xs → AreSites (Stands tech pieces q blocks) ys → (z : Site) → Contains (map bare xs) z → Contains (map bare ys) z
  has_bare xs ys x y z has =
      let a = (Among-map bare (λ (s : Site). s ≡ z) xs).0 (z, has, refl) in
      let b = site_moves a.0 (All-contains (Stands tech pieces p blocks) xs a.0 x.each a.1) in
      let there = (Among-map bare (λ (s : Site). s ≡ z) ys).1 (b.0, y.every b.0 b.1, b.2 ∙ a.2) in
      subst (Contains (map bare ys)) there.2 there.1

  -- Sites that are too many are too many whatever the limits.
  pub few_moves : (ys : List Site) → AreAllowed (Stands tech pieces q blocks) pieces ys → MoreThan most_stacks (Stands tech pieces p blocks) → ⊥
  few_moves ys allowed more =
      let differ : AllPairs (λ (a b : Site). bare a ≢ bare b) more.some = λ i j d less within same.
      more.differ i j d less within
      (bare_same tech pieces p blocks (get_or more.some i d) (get_or more.some j d) (more.each i d (omega arith)) (more.each j d within) same) in
      let le : length (map bare more.some) ≤ length (map bare ys) = no_longer (map bare more.some) (map bare ys) (pairs_map bare (λ (a b : Site). a ≢ b) more.some differ)
      (λ z has. there z ((Among-map bare (λ (s : Site). s ≡ z) more.some).0 (z, has, refl))) in
      let few : length ys ≤ most_stacks = allowed.few in
      let above : most_stacks < length more.some = more.more in
      absurd (omega (arith, length-map more.some bare, length-map ys bare))
    where
      there : (z : Site) → ((a : Site) × Contains more.some a × (bare a ≡ z)) → Contains (map bare ys) z
      there z a =
          let b = site_moves a.0 (All-contains (Stands tech pieces p blocks) more.some a.0 more.each a.1) in
          let has = (Among-map bare (λ (s : Site). s ≡ z) ys).1 (b.0, allowed.are.every b.0 b.1, b.2 ∙ a.2) in
          subst (Contains (map bare ys)) has.2 has.1

-- Each site has the same place under both.
pub bares_same : (tech : Tech) (pieces : List Piece) (p q : List Connect) (there : (c : Connect) → Contains p c → Contains q c) (back : (c : Connect) → Contains q c → Contains p c) (blocks : List Block)
    (xs ys : List Site) → AreSites (Stands tech pieces p blocks) xs → AreSites (Stands tech pieces q blocks) ys → map bare xs ≡ map bare ys
bares_same tech pieces p q there back blocks xs ys x y =
    same_list (λ (a b : Site). is_lt (site_order a b) ≡ true) sites_one_way (map bare xs) (map bare ys) (pairs_map bare (λ (a b : Site). is_lt (site_order a b) ≡ true) xs x.in_order)
    (pairs_map bare (λ (a b : Site). is_lt (site_order a b) ≡ true) ys y.in_order) (has_bare tech pieces p q there blocks xs ys x y) (has_bare tech pieces q p back blocks ys xs y x)

-- the limits of a site are stated ones, or those of a connect without
pub SomeLimits : Connect → Type 0
SomeLimits c = (1 ≤ limit_of c.max_columns) × (1 ≤ limit_of c.max_rows)
