-- How far the metal of vias goes, and the smallest rectangle that holds it.
use Rattle.std.proofs.Common.{◌≡◌, ℕ, ◌+◌, ◌*◌, ◌<◌, ◌≤◌, ◌^◌, ◌⊎◌, inl, inr, ℤ, pos, negsuc, ◌+ℤ◌, ◌-ℤ◌, ◌*ℤ◌, ◌≤ℤ◌, ◌<ℤ◌, List, [], ◌∷◌, ◌++◌, All, Contains, length, get_or, take, refl, sym, ◌∙◌, ap, subst, arith}
use Rattle.std.proofs.Math.Nat.{mul-le-mul_left}
use Rattle.std.proofs.lemmas.Int.{ints}
use Rattle.std.proofs.lemmas.List.{take_more}
use Rattle.std.proofs.lemmas.List.Elements.{All-more, All-contains, Contains-push, Contains-append_left, Contains-get_or}
use Rattle.geom_rect.specs.declared.rect.Rect.{Rect}
use Rattle.wire_chains.specs.declared.via.ViaAt.{ViaAt}
use Rattle.wire_names.specs.Keeping.{KeepsNumbers}
use Rattle.wire_names.specs.declared.record.NamedVia.{NamedVia}
use Rattle.wire_stacks.specs.Crossing.{IsCrossing, HoldsVia, IsHeldBy, row_length, metal_length}
use Rattle.wire_stacks.specs.Vias.{via_at}
use Rattle.wire_stacks.specs.inside.Halves.{around, ReachesX, ReachesY, IsHalf, IsHalfTo, IsLeastHalf}

front_of : {X : Type 0} (P : X → Type 0) (xs : List X) (x : X) → All P (xs ++ x ∷ []) → All P xs
front_of P xs x all k d low = All-contains P (xs ++ x ∷ []) (get_or xs k d) all (Contains-append_left xs (x ∷ []) (get_or xs k d) (Contains-get_or xs k d low))

-- Nothing is reached from 0 on.
pub half_none : (R : NamedVia → ℤ → Type 0) (vias : List NamedVia) (chain : List ViaAt) → IsHalfTo R vias (take 0 chain) (pos 0)
half_none R vias chain = record {
  reaches = λ more le k d within. absurd (omega arith);
  least = λ other from all. from;
  some = omega (arith, ints);
  few = omega (arith, ints);
}

-- One more via.
pub half_more : (R : NamedVia → ℤ → Type 0) (vias : List NamedVia) (chain : List ViaAt) (i : ℕ) (via : ViaAt) (half one most : ℤ) → i < length chain
    → via ≡ get_or chain i via → IsHalfTo R vias (take i chain) half → IsHalf R (via_at vias via.via) one
    → half ≤ℤ most → one ≤ℤ most → (most ≡ half) ⊎ (most ≡ one) → IsHalfTo R vias (take (i + 1) chain) most
half_more R vias chain i via half one most within is to half_is high_half high_one either = record {
  reaches = λ more le. All-more (λ (v : ViaAt). R (via_at vias v.via) more) chain i via within (to.reaches more (omega (arith, ints)))
      (subst (λ (v : ViaAt). R (via_at vias v.via) more) is (half_is.reaches more (omega (arith, ints))));
  least = λ other from all. least other from (front other all) (last other all) either;
  some = omega (arith, ints, to.some);
  few = few either;
}
  where
    whole : (other : ℤ) → All (λ (v : ViaAt). R (via_at vias v.via) other) (take (i + 1) chain)
        → All (λ (v : ViaAt). R (via_at vias v.via) other) (take i chain ++ via ∷ [])
    whole other all = subst (All (λ (v : ViaAt). R (via_at vias v.via) other)) (take_more chain i via within ∙ ap (λ (v : ViaAt). take i chain ++ v ∷ []) (sym is)) all

    front : (other : ℤ) → All (λ (v : ViaAt). R (via_at vias v.via) other) (take (i + 1) chain) → All (λ (v : ViaAt). R (via_at vias v.via) other) (take i chain)
    front other all = front_of (λ (v : ViaAt). R (via_at vias v.via) other) (take i chain) via (whole other all)

    last : (other : ℤ) → All (λ (v : ViaAt). R (via_at vias v.via) other) (take (i + 1) chain) → R (via_at vias via.via) other
    last other all = All-contains (λ (v : ViaAt). R (via_at vias v.via) other) (take i chain ++ via ∷ []) via (whole other all) (Contains-push (take i chain) via)

    least : (other : ℤ) → pos 0 ≤ℤ other → All (λ (v : ViaAt). R (via_at vias v.via) other) (take i chain) → R (via_at vias via.via) other
        → (most ≡ half) ⊎ (most ≡ one) → most ≤ℤ other
    least other from all at (inl same) = subst (λ z. z ≤ℤ other) (sym same) (to.least other from all)
    least other from all at (inr same) = subst (λ z. z ≤ℤ other) (sym same) (half_is.least other at)

    few : (most ≡ half) ⊎ (most ≡ one) → most ≤ℤ pos (2 ^ 40)
    few (inl same) = subst (λ z. z ≤ℤ pos (2 ^ 40)) (sym same) to.few
    few (inr same) = subst (λ z. z ≤ℤ pos (2 ^ 40)) (sym same) half_is.few

-- After all of them, of which there is one: what reaches for it is not below 0.
pub half_all : (R : NamedVia → ℤ → Type 0) (vias : List NamedVia) (chain : List ViaAt) (half : ℤ) → 0 < length chain
    → ((via : ViaAt) (other : ℤ) → Contains chain via → R (via_at vias via.via) other → pos 0 ≤ℤ other)
    → IsHalfTo R vias chain half → IsLeastHalf R vias chain half
half_all R vias chain half some positive to = record {
  reaches = to.reaches half (omega (arith, ints));
  least = λ other all. to.least other (from chain some other positive all) all;
  some = to.some;
  few = to.few;
}
  where
    from : (c : List ViaAt) → 0 < length c → (other : ℤ) → ((via : ViaAt) (o : ℤ) → Contains c via → R (via_at vias via.via) o → pos 0 ≤ℤ o)
        → All (λ (v : ViaAt). R (via_at vias v.via) other) c → pos 0 ≤ℤ other
    from [] none other pos_of all = absurd (omega arith)
    from (x ∷ xs) some other pos_of all = pos_of x other (0, omega arith, refl) (all 0 x (omega arith))

-- A rectangle around a place holds what its halves reach, and no smaller one does.
pub crossing_is : (vias : List NamedVia) (chain : List ViaAt) (x y wide high : ℤ) → IsLeastHalf ReachesX vias chain wide
    → IsLeastHalf ReachesY vias chain high → IsCrossing vias chain x y (around x y wide high)
crossing_is vias chain x y wide high across up = record {
  holds = λ k d low. holds_one (across.reaches k d low) (up.reaches k d low);
  smallest = λ other all. record {
    x1 = let left = across.least (x -ℤ other.x1) (λ k d low. left_one (all k d low)) in omega (arith, ints);
    y1 = let down = up.least (y -ℤ other.y1) (λ k d low. down_one (all k d low)) in omega (arith, ints);
    x2 = let right = across.least (other.x2 -ℤ x) (λ k d low. right_one (all k d low)) in omega (arith, ints);
    y2 = let above = up.least (other.y2 -ℤ y) (λ k d low. up_one (all k d low)) in omega (arith, ints);
  };
}
  where
    between : (low high middle long half : ℤ) → low ≡ middle -ℤ half → high ≡ middle +ℤ half → long ≤ℤ (half +ℤ half) → IsHeldBy low high middle long
    between low high middle long half l h le = record { begins = omega (arith, ints); ends = omega (arith, ints) }

    holds_one : {via : NamedVia} → ReachesX via wide → ReachesY via high → HoldsVia x y (around x y wide high) via
    holds_one rx ry = record {
      lower_x = between _ _ x _ wide refl refl rx.lower;
      upper_x = between _ _ x _ wide refl refl rx.upper;
      lower_y = between _ _ y _ high refl refl ry.lower;
      upper_y = between _ _ y _ high refl refl ry.upper;
    }

    before : (low high middle long : ℤ) → IsHeldBy low high middle long → long ≤ℤ ((middle -ℤ low) +ℤ (middle -ℤ low))
    before low high middle long held = let begins = held.begins in omega (arith, ints)

    behind : (low high middle long : ℤ) → IsHeldBy low high middle long → long ≤ℤ ((high -ℤ middle) +ℤ (high -ℤ middle))
    behind low high middle long held = let ends = held.ends in omega (arith, ints)

    left_one : {other : Rect} {via : NamedVia} → HoldsVia x y other via → ReachesX via (x -ℤ other.x1)
    left_one held = record { lower = before _ _ x _ held.lower_x; upper = before _ _ x _ held.upper_x }

    right_one : {other : Rect} {via : NamedVia} → HoldsVia x y other via → ReachesX via (other.x2 -ℤ x)
    right_one held = record { lower = behind _ _ x _ held.lower_x; upper = behind _ _ x _ held.upper_x }

    down_one : {other : Rect} {via : NamedVia} → HoldsVia x y other via → ReachesY via (y -ℤ other.y1)
    down_one held = record { lower = before _ _ y _ held.lower_y; upper = before _ _ y _ held.upper_y }

    up_one : {other : Rect} {via : NamedVia} → HoldsVia x y other via → ReachesY via (other.y2 -ℤ y)
    up_one held = record { lower = behind _ _ y _ held.lower_y; upper = behind _ _ y _ held.upper_y }

-- ## one via

nat_least : (c p : ℕ) → 1 ≤ c → p ≤ c * p
nat_least c p some = omega (arith, mul-le-mul_left p some)

-- So many pitches are as long as one.
pub product_least : (c : ℕ) (z : ℤ) → 1 ≤ c → pos 1 ≤ℤ z → z ≤ℤ (pos c *ℤ z)
product_least c (pos p) some more = let least = nat_least c p some in omega (arith, ints)
product_least c (negsuc p) some more = absurd (omega (arith, ints))

-- The metal of a via has a length.
metal_some : (count : ℕ) (cut pitch enclosure : ℤ) → 1 ≤ count → pos 0 <ℤ cut → pos 1 ≤ℤ pitch → pos 0 ≤ℤ enclosure
    → pos 1 ≤ℤ metal_length count cut pitch enclosure
metal_some count cut pitch enclosure some cut_some pitch_some not_less =
    let least = product_least count pitch some pitch_some in omega (arith, ints)

pub positive_x : (via : NamedVia) (other : ℤ) → KeepsNumbers via → ReachesX via other → pos 0 ≤ℤ other
positive_x via other keeps reaches =
    let some = metal_some via.columns via.cut_x via.pitch_x via.lower_x keeps.some_columns keeps.cut_x.0 keeps.some_x keeps.lower_x.0 in
    positive (metal_length via.columns via.cut_x via.pitch_x via.lower_x) other some reaches.lower
  where
    positive : (long half : ℤ) → pos 1 ≤ℤ long → long ≤ℤ (half +ℤ half) → pos 0 ≤ℤ half
    positive long half some le = omega (arith, ints)

pub positive_y : (via : NamedVia) (other : ℤ) → KeepsNumbers via → ReachesY via other → pos 0 ≤ℤ other
positive_y via other keeps reaches =
    let some = metal_some via.rows via.cut_y via.pitch_y via.lower_y keeps.some_rows keeps.cut_y.0 keeps.some_y keeps.lower_y.0 in
    positive (metal_length via.rows via.cut_y via.pitch_y via.lower_y) other some reaches.lower
  where
    positive : (long half : ℤ) → pos 1 ≤ℤ long → long ≤ℤ (half +ℤ half) → pos 0 ≤ℤ half
    positive long half some le = omega (arith, ints)

-- With the greater of two enclosures both are reached, and only then.
longer : (row enclosure greater half more : ℤ) → enclosure ≤ℤ greater → (row +ℤ (greater +ℤ greater)) ≤ℤ (half +ℤ half) → half ≤ℤ more
    → (row +ℤ (enclosure +ℤ enclosure)) ≤ℤ (more +ℤ more)
longer row enclosure greater half more le reaches at = omega (arith, ints)

pub half_x : (via : NamedVia) (greater half : ℤ) → via.lower_x ≤ℤ greater → via.upper_x ≤ℤ greater → (greater ≡ via.lower_x) ⊎ (greater ≡ via.upper_x)
    → metal_length via.columns via.cut_x via.pitch_x greater ≤ℤ (half +ℤ half)
    → ((other : ℤ) → metal_length via.columns via.cut_x via.pitch_x greater ≤ℤ (other +ℤ other) → half ≤ℤ other) → pos 1 ≤ℤ half → half ≤ℤ pos (2 ^ 40)
    → IsHalf ReachesX via half
half_x via greater half lower upper either reaches least some few = record {
  reaches = λ more at. record {
    lower = longer (row_length via.columns via.cut_x via.pitch_x) via.lower_x greater half more lower reaches at;
    upper = longer (row_length via.columns via.cut_x via.pitch_x) via.upper_x greater half more upper reaches at;
  };
  least = λ other both. least other (by other both either);
  some = some;
  few = few;
}
  where
    by : (other : ℤ) → ReachesX via other → (greater ≡ via.lower_x) ⊎ (greater ≡ via.upper_x)
        → metal_length via.columns via.cut_x via.pitch_x greater ≤ℤ (other +ℤ other)
    by other both (inl is) = subst (λ e. metal_length via.columns via.cut_x via.pitch_x e ≤ℤ (other +ℤ other)) (sym is) both.lower
    by other both (inr is) = subst (λ e. metal_length via.columns via.cut_x via.pitch_x e ≤ℤ (other +ℤ other)) (sym is) both.upper

pub half_y : (via : NamedVia) (greater half : ℤ) → via.lower_y ≤ℤ greater → via.upper_y ≤ℤ greater → (greater ≡ via.lower_y) ⊎ (greater ≡ via.upper_y)
    → metal_length via.rows via.cut_y via.pitch_y greater ≤ℤ (half +ℤ half)
    → ((other : ℤ) → metal_length via.rows via.cut_y via.pitch_y greater ≤ℤ (other +ℤ other) → half ≤ℤ other) → pos 1 ≤ℤ half → half ≤ℤ pos (2 ^ 40)
    → IsHalf ReachesY via half
half_y via greater half lower upper either reaches least some few = record {
  reaches = λ more at. record {
    lower = longer (row_length via.rows via.cut_y via.pitch_y) via.lower_y greater half more lower reaches at;
    upper = longer (row_length via.rows via.cut_y via.pitch_y) via.upper_y greater half more upper reaches at;
  };
  least = λ other both. least other (by other both either);
  some = some;
  few = few;
}
  where
    by : (other : ℤ) → ReachesY via other → (greater ≡ via.lower_y) ⊎ (greater ≡ via.upper_y)
        → metal_length via.rows via.cut_y via.pitch_y greater ≤ℤ (other +ℤ other)
    by other both (inl is) = subst (λ e. metal_length via.rows via.cut_y via.pitch_y e ≤ℤ (other +ℤ other)) (sym is) both.lower
    by other both (inr is) = subst (λ e. metal_length via.rows via.cut_y via.pitch_y e ≤ℤ (other +ℤ other)) (sym is) both.upper
