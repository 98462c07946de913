-- One more of what the numbered elements of a list give, and the share at a place.
use Rattle.std.proofs.Common.{◌≡◌, ℕ, ◌+◌, ◌<◌, ◌≤◌, List, [], ◌∷◌, ◌++◌, length, take, map, get_or, sym, ◌∙◌, ap, append_assoc, arith}
use Rattle.std.specs.List.{enumerate_from}
use Rattle.std.proofs.lemmas.List.{take_more, take_all, map-append}
use Rattle.std.proofs.lemmas.List.FromFn.{length-enumerate_from, get_or-enumerate_from, get_or-map-range_with_len}
use Rattle.load_shares.specs.Shares.{share_at, shares_of}
use Rattle.load_shares.specs.declared.share.Share.{Share}

pub numbered_at : {X : Type 0} (xs : List X) (i : ℕ) (x : X) → i < length xs → x ≡ get_or xs i x → get_or (enumerate_from 0 xs) i (i, x) ≡ (i, x)
numbered_at {X} xs i x within is =
    let same : 0 + i ≡ i = omega arith in
    get_or-enumerate_from 0 xs i (i, x) within ∙ (λ j. (same j, sym is j))

pub given_more : {X Y : Type 0} (f : ℕ × X → Y) (xs : List X) (i : ℕ) (x : X) (y : Y) (old now : List Y) → i < length xs → x ≡ get_or xs i x → y ≡ f (i, x)
    → now ≡ old ++ map f (take i (enumerate_from 0 xs)) → now ++ y ∷ [] ≡ old ++ map f (take (i + 1) (enumerate_from 0 xs))
given_more {X} {Y} f xs i x y old now within is made given =
    let numbered : List (ℕ × X) = enumerate_from 0 xs in
    let before : List Y = map f (take i numbered) in
    let more : map f (take (i + 1) numbered) ≡ before ++ y ∷ [] =
    ap (map f) (take_more numbered i (i, x) (omega (arith, within, length-enumerate_from 0 xs)) ∙ ap (λ (at : ℕ × X). take i numbered ++ at ∷ []) (numbered_at xs i x within is))
    ∙ map-append f (take i numbered) ((i, x) ∷ []) ∙ ap (λ (z : Y). before ++ z ∷ []) (sym made) in
    ap (λ (ys : List Y). ys ++ y ∷ []) given ∙ append_assoc old before (y ∷ []) ∙ ap (λ (ys : List Y). old ++ ys) (sym more)

pub given_all : {X Y : Type 0} (f : ℕ × X → Y) (xs : List X) (i : ℕ) (old now : List Y) → length xs ≤ i
    → now ≡ old ++ map f (take i (enumerate_from 0 xs)) → now ≡ old ++ map f (enumerate_from 0 xs)
given_all {X} {Y} f xs i old now le given =
    given ∙ ap (λ (ns : List (ℕ × X)). old ++ map f ns) (take_all i (enumerate_from 0 xs) (omega (arith, le, length-enumerate_from 0 xs)))

pub share_read : (load : Share) (count many place : ℕ) (shares : List Share) (share : Share) → count ≡ many → place < many → shares ≡ shares_of load count
    → share ≡ get_or shares place share → share ≡ share_at load many place
share_read load count many place shares share counted within are is =
    is ∙ ap (λ (ss : List Share). get_or ss place share) are
    ∙ get_or-map-range_with_len (share_at load count) 0 count place place share (omega arith) (omega arith) ∙ ap (λ n. share_at load n place) counted
