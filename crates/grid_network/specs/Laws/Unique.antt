-- Lists in a strict order that have the same members are one list.
use Rattle.std.proofs.Common.{◌≡◌, ◌↔◌, ◌⊎◌, inl, inr, suc, List, [], ◌∷◌, map, AllPairs, Contains, get_or, refl, sym, subst, ap, ◌∙◌, arith}
use Rattle.std.proofs.lemmas.List.{length-map, get_or-map}
use Rattle.list_laws.specs.Laws.Among.{no_member}
use Rattle.name_table.specs.Laws.{member_cases, member_head, member_tail}

pairs_tail : {X : Type 0} (R : X → X → Type 0) (x : X) (xs : List X) → AllPairs R (x ∷ xs) → AllPairs R xs
pairs_tail R x xs up i j d below within = up (suc i) (suc j) d (omega arith) (omega arith)

head_first : {X : Type 0} (R : X → X → Type 0) (x : X) (xs : List X) (n : X) → AllPairs R (x ∷ xs) → Contains xs n → R x n
head_first R x xs n up (k, within, e) = subst (R x) e (up 0 (suc k) n (omega arith) (omega arith))

module _ {X : Type 0} (R : X → X → Type 0) (one_way : (x y : X) → R x y → R y x → ⊥) where
  same_head : (x y : X) (xs ys : List X) → AllPairs R (x ∷ xs) → AllPairs R (y ∷ ys) → Contains (y ∷ ys) x → Contains (x ∷ xs) y → x ≡ y
  same_head x y xs ys up vp p q = by (member_cases y ys x p) (member_cases x xs y q)
    where
      by : ((y ≡ x) ⊎ Contains ys x) → ((x ≡ y) ⊎ Contains xs y) → x ≡ y
      by (inl e) k = sym e
      by (inr h) (inl e) = e
      by (inr h) (inr k) = absurd (one_way x y (head_first R x xs y up k) (head_first R y ys x vp h))

  in_tail : (x y : X) (xs ys : List X) (n : X) → x ≡ y → AllPairs R (x ∷ xs) → Contains (y ∷ ys) n → Contains xs n → Contains ys n
  in_tail x y xs ys n e up h k = by (member_cases y ys n h)
    where
      by : ((y ≡ n) ⊎ Contains ys n) → Contains ys n
      by (inr g) = g
      by (inl g) =
          let itself : R x x = subst (R x) (sym (e ∙ g)) (head_first R x xs n up k) in
          absurd (one_way x x itself itself)

  pub same_lists : (xs ys : List X) → AllPairs R xs → AllPairs R ys → ((n : X) → Contains xs n ↔ Contains ys n) → xs ≡ ys
  same_lists [] [] up vp same = refl
  same_lists [] (y ∷ ys) up vp same = absurd (no_member y ((same y).1 (member_head y ys)))
  same_lists (x ∷ xs) [] up vp same = absurd (no_member x ((same x).0 (member_head x xs)))
  same_lists (x ∷ xs) (y ∷ ys) up vp same =
      let e = same_head x y xs ys up vp ((same x).0 (member_head x xs)) ((same y).1 (member_head y ys)) in
      let rest = same_lists xs ys (pairs_tail R x xs up) (pairs_tail R y ys vp)
      (λ n. (λ h. in_tail x y xs ys n e up ((same n).0 (member_tail x xs n h)) h, λ h. in_tail y x ys xs n (sym e) vp ((same n).1 (member_tail y ys n h)) h)) in
      ap (λ z. z ∷ xs) e ∙ ap (λ l. y ∷ l) rest

-- what holds of all pairs of images
pub pairs_of_map : {X Y : Type 0} (f : X → Y) (R : Y → Y → Type 0) (xs : List X) → AllPairs R (map f xs) → AllPairs (λ a b. R (f a) (f b)) xs
pairs_of_map f R xs up i j d below within =
    let long = length-map xs f in
    subst (λ y. R y (f (get_or xs j d))) (get_or-map f xs i d (f d) (omega (arith, below, within))) (subst (R (get_or (map f xs) i (f d))) (get_or-map f xs j d (f d) within) (up i j (f d) below (omega (arith, within, long))))

-- lists that have the same things
pub both_ways : {X : Type 0} (P : X → Type 0) (xs ys : List X) → ((n : X) → Contains xs n ↔ P n) → ((n : X) → Contains ys n ↔ P n) → (n : X) → Contains xs n ↔ Contains ys n
both_ways P xs ys p q n = (λ h. (q n).1 ((p n).0 h), λ h. (p n).1 ((q n).0 h))
