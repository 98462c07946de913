-- What a reader knows at a word: the units so far and the words of the open one are the only way to take the text apart.
use Rattle.std.proofs.Common.{◌≡◌, ◌<◌, List, [], ◌∷◌, ◌++◌, length, refl, sym, ◌∙◌, ap, subst, append_assoc, arith, length-append, ◌⊎◌, inl, inr}
use Rattle.std.proofs.lemmas.List.{append-nil}
use Rattle.reading.specs.Pattern.{Pattern, Matches, Begins, joined}
use Rattle.reading.specs.Reading.{Format, Follows, Start}

-- One of two fronts of a list is a front of the other.
pub compare : {W : Type 0} (a c b d : List W) → a ++ b ≡ c ++ d →
    ((x : List W) × (c ≡ a ++ x) × (b ≡ x ++ d)) ⊎ ((x : List W) × (a ≡ c ++ x) × (d ≡ x ++ b))
compare [] c b d h = inl (c, refl, h)
compare (y ∷ a) [] b d h = inr (y ∷ a, refl, sym h)
compare (y ∷ a) (z ∷ c) b d h =
    let head : y ≡ z = cc in
    let tail : a ++ b ≡ c ++ d = cc in
    elim (compare a c b d tail) [
      | inl t ↦ inl (t.0, (let e : c ≡ a ++ t.0 = t.1 in cc), t.2)
      | inr t ↦ inr (t.0, (let e : a ≡ c ++ t.0 = t.1 in cc), t.2)
    ]

pub joined-append : {W : Type 0} (xs ys : List (List W)) → joined (xs ++ ys) ≡ joined xs ++ joined ys
joined-append [] ys = refl
joined-append (x ∷ xs) ys = ap (λ z. x ++ z) (joined-append xs ys) ∙ sym (append_assoc x (joined xs) (joined ys))

pub joined_more : {W : Type 0} (xs : List (List W)) (u : List W) → joined (xs ++ u ∷ []) ≡ joined xs ++ u
joined_more {W} xs u = joined-append xs (u ∷ []) ∙ ap (λ (z : List W). joined xs ++ z) (append-nil u)

pub nothing_left : {W : Type 0} (x : List W) → length x ≡ 0 → x ≡ []
nothing_left [] h = refl
nothing_left (y ∷ x) h = absurd (omega arith)

pub follows-append : {W S K : Type 0} (f : Format W S K) (before xs ys : List (List W)) →
    Follows f before xs → Follows f (before ++ xs) ys → Follows f before (xs ++ ys)
follows-append f before [] ys h k = subst (λ z. Follows f z ys) (append-nil before) k
follows-append f before (x ∷ xs) ys h k =
    (h.0, h.1, follows-append f (before ++ x ∷ []) xs ys h.2 (subst (λ z. Follows f z ys) (sym (append_assoc before (x ∷ []) xs)) k))

pub follows-split : {W S K : Type 0} (f : Format W S K) (before xs ys : List (List W)) →
    Follows f before (xs ++ ys) → Follows f before xs × Follows f (before ++ xs) ys
follows-split f before [] ys h = (tt, subst (λ z. Follows f z ys) (sym (append-nil before)) h)
follows-split f before (x ∷ xs) ys h =
    let r = follows-split f (before ++ x ∷ []) xs ys h.2 in
    ((h.0, h.1, r.0), subst (λ z. Follows f z ys) (append_assoc before (x ∷ []) xs) r.1)

-- The units and the words of the open one lead here, and no other way does.
pub record Run {W S K : Type 0} (f : Format W S K) (units : List (List W)) (part : List W) : Type 0 where
  pub whole : Follows f [] units
  pub only : (y : List W) → 0 < length y → (s : Start f [] (joined units ++ y)) →
      (rest : Start f units y) × (s.units ≡ units ++ rest.units) × (s.part ≡ rest.part)
  pub none : (a b : List W) → part ≡ a ++ b → 0 < length a → Matches (f.sort units) (f.follow units) a → ⊥
  pub last : (others : List (List W)) → Follows f [] others → joined others ≡ joined units → others ≡ units

no_units : {W S K : Type 0} (f : Format W S K) (others : List (List W)) → Follows f [] others → joined others ≡ [] → others ≡ []
no_units f [] h e = refl
no_units f (u ∷ us) h e = absurd (let n : length (u ++ joined us) ≡ 0 = ap length e in let m = h.0 in omega (arith, length-append u (joined us)))

pub run-start : {W S K : Type 0} (f : Format W S K) → Run f [] []
run-start f = record {
  whole = tt;
  only = λ y some s. (s, refl, refl);
  none = λ a b e some m. absurd (let n : 0 ≡ length (a ++ b) = ap length e in omega (arith, length-append a b));
  last = λ others h e. no_units f others h e;
}

-- A first unit of what follows the open words takes more than them.
abbrev Past : {W : Type 0} (part u y z : List W) → Type 0
Past {W} part u y z = (x : List W) × (0 < length x) × (u ≡ part ++ x) × (y ≡ x ++ z)

past-by : {W S K : Type 0} (f : Format W S K) (units : List (List W)) (part : List W) → Run f units part →
    (u y z x : List W) → 0 < length u → Matches (f.sort units) (f.follow units) u → u ≡ part ++ x → y ≡ x ++ z → Past part u y z
past-by f units part r u y z [] some m p q =
    absurd (r.none u [] (sym (p ∙ append-nil part) ∙ sym (append-nil u)) some m)
past-by f units part r u y z (c ∷ x) some m p q = (c ∷ x, omega arith, p, q)

past : {W S K : Type 0} (f : Format W S K) (units : List (List W)) (part : List W) → Run f units part →
    (u y z : List W) → 0 < length u → Matches (f.sort units) (f.follow units) u → part ++ y ≡ u ++ z → Past part u y z
past f units part r u y z some m e = elim (compare part u y z e) [
  | inl t ↦ past-by f units part r u y z t.0 some m t.1 t.2
  | inr t ↦ absurd (r.none u t.0 t.1 some m)
]

-- One more word: the only way to take the words apart is the same units and one more word of the open one.
alone-by : {W S K : Type 0} (f : Format W S K) (units : List (List W)) (part : List W) (w : W) → Run f units part →
    (us : List (List W)) (p : List W) → Follows f units us → 0 < length p → part ++ w ∷ [] ≡ joined us ++ p → (us ≡ []) × (p ≡ part ++ w ∷ [])
alone-by f units part w r [] p h some e = (refl, sym e)
alone-by f units part w r (u ∷ us) p h some e =
    let t = past f units part r u (w ∷ []) (joined us ++ p) h.0 h.1 (e ∙ append_assoc u (joined us) p) in
    let n : length (w ∷ []) ≡ length (t.0 ++ (joined us ++ p)) = ap length t.3 in
    let m = t.1 in
    absurd (omega (arith, length-append t.0 (joined us ++ p), length-append (joined us) p))

pub alone : {W S K : Type 0} (f : Format W S K) (units : List (List W)) (part : List W) (w : W) → Run f units part →
    (s : Start f [] (joined units ++ (part ++ w ∷ []))) → (s.units ≡ units) × (s.part ≡ part ++ w ∷ [])
alone f units part w r s =
    let t = r.only (part ++ w ∷ []) (omega (arith, length-append part (w ∷ []))) s in
    let k = alone-by f units part w r t.0.units t.0.part t.0.whole t.0.some t.0.is in
    (t.1 ∙ ap (λ z. units ++ z) k.0 ∙ append-nil units, t.2 ∙ k.1)

-- That is a start where the words begin a unit that may follow.
abbrev pub make : {W S K : Type 0} (f : Format W S K) (units : List (List W)) (part : List W) (w : W) → Run f units part →
    Begins (f.sort units) (f.follow units) (part ++ w ∷ []) → Start f [] (joined units ++ (part ++ w ∷ []))
make f units part w r b = record {
  units = units;
  part = part ++ w ∷ [];
  whole = r.whole;
  begins = b;
  some = omega (arith, length-append part (w ∷ []));
  is = refl;
}

none-more-by : {W S K : Type 0} (f : Format W S K) (units : List (List W)) (part : List W) (w : W) → Run f units part →
    (Matches (f.sort units) (f.follow units) (part ++ w ∷ []) → ⊥) → (a x b : List W) → a ≡ part ++ x → w ∷ [] ≡ x ++ b → 0 < length a →
    Matches (f.sort units) (f.follow units) a → ⊥
none-more-by f units part w r n a [] b p q some m = r.none a [] (sym (p ∙ append-nil part) ∙ sym (append-nil a)) some m
none-more-by {W} f units part w r n a (c ∷ x) b p q some m =
    let tail : [] ≡ x ++ b = cc in
    let head : w ≡ c = cc in
    let short : length (x ++ b) ≡ 0 = ap length (sym tail) in
    let none : x ≡ [] = nothing_left x (omega (arith, length-append x b)) in
    n (subst (λ z. Matches (f.sort units) (f.follow units) z) (p ∙ (let k : part ++ c ∷ x ≡ part ++ w ∷ [] = cc in k)) m)

none-more : {W S K : Type 0} (f : Format W S K) (units : List (List W)) (part : List W) (w : W) → Run f units part →
    (Matches (f.sort units) (f.follow units) (part ++ w ∷ []) → ⊥) → (a b : List W) → part ++ w ∷ [] ≡ a ++ b → 0 < length a →
    Matches (f.sort units) (f.follow units) a → ⊥
none-more f units part w r n a b e some m = elim (compare part a (w ∷ []) b e) [
  | inl t ↦ none-more-by f units part w r n a t.0 b t.1 t.2 some m
  | inr t ↦ r.none a t.0 t.1 some m
]

-- The unit goes on.
pub run-open : {W S K : Type 0} (f : Format W S K) (units : List (List W)) (part : List W) (w : W) → Run f units part →
    (Matches (f.sort units) (f.follow units) (part ++ w ∷ []) → ⊥) → Run f units (part ++ w ∷ [])
run-open f units part w r n = record {
  whole = r.whole;
  only = r.only;
  none = λ a b e some m. none-more f units part w r n a b e some m;
  last = r.last;
}

-- What is left of a start after a unit that is whole.
abbrev After : {W S K : Type 0} → Format W S K → List (List W) → List W → List W → List (List W) → List W → Type 0
After f units u y us p = (rest : Start f (units ++ u ∷ []) y) × (us ≡ u ∷ rest.units) × (p ≡ rest.part)

after-same : {W S K : Type 0} (f : Format W S K) (units : List (List W)) (u y : List W) (v : List W) (vs : List (List W)) (p : List W) →
    u ≡ v → Follows f (units ++ v ∷ []) vs → Begins (f.sort (units ++ v ∷ vs)) (f.follow (units ++ v ∷ vs)) p → 0 < length p → y ≡ joined vs ++ p →
    After f units u y (v ∷ vs) p
after-same {W} f units u y v vs p same h b some e = (
  record {
    units = vs;
    part = p;
    whole = subst (λ z. Follows f (units ++ z ∷ []) vs) (sym same) h;
    begins = subst (λ z. Begins (f.sort z) (f.follow z) p) (sym (append_assoc units (v ∷ []) vs) ∙ ap (λ (z : List W). (units ++ z ∷ []) ++ vs) (sym same)) b;
    some = some;
    is = e;
  },
  ap (λ z. z ∷ vs) (sym same),
  refl,
)

-- Nothing longer than a whole unit is a unit.
abbrev pub Ends : {W S : Type 0} → (W → S) → Pattern S → List W → Type 0
Ends {W} sort p u = (x : List W) → Matches sort p (u ++ x) → x ≡ []

after-longer : {W S K : Type 0} (f : Format W S K) (units : List (List W)) (u y : List W) (v x : List W) (vs : List (List W)) (p : List W) →
    Ends (f.sort units) (f.follow units) u → v ≡ u ++ x → Matches (f.sort units) (f.follow units) v → y ≡ x ++ (joined vs ++ p) →
    Follows f (units ++ v ∷ []) vs → Begins (f.sort (units ++ v ∷ vs)) (f.follow (units ++ v ∷ vs)) p → 0 < length p →
    After f units u y (v ∷ vs) p
after-longer {W} f units u y v x vs p ends e m g h b some =
    let z : x ≡ [] = ends x (subst (λ z. Matches (f.sort units) (f.follow units) z) e m) in
    after-same f units u y v vs p (sym (e ∙ ap (λ z. u ++ z) z ∙ append-nil u)) h b some (g ∙ ap (λ (z : List W). z ++ (joined vs ++ p)) z)

-- A whole unit within the words of another is the other.
shorter : {W S K : Type 0} (f : Format W S K) (units : List (List W)) (part : List W) (w : W) → Run f units part →
    (v x : List W) → 0 < length v → Matches (f.sort units) (f.follow units) v → part ++ w ∷ [] ≡ v ++ x → (x ≡ []) × (v ≡ part ++ w ∷ [])
shorter f units part w r v x some m e =
    let t = past f units part r v (w ∷ []) x some m e in
    let n : length (w ∷ []) ≡ length (t.0 ++ x) = ap length t.3 in
    let k = t.1 in
    let z : x ≡ [] = nothing_left x (omega (arith, length-append t.0 x)) in
    (z, sym (e ∙ ap (λ z. v ++ z) z ∙ append-nil v))

after-by : {W S K : Type 0} (f : Format W S K) (units : List (List W)) (part : List W) (w : W) → Run f units part →
    Ends (f.sort units) (f.follow units) (part ++ w ∷ []) → (y : List W) → 0 < length y →
    (us : List (List W)) (p : List W) → Follows f units us → Begins (f.sort (units ++ us)) (f.follow (units ++ us)) p → 0 < length p →
    (part ++ w ∷ []) ++ y ≡ joined us ++ p → After f units (part ++ w ∷ []) y us p
after-by {W} f units part w r ends y more [] p h b some e =
    let m : Matches (f.sort units) (f.follow units) ((part ++ w ∷ []) ++ (y ++ b.0)) =
    subst (λ z. Matches (f.sort units) (f.follow units) z) (ap (λ (z : List W). z ++ b.0) (sym e) ∙ append_assoc (part ++ w ∷ []) y b.0)
    (subst (λ z. Matches (f.sort z) (f.follow z) (p ++ b.0)) (append-nil units) b.1) in
    let n : length (y ++ b.0) ≡ 0 = ap length (ends (y ++ b.0) m) in
    absurd (omega (arith, length-append y b.0))
after-by {W} f units part w r ends y more (v ∷ vs) p h b some e =
    elim (compare (part ++ w ∷ []) v y (joined vs ++ p) (e ∙ append_assoc v (joined vs) p)) [
      | inl t ↦ after-longer f units (part ++ w ∷ []) y v t.0 vs p ends t.1 h.1 t.2 h.2 b some
      | inr t ↦
          let k = shorter f units part w r v t.0 h.0 h.1 t.1 in
          after-same f units (part ++ w ∷ []) y v vs p (sym k.1) h.2 b some (sym (t.2 ∙ ap (λ (z : List W). z ++ y) k.0))
    ]

-- The units but the last, and the last.
abbrev Snoc : {X : Type 0} → List X → Type 0
Snoc {X} xs = (ys : List X) × (y : X) × (xs ≡ ys ++ y ∷ [])

pub snoc : {X : Type 0} (x : X) (xs : List X) → Snoc (x ∷ xs)
snoc x [] = ([], x, refl)
snoc x (z ∷ xs) = let t = snoc z xs in (x ∷ t.0, t.1, ap (λ w. x ∷ w) t.2)

pub last-by : {W S K : Type 0} (f : Format W S K) (units : List (List W)) (part : List W) (w : W) → Run f units part →
    (others : List (List W)) → Follows f [] others → joined others ≡ joined units ++ (part ++ w ∷ []) →
    others ≡ units ++ (part ++ w ∷ []) ∷ []
last-by f units part w r [] h e =
    absurd (let n : 0 ≡ length (joined units ++ (part ++ w ∷ [])) = ap length e in
    omega (arith, length-append (joined units) (part ++ w ∷ []), length-append part (w ∷ [])))
last-by {W} {K = K} f units part w r (o ∷ os) h e =
    let t = snoc o os in
    let vs : List (List W) = t.0 in
    let v : List W = t.1 in
    let k = follows-split f [] vs (v ∷ []) (subst (λ z. Follows f [] z) t.2 h) in
    let s : Start f [] (joined units ++ (part ++ w ∷ [])) = record {
      units = vs;
      part = v;
      whole = k.0;
      begins = ([], subst (λ z. Matches (f.sort vs) (f.follow vs) z) (sym (append-nil v)) k.1.1);
      some = k.1.0;
      is = sym e ∙ ap joined t.2 ∙ joined-append vs (v ∷ []) ∙ ap (λ z. joined vs ++ z) (append-nil v);
    } in
    let a = alone f units part w r s in
    let p : vs ≡ units = a.0 in
    let q : v ≡ part ++ w ∷ [] = a.1 in
    t.2 ∙ ap (λ (z : List (List W)). z ++ v ∷ []) p ∙ ap (λ (z : List W). units ++ z ∷ []) q

-- The unit is whole.
pub run-close : {W S K : Type 0} (f : Format W S K) (units : List (List W)) (part : List W) (w : W) → Run f units part →
    Matches (f.sort units) (f.follow units) (part ++ w ∷ []) → Ends (f.sort units) (f.follow units) (part ++ w ∷ []) → Run f (units ++ (part ++ w ∷ []) ∷ []) []
run-close {W} f units part w r m ends =
    let u : List W = part ++ w ∷ [] in
    let all : joined (units ++ u ∷ []) ≡ joined units ++ u = joined-append units (u ∷ []) ∙ ap (λ (z : List W). joined units ++ z) (append-nil u) in
    record {
      whole = follows-append f [] units (u ∷ []) r.whole (omega (arith, length-append part (w ∷ [])), m, tt);
      only = λ y some s.
          let same : joined (units ++ u ∷ []) ++ y ≡ joined units ++ (u ++ y) = ap (λ (z : List W). z ++ y) all ∙ append_assoc (joined units) u y in
          let t = r.only (u ++ y) (omega (arith, length-append u y)) (record { units = s.units; part = s.part; whole = s.whole; begins = s.begins; some = s.some; is = sym same ∙ s.is }) in
          let k = after-by f units part w r ends y some t.0.units t.0.part t.0.whole t.0.begins t.0.some t.0.is in
          (k.0, t.1 ∙ ap (λ z. units ++ z) k.1 ∙ sym (append_assoc units (u ∷ []) k.0.units), t.2 ∙ k.2);
      none = λ a b e some m. absurd (let n : 0 ≡ length (a ++ b) = ap length e in omega (arith, length-append a b));
      last = λ others h e. last-by f units part w r others h (e ∙ all);
    }

first-begins : {W S : Type 0} (sort : W → S) (p : Pattern S) (u part more : List W) (w : W) → u ≡ part ++ w ∷ more → Matches sort p u → Begins sort p (part ++ w ∷ [])
first-begins sort p u part more w e m = (more, subst (λ z. Matches sort p z) (e ∙ sym (append_assoc part (w ∷ []) more)) m)

-- Where more words are a start, these are one: the unit goes on, or is whole within them.
pub record Later {W S K : Type 0} (f : Format W S K) (units : List (List W)) (part : List W) (w : W) (more : List W) (us : List (List W)) (p : List W) : Type 0 where
  pub begins : Begins (f.sort units) (f.follow units) (part ++ w ∷ [])
  pub where_ : ((us ≡ []) × (p ≡ part ++ w ∷ more)) ⊎ (length part < length (joined us))

later-begins : {W S K : Type 0} (f : Format W S K) (units : List (List W)) (part : List W) (w : W) (u x z more : List W) →
    0 < length x → u ≡ part ++ x → Matches (f.sort units) (f.follow units) u → w ∷ more ≡ x ++ z → Begins (f.sort units) (f.follow units) (part ++ w ∷ [])
later-begins f units part w u [] z more some q m e = absurd (omega arith)
later-begins f units part w u (c ∷ x) z more some q m e =
    let same : c ≡ w = cc in
    first-begins (f.sort units) (f.follow units) u part x w (q ∙ ap (λ y. part ++ y ∷ x) same) m

later-by : {W S K : Type 0} (f : Format W S K) (units : List (List W)) (part : List W) (w : W) → Run f units part → (more : List W) →
    (us : List (List W)) (p : List W) → Follows f units us → Begins (f.sort (units ++ us)) (f.follow (units ++ us)) p → part ++ w ∷ more ≡ joined us ++ p →
    Later f units part w more us p
later-by {W} f units part w r more [] p h b e = record {
  begins = (
    more ++ b.0,
    subst (λ z. Matches (f.sort units) (f.follow units) z)
        (ap (λ (z : List W). z ++ b.0) (sym e) ∙ append_assoc part (w ∷ more) b.0 ∙ sym (append_assoc part (w ∷ []) (more ++ b.0)))
        (subst (λ z. Matches (f.sort z) (f.follow z) (p ++ b.0)) (append-nil units) b.1),
  );
  where_ = inl (refl, sym e);
}
later-by {W} f units part w r more (u ∷ us) p h b e =
    let t = past f units part r u (w ∷ more) (joined us ++ p) h.0 h.1 (e ∙ append_assoc u (joined us) p) in
    let x : List W = t.0 in
    let some : 0 < length x = t.1 in
    let q : u ≡ part ++ x = t.2 in
    let z : w ∷ more ≡ x ++ (joined us ++ p) = t.3 in
    let n : length u ≡ length (part ++ x) = ap length q in
    record {
      begins = later-begins f units part w u x (joined us ++ p) more some q h.1 z;
      where_ = inr (omega (arith, length-append part x, length-append u (joined us)));
    }

pub later : {W S K : Type 0} (f : Format W S K) (units : List (List W)) (part : List W) (w : W) (more : List W) → Run f units part →
    (s : Start f [] (joined units ++ (part ++ w ∷ more))) →
    (us : List (List W)) × (p : List W) × (s.units ≡ units ++ us) × (s.part ≡ p) × Later f units part w more us p
later f units part w more r s =
    let t = r.only (part ++ w ∷ more) (omega (arith, length-append part (w ∷ more))) s in
    (t.0.units, t.0.part, t.1, t.2, later-by f units part w r more t.0.units t.0.part t.0.whole t.0.begins t.0.is)
