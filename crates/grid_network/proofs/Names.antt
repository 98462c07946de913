-- Nodes that differ have names that differ.
use Rattle.std.proofs.Common.{◌≡◌, zero, suc, ℕ, ◌+◌, ◌*◌, ◌^◌, ◌<◌, ℤ, pos, negsuc, List, [], ◌∷◌, ◌++◌, All, map, drop, append_assoc, get_or, refl, sym, subst, ap, ◌∙◌, arith}
use Rattle.std.specs.Prelude.{decimal, ◌≤ℤ◌}
use Rattle.std.specs.Fmt.{signed_decimal}
use Rattle.std.proofs.lemmas.Fmt.{decimal_injective, decimal_is_IsNumeral}
use Rattle.std.proofs.lemmas.Int.{ints}
use Rattle.std.proofs.lemmas.List.{length-map, get_or-map}
use Rattle.std.proofs.lemmas.List.Elements.{All-append}
use Rattle.std.proofs.lemmas.Str.Parse.{digit_from_value}
use Rattle.std.specs.Str.Parse.{AllDigits}
use Rattle.grid_network.specs.declared.key.Key.{Key}
use Rattle.grid_network.specs.Listing.{EachOnce}
use Rattle.grid_network.specs.Nodes.{layer_number, name_of}
use Rattle.grid_network.specs.inside.Steps.{IsShort}
use Rattle.grid_network.proofs.Noted.{times_more}

-- a text without 95 before one is cut off in one way
abbrev pub Plain : List ℕ → Type 0
Plain xs = All (λ c. c < 95) xs

plain_tail : (x : ℕ) (xs : List ℕ) → Plain (x ∷ xs) → Plain xs
plain_tail x xs h k d within = h (suc k) d (omega arith)

head_same : (x y : ℕ) (xs ys : List ℕ) → x ∷ xs ≡ y ∷ ys → (x ≡ y) × (xs ≡ ys)
head_same x y xs ys e = ((cc), (cc))

pub cut_off : (xs ys us vs : List ℕ) → Plain xs → Plain ys → xs ++ 95 ∷ us ≡ ys ++ 95 ∷ vs → (xs ≡ ys) × (us ≡ vs)
cut_off [] [] us vs p q e = (refl, (head_same 95 95 us vs e).1)
cut_off [] (y ∷ ys) us vs p q e = let r = (head_same 95 y us (ys ++ 95 ∷ vs) e).0 in let l = q 0 0 (omega arith) in absurd (omega (arith, r, l))
cut_off (x ∷ xs) [] us vs p q e = let r = (head_same x 95 (xs ++ 95 ∷ us) vs e).0 in let l = p 0 0 (omega arith) in absurd (omega (arith, r, l))
cut_off (x ∷ xs) (y ∷ ys) us vs p q e =
    let h = head_same x y (xs ++ 95 ∷ us) (ys ++ 95 ∷ vs) e in
    let r = cut_off xs ys us vs (plain_tail x xs p) (plain_tail y ys q) h.1 in
    (ap (λ c. c ∷ xs) h.0 ∙ ap (λ l. y ∷ l) r.0, r.1)

-- net times layers plus layer tells both
one_net : (l m n i j : ℕ) → i < l → j < l → m * l + i ≡ n * l + j → (m ≡ n) × (i ≡ j)
one_net l zero zero i j p q e = (refl, omega (arith, e))
one_net l zero (suc n) i j p q e = let g : suc n * l ≡ n * l + l = omega arith in absurd (omega (arith, e, g, p))
one_net l (suc m) zero i j p q e = let g : suc m * l ≡ m * l + l = omega arith in absurd (omega (arith, e, g, q))
one_net l (suc m) (suc n) i j p q e =
    let g : suc m * l ≡ m * l + l = omega arith in
    let h : suc n * l ≡ n * l + l = omega arith in
    let r = one_net l m n i j p q (omega (arith, e, g, h)) in
    (ap suc r.0, r.1)

-- ---- the parts of a name

digits_plain : (ds : List ℕ) → AllDigits 10 ds → Plain ds
digits_plain [] h k d within = absurd (omega arith)
digits_plain (c ∷ cs) h zero d within = omega (arith, digit_from_value c h.0)
digits_plain (c ∷ cs) h (suc k) d within = digits_plain cs h.1 k d (omega arith)

decimal_plain : (n : ℕ) → n < 2 ^ 64 → Plain (decimal n)
decimal_plain n h = digits_plain (decimal n) (decimal_is_IsNumeral n h).0.1

-- a signed number whose magnitude fits
abbrev pub Low : ℤ → Type 0
Low z = (negsuc (2 ^ 63) ≤ℤ z) × (z ≤ℤ pos (2 ^ 63))

signed_plain : (z : ℤ) → Low z → Plain (signed_decimal z)
signed_plain (pos n) h = decimal_plain n (let q = h.1 in omega (arith, ints, q))
signed_plain (negsuc n) h = front (decimal_plain (suc n) (let q = h.0 in omega (arith, ints, q)))
  where
    front : Plain (decimal (suc n)) → Plain (45 ∷ decimal (suc n))
    front p zero d within = omega arith
    front p (suc k) d within = p k d (omega arith)

no_minus : (n : ℕ) (ds : List ℕ) → n < 2 ^ 64 → decimal n ≡ 45 ∷ ds → ⊥
no_minus n ds h e = omega (arith, digit_from_value 45 (subst (AllDigits 10) e (decimal_is_IsNumeral n h).0.1).0)

signed_same : (y z : ℤ) → Low y → Low z → signed_decimal y ≡ signed_decimal z → y ≡ z
signed_same (pos m) (pos n) p q e = ap pos (decimal_injective m n (let a = p.1 in omega (arith, ints, a)) (let a = q.1 in omega (arith, ints, a)) e)
signed_same (pos m) (negsuc n) p q e = absurd (no_minus m _ (let a = p.1 in omega (arith, ints, a)) e)
signed_same (negsuc m) (pos n) p q e = absurd (no_minus n _ (let a = q.1 in omega (arith, ints, a)) (sym e))
signed_same (negsuc m) (negsuc n) p q e =
    let r = decimal_injective (suc m) (suc n) (let a = p.0 in omega (arith, ints, a)) (let a = q.0 in omega (arith, ints, a)) (ap (drop 1) e) in
    ap negsuc (omega (arith, r))

number_fits : (l : ℕ) (key : Key) → l < 2 ^ 32 → key.layer < l → key.net < 2 ^ 32 → layer_number l key.net key.layer < 2 ^ 64
number_fits l key few low net = let r = times_more key.net (2 ^ 32) l net in omega (arith, r)

flat : (p x y : List ℕ) → (((p ++ (95 ∷ [])) ++ x) ++ (95 ∷ [])) ++ y ≡ p ++ (95 ∷ (x ++ (95 ∷ y)))
flat p x y = append_assoc ((p ++ (95 ∷ [])) ++ x) (95 ∷ []) y ∙ append_assoc (p ++ (95 ∷ [])) x (95 ∷ y) ∙ append_assoc p (95 ∷ []) (x ++ (95 ∷ y))

pub name_same : (l : ℕ) (a b : Key) → l < 2 ^ 32 → a.layer < l → b.layer < l → IsShort a → IsShort b → name_of l a ≡ name_of l b → a ≡ b
name_same l a b few p q s t e =
    let m : ℕ = layer_number l a.net a.layer in
    let n : ℕ = layer_number l b.net b.layer in
    let fm = number_fits l a few p s.net in
    let fn = number_fits l b few q t.net in
    let one = cut_off (decimal m) (decimal n) (signed_decimal a.x ++ 95 ∷ signed_decimal a.y) (signed_decimal b.x ++ 95 ∷ signed_decimal b.y) (decimal_plain m fm) (decimal_plain n fn) (sym (flat (decimal m) (signed_decimal a.x) (signed_decimal a.y)) ∙ ap (drop 1) e ∙ flat (decimal n) (signed_decimal b.x) (signed_decimal b.y)) in
    let number = decimal_injective m n fm fn one.0 in
    let both = one_net l a.net b.net a.layer b.layer p q (omega (arith, number)) in
    let two = cut_off (signed_decimal a.x) (signed_decimal b.x) (signed_decimal a.y) (signed_decimal b.y) (signed_plain a.x (s.x_low, s.x_high)) (signed_plain b.x (t.x_low, t.x_high)) one.1 in
    let x = signed_same a.x b.x (s.x_low, s.x_high) (t.x_low, t.x_high) two.0 in
    let y = signed_same a.y b.y (s.y_low, s.y_high) (t.y_low, t.y_high) two.1 in
    λ k. record { net = both.0 k; layer = both.1 k; x = x k; y = y k }

pub names_differ : (l : ℕ) (places : List Key) → l < 2 ^ 32 → All (λ k. k.layer < l) places → All IsShort places → EachOnce places → EachOnce (map (name_of l) places)
names_differ l [] few low short once i j d below within e = omega (arith)
names_differ l (k ∷ ks) few low short once i j d below within e =
    let long = length-map (k ∷ ks) (name_of l) in
    let p = get_or-map (name_of l) (k ∷ ks) i k d (omega (arith, long)) in
    let q = get_or-map (name_of l) (k ∷ ks) j k d (omega (arith, long)) in
    once i j k below (omega (arith, long)) (name_same l (get_or (k ∷ ks) i k) (get_or (k ∷ ks) j k) few (low i k (omega (arith, long))) (low j k (omega (arith, long))) (short i k (omega (arith, long))) (short j k (omega (arith, long))) (sym p ∙ e ∙ q))

-- each byte of a name fits a byte
pub name_bytes : (l : ℕ) (key : Key) → l < 2 ^ 32 → key.layer < l → IsShort key → All (λ c. c < 256) (name_of l key)
name_bytes l key few low short =
    let number = layer_number l key.net key.layer in
    let a : List ℕ = (110 ∷ []) ++ decimal number in
    let b : List ℕ = a ++ (95 ∷ []) in
    let c : List ℕ = b ++ signed_decimal key.x in
    let d : List ℕ = c ++ (95 ∷ []) in
    let first : All (λ c. c < 256) a = All-append (λ c. c < 256) (110 ∷ []) (decimal number) (one 110 (omega arith)) (wider (decimal number) (decimal_plain number (number_fits l key few low short.net))) in
    let second : All (λ c. c < 256) b = All-append (λ c. c < 256) a (95 ∷ []) first (one 95 (omega arith)) in
    let third : All (λ c. c < 256) c = All-append (λ c. c < 256) b (signed_decimal key.x) second (wider (signed_decimal key.x) (signed_plain key.x (short.x_low, short.x_high))) in
    let fourth : All (λ c. c < 256) d = All-append (λ c. c < 256) c (95 ∷ []) third (one 95 (omega arith)) in
    All-append (λ c. c < 256) d (signed_decimal key.y) fourth (wider (signed_decimal key.y) (signed_plain key.y (short.y_low, short.y_high)))
  where
    one : (c : ℕ) → c < 256 → All (λ c. c < 256) (c ∷ [])
    one c h zero d within = h
    one c h (suc k) d within = absurd (omega arith)

    wider : (xs : List ℕ) → Plain xs → All (λ c. c < 256) xs
    wider xs p k d within = let h = p k d within in omega (arith, h)
