-- Products of whole numbers, and multiples of a solution: what the proofs here and those of the crates above need, each law
-- with its proof.
use Rattle.std.proofs.Common.{◌≡◌, ◌≢◌, ℕ, zero, suc, ◌*◌, ◌≤◌, ℤ, pos, negsuc, neg_ℤ, ◌+ℤ◌, ◌*ℤ◌, ◌≤ℤ◌, arith, refl, sym, ap, ◌∙◌, mul_assoc, mul-le-mul_right}
use Rattle.std.proofs.Math.IntN.{*ℤ_comm}
use Rattle.std.proofs.lemmas.Int.{ints}
use Rattle.rounding.specs.Laws.{times_neg, times_sum, times_le, times_le_out}

pub times_comm : (a b : ℤ) → a *ℤ b ≡ b *ℤ a
times_comm a b = *ℤ_comm a b

pub neg_times : (a b : ℤ) → neg_ℤ a *ℤ b ≡ neg_ℤ (a *ℤ b)
neg_times a b = times_comm (neg_ℤ a) b ∙ times_neg b a ∙ ap neg_ℤ (times_comm b a)

assoc_pos : (a b : ℕ) (c : ℤ) → (pos a *ℤ pos b) *ℤ c ≡ pos a *ℤ (pos b *ℤ c)
assoc_pos a b (pos c) = ap pos (mul_assoc a b c)
assoc_pos a b (negsuc c) =
    times_neg (pos (a * b)) (pos (suc c)) ∙ ap (λ (n : ℕ). neg_ℤ (pos n)) (mul_assoc a b (suc c))
    ∙ sym (times_neg (pos a) (pos (b * suc c))) ∙ ap (λ t. pos a *ℤ t) (sym (times_neg (pos b) (pos (suc c))))

assoc_first : (a : ℕ) (b c : ℤ) → (pos a *ℤ b) *ℤ c ≡ pos a *ℤ (b *ℤ c)
assoc_first a (pos b) c = assoc_pos a b c
assoc_first a (negsuc b) c =
    ap (λ t. t *ℤ c) (times_neg (pos a) (pos (suc b))) ∙ neg_times (pos a *ℤ pos (suc b)) c
    ∙ ap neg_ℤ (assoc_pos a (suc b) c) ∙ sym (times_neg (pos a) (pos (suc b) *ℤ c))
    ∙ ap (λ t. pos a *ℤ t) (sym (neg_times (pos (suc b)) c))

pub times_assoc : (a b c : ℤ) → (a *ℤ b) *ℤ c ≡ a *ℤ (b *ℤ c)
times_assoc (pos a) b c = assoc_first a b c
times_assoc (negsuc a) b c =
    ap (λ t. t *ℤ c) (neg_times (pos (suc a)) b) ∙ neg_times (pos (suc a) *ℤ b) c ∙ ap neg_ℤ (assoc_first (suc a) b c)
    ∙ sym (neg_times (pos (suc a)) (b *ℤ c))

-- Two factors change places.
pub times_exchange : (a b c : ℤ) → a *ℤ (b *ℤ c) ≡ b *ℤ (a *ℤ c)
times_exchange a b c = sym (times_assoc a b c) ∙ ap (λ t. t *ℤ c) (times_comm a b) ∙ times_assoc b a c

-- A sum goes into a product.
pub sum_times : (a b c : ℤ) → (a +ℤ b) *ℤ c ≡ a *ℤ c +ℤ b *ℤ c
sum_times a b c =
    times_comm (a +ℤ b) c ∙ times_sum c a b ∙ ap (λ t. t +ℤ c *ℤ b) (times_comm c a) ∙ ap (λ t. a *ℤ c +ℤ t) (times_comm c b)

-- A resistance times a current is not below 0 exactly where the current is not.
pub at_least_nothing : (r c : ℤ) → pos 1 ≤ℤ r → pos 0 ≤ℤ (r *ℤ c) → pos 0 ≤ℤ c
at_least_nothing r c h l = times_le_out r (pos 0) c h (omega (arith, ints))

pub at_most_nothing : (r c : ℤ) → pos 1 ≤ℤ r → (r *ℤ c) ≤ℤ pos 0 → c ≤ℤ pos 0
at_most_nothing r c h l = times_le_out r c (pos 0) h (omega (arith, ints))

pub is_nothing : (r c : ℤ) → pos 1 ≤ℤ r → r *ℤ c ≡ pos 0 → c ≡ pos 0
is_nothing r c h e =
    let a = at_least_nothing r c h (omega (arith, ints)) in
    let b = at_most_nothing r c h (omega (arith, ints)) in omega (arith, ints)

-- A product is 0 only where a factor is.
pub no_product : (r c : ℤ) → r ≢ pos 0 → r *ℤ c ≡ pos 0 → c ≡ pos 0
no_product (pos zero) c ne e = absurd (ne refl)
no_product (pos (suc n)) c ne e = is_nothing (pos (suc n)) c (omega (arith, ints)) e
no_product (negsuc n) c ne e =
    is_nothing (pos (suc n)) c (omega (arith, ints))
    (let f : neg_ℤ (pos (suc n)) *ℤ c ≡ pos 0 = e in omega (arith, ints, f, neg_times (pos (suc n)) c))

-- A multiple of a denominator is a denominator.
pub at_least : (n d : ℕ) → 1 ≤ n → 1 ≤ d → 1 ≤ n * d
at_least n d a b = omega (arith, mul-le-mul_right d a)

-- What lies within a range over d lies there over a multiple of d.
pub scaled_range : (n d : ℕ) (low high x : ℤ) → ((pos d *ℤ low) ≤ℤ x) × (x ≤ℤ (pos d *ℤ high))
    → ((pos (n * d) *ℤ low) ≤ℤ (pos n *ℤ x)) × ((pos n *ℤ x) ≤ℤ (pos (n * d) *ℤ high))
scaled_range n d low high x h =
    let a = times_le (pos n) (pos d *ℤ low) x (omega (arith, ints)) h.0 in
    let b = times_le (pos n) x (pos d *ℤ high) (omega (arith, ints)) h.1 in
    let e = times_assoc (pos n) (pos d) low in
    let f = times_assoc (pos n) (pos d) high in
    (omega (arith, ints, a, e), omega (arith, ints, b, f))
