-- An interval's verdict by its ends.
use Rattle.std.proofs.Common.{◌≡◌, ℕ, ◌⊎◌, inl, inr, Bool, true, false, ◌&&◌, ◌||◌, if◌then◌else◌, ℤ, pos, neg_ℤ, ◌*ℤ◌, ◌≤ℤ◌, ◌<ℤ◌, Option, Some, None, refl, sym, ap, ◌∙◌, subst, arith}
use Rattle.std.specs.Prelude.{int_le, int_lt}
use Rattle.std.proofs.lemmas.Int.{ints, by_lt_z}
use Rattle.std.proofs.lemmas.Bool.{and_parts}
use Rattle.rounding.specs.Laws.{times_le, times_le_out}
use Rattle.em_rules.specs.declared.words.Verdict.{Verdict}
use Rattle.em_rules.specs.declared.words.Verdict.TheVariants.{Safe, Unsafe, Undecided, NoLimit}
use Rattle.em_rules.specs.Verdict.{LiesIn, EachKeeps, NoneKeeps, IsVerdict, verdict_by_ends}

le_true : (a b : ℤ) → a ≤ℤ b → int_le a b ≡ true
le_true a b h = grind (arith, ints)

le_false : (a b : ℤ) → b <ℤ a → int_le a b ≡ false
le_false a b h = grind (arith, ints)

lt_true : (a b : ℤ) → a <ℤ b → int_lt a b ≡ true
lt_true a b h = grind (arith, ints)

lt_false : (a b : ℤ) → b ≤ℤ a → int_lt a b ≡ false
lt_false a b h = grind (arith, ints)

le_from : (a b : ℤ) → int_le a b ≡ true → a ≤ℤ b
le_from a b h = grind (arith, ints)

lt_from : (a b : ℤ) → int_lt a b ≡ true → a <ℤ b
lt_from a b h = grind (arith, ints)

-- The verdict by the four tests of the ends.
abbrev by_tests : Bool → Bool → Bool → Bool → Verdict
by_tests a b c d = if a && b then Safe else if c || d then Unsafe else Undecided

of_tests : (low high : ℤ) (limit : ℕ) (a b c d : Bool) → int_le (neg_ℤ (pos limit)) low ≡ a → int_le high (pos limit) ≡ b
    → int_lt high (neg_ℤ (pos limit)) ≡ c → int_lt (pos limit) low ≡ d → verdict_by_ends low high (Some limit) ≡ by_tests a b c d
of_tests low high limit a b c d e f g h = λ i. by_tests (e i) (f i) (g i) (h i)

pub safe_by_ends : (low high : ℤ) (limit : ℕ) → low ≤ℤ high → neg_ℤ (pos limit) ≤ℤ low → high ≤ℤ pos limit
    → verdict_by_ends low high (Some limit) ≡ Safe
safe_by_ends low high limit order from to =
    of_tests low high limit true true false false (le_true (neg_ℤ (pos limit)) low from) (le_true high (pos limit) to) (lt_false high (neg_ℤ (pos limit)) (omega (arith, ints))) (lt_false (pos limit) low (omega (arith, ints)))

pub unsafe_below : (low high : ℤ) (limit : ℕ) → low ≤ℤ high → high <ℤ neg_ℤ (pos limit) → verdict_by_ends low high (Some limit) ≡ Unsafe
unsafe_below low high limit order below =
    of_tests low high limit false true true false (le_false (neg_ℤ (pos limit)) low (omega (arith, ints))) (le_true high (pos limit) (omega (arith, ints))) (lt_true high (neg_ℤ (pos limit)) below) (lt_false (pos limit) low (omega (arith, ints)))

pub unsafe_above : (low high : ℤ) (limit : ℕ) → low ≤ℤ high → pos limit <ℤ low → verdict_by_ends low high (Some limit) ≡ Unsafe
unsafe_above low high limit order above =
    of_tests low high limit true false false true (le_true (neg_ℤ (pos limit)) low (omega (arith, ints))) (le_false high (pos limit) (omega (arith, ints))) (lt_false high (neg_ℤ (pos limit)) (omega (arith, ints))) (lt_true (pos limit) low above)

-- The interval begins before the limit's and ends in it or after it, or begins in it and ends after it.
pub open_below : (low high : ℤ) (limit : ℕ) → low <ℤ neg_ℤ (pos limit) → neg_ℤ (pos limit) ≤ℤ high → verdict_by_ends low high (Some limit) ≡ Undecided
open_below low high limit before reaches = by_end (int_le high (pos limit)) refl
  where
    by_end : (b : Bool) → int_le high (pos limit) ≡ b → verdict_by_ends low high (Some limit) ≡ Undecided
    by_end true e = of_tests low high limit false true false false (le_false (neg_ℤ (pos limit)) low before) e (lt_false high (neg_ℤ (pos limit)) reaches) (lt_false (pos limit) low (omega (arith, ints)))
    by_end false e = of_tests low high limit false false false false (le_false (neg_ℤ (pos limit)) low before) e (lt_false high (neg_ℤ (pos limit)) reaches) (lt_false (pos limit) low (omega (arith, ints)))

pub open_above : (low high : ℤ) (limit : ℕ) → neg_ℤ (pos limit) ≤ℤ low → low ≤ℤ pos limit → pos limit <ℤ high → verdict_by_ends low high (Some limit) ≡ Undecided
open_above low high limit from within past =
    of_tests low high limit true false false false (le_true (neg_ℤ (pos limit)) low from) (le_false high (pos limit) past) (lt_false high (neg_ℤ (pos limit)) (omega (arith, ints))) (lt_false (pos limit) low within)

each_keeps : (low high : ℤ) (limit : ℕ) → neg_ℤ (pos limit) ≤ℤ low → high ≤ℤ pos limit → EachKeeps low high limit
each_keeps low high limit from to q z some point = record {
  from = omega (arith, ints, times_le (pos q) (neg_ℤ (pos limit)) low (omega (arith, ints)) from, point.from);
  to = omega (arith, ints, times_le (pos q) high (pos limit) (omega (arith, ints)) to, point.to);
}

none_below : (low high : ℤ) (limit : ℕ) → high <ℤ neg_ℤ (pos limit) → NoneKeeps low high limit
none_below low high limit below q z some point keeps =
    let h : (pos q *ℤ neg_ℤ (pos limit)) ≤ℤ (pos q *ℤ high) = omega (arith, ints, keeps.from, point.to) in
    absurd (omega (arith, ints, times_le_out (pos q) (neg_ℤ (pos limit)) high (omega (arith, ints)) h))

none_above : (low high : ℤ) (limit : ℕ) → pos limit <ℤ low → NoneKeeps low high limit
none_above low high limit above q z some point keeps =
    let h : (pos q *ℤ low) ≤ℤ (pos q *ℤ pos limit) = omega (arith, ints, keeps.to, point.from) in
    absurd (omega (arith, ints, times_le_out (pos q) low (pos limit) (omega (arith, ints)) h))

-- A whole number between two numbers is a point over the denominator 1.
whole : (low high z : ℤ) → low ≤ℤ z → z ≤ℤ high → LiesIn low high 1 z
whole low high z from to = record { from = omega (arith, ints); to = omega (arith, ints) }

not_each : (low high z : ℤ) (limit : ℕ) → low ≤ℤ z → z ≤ℤ high → (z <ℤ neg_ℤ (pos limit)) ⊎ (pos limit <ℤ z) → ¬ EachKeeps low high limit
not_each low high z limit from to (inl past) each = let k = each 1 z (omega arith) (whole low high z from to) in absurd (omega (arith, ints, k.from))
not_each low high z limit from to (inr past) each = let k = each 1 z (omega arith) (whole low high z from to) in absurd (omega (arith, ints, k.to))

not_none : (low high z : ℤ) (limit : ℕ) → low ≤ℤ z → z ≤ℤ high → neg_ℤ (pos limit) ≤ℤ z → z ≤ℤ pos limit → ¬ NoneKeeps low high limit
not_none low high z limit from to least most none =
    none 1 z (omega arith) (whole low high z from to) (whole (neg_ℤ (pos limit)) (pos limit) z least most)

told : (low high : ℤ) (limit : ℕ) (v : Verdict) → verdict_by_ends low high (Some limit) ≡ v → IsVerdict low high (Some limit) v
    → IsVerdict low high (Some limit) (verdict_by_ends low high (Some limit))
told low high limit v e is = subst (λ (w : Verdict). IsVerdict low high (Some limit) w) (sym e) is

-- What the ends tell is what the interval says, in each of the five ways in which two intervals lie.
abbrev Told : ℤ → ℤ → ℕ → Type 0
Told low high limit = IsVerdict low high (Some limit) (verdict_by_ends low high (Some limit))

told_below : (low high : ℤ) (limit : ℕ) → low ≤ℤ high → high <ℤ neg_ℤ (pos limit) → Told low high limit
told_below low high limit order h = told low high limit Unsafe (unsafe_below low high limit order h) (none_below low high limit h)

told_above : (low high : ℤ) (limit : ℕ) → low ≤ℤ high → pos limit <ℤ low → Told low high limit
told_above low high limit order h = told low high limit Unsafe (unsafe_above low high limit order h) (none_above low high limit h)

told_before : (low high : ℤ) (limit : ℕ) → low ≤ℤ high → neg_ℤ (pos limit) ≤ℤ high → low <ℤ neg_ℤ (pos limit) → Told low high limit
told_before low high limit order reaches h =
    told low high limit Undecided (open_below low high limit h reaches)
    (not_each low high low limit (omega (arith, ints)) order (inl h), not_none low high (neg_ℤ (pos limit)) limit (omega (arith, ints)) reaches (omega (arith, ints)) (omega (arith, ints)))

told_past : (low high : ℤ) (limit : ℕ) → low ≤ℤ high → neg_ℤ (pos limit) ≤ℤ low → low ≤ℤ pos limit → pos limit <ℤ high → Told low high limit
told_past low high limit order from begins h =
    told low high limit Undecided (open_above low high limit from begins h)
    (not_each low high high limit order (omega (arith, ints)) (inr h), not_none low high low limit (omega (arith, ints)) order from begins)

told_within : (low high : ℤ) (limit : ℕ) → low ≤ℤ high → neg_ℤ (pos limit) ≤ℤ low → high ≤ℤ pos limit → Told low high limit
told_within low high limit order from to = told low high limit Safe (safe_by_ends low high limit order from to) (each_keeps low high limit from to)

pub ends_tell : (low high : ℤ) (limit : Option ℕ) → low ≤ℤ high → IsVerdict low high limit (verdict_by_ends low high limit)
ends_tell low high None order = tt
ends_tell low high (Some limit) order =
    by_lt_z high (neg_ℤ (pos limit)) (told_below low high limit order) (λ reaches.
    by_lt_z (pos limit) low (told_above low high limit order) (λ begins.
    by_lt_z low (neg_ℤ (pos limit)) (told_before low high limit order reaches) (λ from.
    by_lt_z (pos limit) high (told_past low high limit order from begins) (told_within low high limit order from))))

-- An interval has a current of its own, so not all of its currents keep a limit and none at once.
contrary : (low high : ℤ) (limit : ℕ) → low ≤ℤ high → EachKeeps low high limit → NoneKeeps low high limit → ⊥
contrary low high limit order each none =
    let point = whole low high low (omega (arith, ints)) order in
    none 1 low (omega arith) point (each 1 low (omega arith) point)

pub verdict_unique : (low high : ℤ) (limit : Option ℕ) (a b : Verdict) → low ≤ℤ high → IsVerdict low high limit a → IsVerdict low high limit b → a ≡ b
verdict_unique low high None NoLimit NoLimit order x y = refl
verdict_unique low high None NoLimit Safe order x y = absurd y
verdict_unique low high None NoLimit Unsafe order x y = absurd y
verdict_unique low high None NoLimit Undecided order x y = absurd y
verdict_unique low high None Safe b order x y = absurd x
verdict_unique low high None Unsafe b order x y = absurd x
verdict_unique low high None Undecided b order x y = absurd x
verdict_unique low high (Some limit) Safe Safe order x y = refl
verdict_unique low high (Some limit) Safe Unsafe order x y = absurd (contrary low high limit order x y)
verdict_unique low high (Some limit) Safe Undecided order x y = absurd (y.0 x)
verdict_unique low high (Some limit) Safe NoLimit order x y = absurd y
verdict_unique low high (Some limit) Unsafe Safe order x y = absurd (contrary low high limit order y x)
verdict_unique low high (Some limit) Unsafe Unsafe order x y = refl
verdict_unique low high (Some limit) Unsafe Undecided order x y = absurd (y.1 x)
verdict_unique low high (Some limit) Unsafe NoLimit order x y = absurd y
verdict_unique low high (Some limit) Undecided Safe order x y = absurd (x.0 y)
verdict_unique low high (Some limit) Undecided Unsafe order x y = absurd (x.1 y)
verdict_unique low high (Some limit) Undecided Undecided order x y = refl
verdict_unique low high (Some limit) Undecided NoLimit order x y = absurd y
verdict_unique low high (Some limit) NoLimit b order x y = absurd x

other_word : (b : Bool) → (if b then Unsafe else Undecided) ≡ Safe → ⊥
other_word true e = cc
other_word false e = cc

not_unsafe : Safe ≡ Unsafe → ⊥
not_unsafe e = cc

not_open : Undecided ≡ Unsafe → ⊥
not_open e = cc

-- Without an order of the ends.
pub safe_tells : (low high : ℤ) (limit : ℕ) → verdict_by_ends low high (Some limit) ≡ Safe → EachKeeps low high limit
safe_tells low high limit e = by_test (int_le (neg_ℤ (pos limit)) low && int_le high (pos limit)) refl
  where
    by_test : (b : Bool) → (int_le (neg_ℤ (pos limit)) low && int_le high (pos limit)) ≡ b → EachKeeps low high limit
    by_test true is =
        let parts = and_parts (int_le (neg_ℤ (pos limit)) low) (int_le high (pos limit)) is in
        each_keeps low high limit (le_from (neg_ℤ (pos limit)) low parts.0) (le_from high (pos limit) parts.1)
    by_test false is = absurd (other_word (int_lt high (neg_ℤ (pos limit)) || int_lt (pos limit) low) (sym (ap (λ b. if b then Safe else (if int_lt high (neg_ℤ (pos limit)) || int_lt (pos limit) low then Unsafe else Undecided)) is) ∙ e))

pub unsafe_tells : (low high : ℤ) (limit : ℕ) → verdict_by_ends low high (Some limit) ≡ Unsafe → NoneKeeps low high limit
unsafe_tells low high limit e = by_test (int_le (neg_ℤ (pos limit)) low && int_le high (pos limit)) refl
  where
    by_side : (a b : Bool) → int_lt high (neg_ℤ (pos limit)) ≡ a → int_lt (pos limit) low ≡ b
        → (if int_lt high (neg_ℤ (pos limit)) || int_lt (pos limit) low then Unsafe else Undecided) ≡ Unsafe → NoneKeeps low high limit
    by_side true b is also told = none_below low high limit (lt_from high (neg_ℤ (pos limit)) is)
    by_side false true is also told = none_above low high limit (lt_from (pos limit) low also)
    by_side false false is also told = absurd (not_open (sym (λ i. if is i || also i then Unsafe else Undecided) ∙ told))

    by_test : (b : Bool) → (int_le (neg_ℤ (pos limit)) low && int_le high (pos limit)) ≡ b → NoneKeeps low high limit
    by_test true is = absurd (not_unsafe (sym (ap (λ b. if b then Safe else (if int_lt high (neg_ℤ (pos limit)) || int_lt (pos limit) low then Unsafe else Undecided)) is) ∙ e))
    by_test false is = by_side (int_lt high (neg_ℤ (pos limit))) (int_lt (pos limit) low) refl refl (sym (ap (λ b. if b then Safe else (if int_lt high (neg_ℤ (pos limit)) || int_lt (pos limit) low then Unsafe else Undecided)) is) ∙ e)
