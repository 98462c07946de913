-- The shares of a load: their sum, and that each rises where the load does.
use Rattle.std.proofs.Common.{◌≡◌, ℕ, zero, suc, ◌+◌, ◌*◌, ◌/◌, ◌%◌, ◌<◌, ◌≤◌, min, ℤ, pos, negsuc, neg_ℤ, ◌+ℤ◌, ◌≤ℤ◌, unsigned_abs, cond, ltb, map, refl, sym, ap, ◌∙◌, subst, arith, div-add-mod', mod-lt, mul-le-mul_right, All, SFits, w64, to_z, of_z}
use Rattle.std.specs.List.{range_with_len}
use Rattle.std.proofs.lemmas.Int.{ints, to_z-of_z}
use Rattle.std.proofs.lemmas.Bool.Decides.{nat_tests}
use Rattle.std.proofs.lemmas.List.FromFn.{map-range_with_len_more, length-map-range_with_len, get_or-map-range_with_len}
use Rattle.std.proofs.lemmas.List.Sums.{fold_push}
use Rattle.load_shares.specs.declared.share.Share.{Share}
use Rattle.load_shares.specs.Laws.Rising.{rises}
use Rattle.load_shares.specs.Shares.{share_size, with_sign_of, end_share, share_at, shares_of, total}
use Rattle.std.specs.Prelude.{int_div, int_rem, ◌<ℤ◌, ◌-ℤ◌}

-- One more share.
grows : (part rest n : ℕ) → n * part + min n rest + (part + cond (ltb n rest) 1 0) ≡ (n + 1) * part + min (n + 1) rest
grows part rest n = grind (arith, nat_tests)

sign_sum : (whole : ℤ) (a b : ℕ) → with_sign_of whole a +ℤ with_sign_of whole b ≡ with_sign_of whole (a + b)
sign_sum (pos whole) a b = omega (arith, ints)
sign_sum (negsuc whole) a b = omega (arith, ints)

no_size : (whole : ℤ) → pos 0 ≡ with_sign_of whole 0
no_size (pos whole) = refl
no_size (negsuc whole) = refl

own_size : (whole : ℤ) → with_sign_of whole (unsigned_abs whole) ≡ whole
own_size (pos whole) = refl
own_size (negsuc whole) = refl

-- The sum of an end of the first n shares.
first_sum : (end : Share → ℤ) (whole : ℤ) (load : Share) (count : ℕ)
    → ((place : ℕ) → end (share_at load count place) ≡ end_share whole count place) → (n : ℕ)
    → total end (map (share_at load count) (range_with_len 0 n))
    ≡ with_sign_of whole (n * (unsigned_abs whole / count) + min n (unsigned_abs whole % count))
first_sum end whole load count is zero = no_size whole ∙ ap (with_sign_of whole) (omega arith)
first_sum end whole load count is (suc n) =
    let part = unsigned_abs whole / count in
    let rest = unsigned_abs whole % count in
    let before = map (share_at load count) (range_with_len 0 n) in
    let next : suc n ≡ n + 1 = omega arith in
    ap (total end) (ap (λ m. map (share_at load count) (range_with_len 0 m)) next ∙ map-range_with_len_more (share_at load count) 0 n n (omega arith))
    ∙ fold_push (λ (sum : ℤ) (share : Share). sum +ℤ end share) (pos 0) before (share_at load count n)
    ∙ ap (λ (sum : ℤ). sum +ℤ end (share_at load count n)) (first_sum end whole load count is n)
    ∙ ap (λ (last : ℤ). with_sign_of whole (n * part + min n rest) +ℤ last) (is n)
    ∙ sign_sum whole (n * part + min n rest) (share_size (unsigned_abs whole) count n)
    ∙ ap (with_sign_of whole) (grows part rest n ∙ omega arith)

-- The sum of an end of all shares is that end.
pub whole_sum : (end : Share → ℤ) (whole : ℤ) (load : Share) (count : ℕ) → 0 < count
    → ((place : ℕ) → end (share_at load count place) ≡ end_share whole count place)
    → total end (shares_of load count) ≡ whole
whole_sum end whole load count some is =
    let size = unsigned_abs whole in
    let rest : size % count < count = mod-lt size some in
    let split = div-add-mod' size count in
    first_sum end whole load count is count ∙ ap (with_sign_of whole) (omega arith) ∙ own_size whole

-- The share of an end by Rust's `/` and `%`, which go towards 0.
pub share_more : (whole : ℤ) (count place : ℕ) → 0 < count → pos place <ℤ int_rem whole (pos count)
    → int_div whole (pos count) +ℤ pos 1 ≡ end_share whole count place
share_more (pos a) count place some less = grind (arith, ints, nat_tests)
share_more (negsuc a) count place some less = absurd (omega (arith, ints))

pub share_less : (whole : ℤ) (count place : ℕ) → 0 < count → pos place <ℤ neg_ℤ (int_rem whole (pos count))
    → int_div whole (pos count) -ℤ pos 1 ≡ end_share whole count place
share_less (pos a) count place some less = absurd (omega (arith, ints))
share_less (negsuc a) count place some less = grind (arith, ints, nat_tests)

pub share_even : (whole : ℤ) (count place : ℕ) → 0 < count → int_rem whole (pos count) ≤ℤ pos place
    → neg_ℤ (int_rem whole (pos count)) ≤ℤ pos place → int_div whole (pos count) ≡ end_share whole count place
share_even (pos a) count place some low high = grind (arith, ints, nat_tests)
share_even (negsuc a) count place some low high = grind (arith, ints, nat_tests)

-- It fits where the end does.
pub less_fits : (whole : ℤ) (count place : ℕ) → 0 < count → SFits w64 whole → pos place <ℤ neg_ℤ (int_rem whole (pos count))
    → SFits w64 (int_div whole (pos count) -ℤ pos 1)
less_fits (pos a) count place some fits less = absurd (omega (arith, ints))
less_fits (negsuc a) count place some fits less =
    let rest : suc a % count < count = mod-lt (suc a) some in
    let more : 2 ≤ count = omega (arith, ints) in
    let half : 2 * (suc a / count) ≤ count * (suc a / count) = mul-le-mul_right (suc a / count) more in
    let split = div-add-mod' (suc a) count in
    let size : suc a ≤ 9223372036854775808 = omega (arith, ints) in
    omega (arith, ints)

-- The code's words for it.
pub less_is : (whole from : ℤ) (count : ℕ) → SFits w64 whole → from ≡ pos count → SFits w64 (pos count) → SFits w64 (int_div whole (pos count))
    → SFits w64 (int_div whole (pos count) -ℤ pos 1)
    → to_z w64 (of_z w64 (to_z w64 (of_z w64 (int_div (to_z w64 (of_z w64 whole)) (to_z w64 (of_z w64 from)))) -ℤ pos 1))
    ≡ int_div whole (pos count) -ℤ pos 1
less_is whole from count fits is count_fits part_fits less_fit =
    let divided : int_div (to_z w64 (of_z w64 whole)) (to_z w64 (of_z w64 from)) ≡ int_div whole (pos count) =
    ap (λ z. int_div z (to_z w64 (of_z w64 from))) (to_z-of_z w64 whole fits) ∙ ap (λ z. int_div whole (to_z w64 (of_z w64 z))) is
    ∙ ap (int_div whole) (to_z-of_z w64 (pos count) count_fits) in
    ap (λ z. to_z w64 (of_z w64 (to_z w64 (of_z w64 z) -ℤ pos 1))) divided
    ∙ ap (λ z. to_z w64 (of_z w64 (z -ℤ pos 1))) (to_z-of_z w64 (int_div whole (pos count)) part_fits)
    ∙ to_z-of_z w64 (int_div whole (pos count) -ℤ pos 1) less_fit

-- Where the load rises each share does.
pub all_rise : (load : Share) (count : ℕ) → 0 < count → load.low ≤ℤ load.high → All (λ (s : Share). s.low ≤ℤ s.high) (shares_of load count)
all_rise load count some le k d less =
    let within : k < count = omega (arith, length-map-range_with_len (share_at load count) 0 count) in
    subst (λ (s : Share). s.low ≤ℤ s.high) (sym (get_or-map-range_with_len (share_at load count) 0 count k k d within (omega arith)))
    (rises load.low load.high count k some le)
