use Rattle.std.proofs.Common.{◌≡◌, ℕ, ◌+◌, ◌<◌, ◌≤◌, [], List, ◌∷◌, length, drop, get_or, ap, sym, ◌∙◌, arith}
use Rattle.std.specs.Char.{to_ascii_lowercase}
use Rattle.std.specs.Ordering.{nat_cmp, is_ne}
use Rattle.std.specs.Cmp.Lexicographic.{slice_cmp}
use Rattle.std.proofs.lemmas.List.{length-drop, length-map}
use Rattle.node_names.specs.Folding.{folded}
use Rattle.node_names.proofs.FoldedLemmas.{drop_folded, drop_ended, at_rests, decided, left_open, first_ended}
use Rattle.node_names.proofs.key.order.Goals as goal

-- The first bytes of the two rests.
rests : (first second : List ℕ) (i : ℕ) → i < length first → i < length second
    → slice_cmp nat_cmp (drop i (folded first)) (drop i (folded second)) ≡ slice_cmp nat_cmp (to_ascii_lowercase (get_or first i 0) ∷ drop (i + 1) (folded first)) (to_ascii_lowercase (get_or second i 0) ∷ drop (i + 1) (folded second))
rests first second i in_first in_second = at_rests (slice_cmp nat_cmp) (drop_folded first i in_first) (drop_folded second i in_second)

pub returns-then-i-second : goal.returns-then-i-second
returns-then-i-second c =
    let past : length c.args.second.now ≤ c.loop-i.i = omega (arith, c.if-i-second.true) in
    sym (c.loop-i.invariant.1 ∙ at_rests (slice_cmp nat_cmp) (drop_folded c.args.first.now c.loop-i.i c.loop-i-test.true) (drop_ended c.args.second.now c.loop-i.i past))

pub returns-then-is_ne : goal.returns-then-is_ne
returns-then-is_ne c =
    let within : c.loop-i.i < length c.args.second.now = omega (arith, c.loop-i.invariant.0, c.if-i-second.false) in
    let compared = c.cmp-order.ensures ∙ at_bytes _ _ _ _ c.to_ascii_lowercase.ensures.value c.to_ascii_lowercase-in-loop-i.ensures.value in
    let apart = ap is_ne (sym compared) ∙ sym c.is_ne.ensures ∙ c.if-is_ne.true in
    compared ∙ sym (c.loop-i.invariant.1 ∙ rests c.args.first.now c.args.second.now c.loop-i.i c.loop-i-test.true within ∙ decided _ _ apart)
  where
    at_bytes : (x y v w : ℕ) → x ≡ v → y ≡ w → nat_cmp x y ≡ nat_cmp v w
    at_bytes x y v w e f = λ i. nat_cmp (e i) (f i)

pub loop-i-preserved : goal.loop-i-preserved
loop-i-preserved c =
    let within : c.loop-i.i < length c.args.second.now = omega (arith, c.loop-i.invariant.0, c.if-i-second.false) in
    let compared = c.cmp-order.ensures ∙ at_bytes _ _ _ _ c.to_ascii_lowercase.ensures.value c.to_ascii_lowercase-in-loop-i.ensures.value in
    let tied = ap is_ne (sym compared) ∙ sym c.is_ne.ensures ∙ c.if-is_ne.false in
    (omega (arith, within), c.loop-i.invariant.1 ∙ rests c.args.first.now c.args.second.now c.loop-i.i c.loop-i-test.true within ∙ left_open _ _ tied)
  where
    at_bytes : (x y v w : ℕ) → x ≡ v → y ≡ w → nat_cmp x y ≡ nat_cmp v w
    at_bytes x y v w e f = λ i. nat_cmp (e i) (f i)

-- The first name has ended at the end of the loop.
ended : (first second : List ℕ) (i : ℕ) → length first ≤ i → slice_cmp nat_cmp (drop i (folded first)) (drop i (folded second)) ≡ slice_cmp nat_cmp [] (drop i (folded second))
ended first second i past = at_rests (slice_cmp nat_cmp) (drop_ended first i past) (λ j. drop i (folded second))

pub returns-then-first-second : goal.returns-then-first-second
returns-then-first-second c =
    let some : 0 < length (drop c.loop-i.i (folded c.args.second.now)) = omega (arith, length-drop c.loop-i.i (folded c.args.second.now), length-map c.args.second.now to_ascii_lowercase, c.if-first-second.true, c.loop-i.auto.i-end) in
    sym (c.loop-i.invariant.1 ∙ ended c.args.first.now c.args.second.now c.loop-i.i (omega (arith, c.loop-i-test.false)) ∙ first_ended _ some)
