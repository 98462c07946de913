-- What the crates above need of groups, each law with its proof.
use Rattle.std.specs.Prelude.{All}
use Rattle.std.specs.List.Sorted.{IsStrictlyIncreasing}
use Rattle.std.proofs.Common.{◌≡◌, ℕ, zero, suc, ◌<◌, ◌≤◌, inl, inr, arith, sym, ap, ◌∙◌, List, length, get_or, add-one}
use Rattle.std.proofs.lemmas.Bool.{cases_eq, cases_lt}
use Rattle.std.proofs.lemmas.List.Elements.{All-contains}
use Rattle.node_groups.specs.Joined.{IsShorted, IsChain, AreJoined}
use Rattle.node_groups.specs.Groups.{AreGroups}

-- ---- what is the same along each short is the same along chains
module _ {A : Type 0} (label : ℕ → A) (shorts : List (ℕ × ℕ)) (same : All (λ (s : ℕ × ℕ). label s.0 ≡ label s.1) shorts) where
  along : (i j : ℕ) → IsShorted shorts i j → label i ≡ label j
  along i j h = elim h [
    | inl s ↦ All-contains (λ (s : ℕ × ℕ). label s.0 ≡ label s.1) shorts (i, j) same s
    | inr s ↦ sym (All-contains (λ (s : ℕ × ℕ). label s.0 ≡ label s.1) shorts (j, i) same s)
  ]

  chain_label : (k i j : ℕ) → IsChain shorts k i j → label i ≡ label j
  chain_label zero i j e = ap label e
  chain_label (suc k) i j chain = along i chain.0 chain.1 ∙ chain_label k chain.0 j chain.2

  -- Joined nodes have one label.
  pub joined_label : (i j : ℕ) → AreJoined shorts i j → label i ≡ label j
  joined_label i j h = chain_label h.0 i j h.1

-- ---- lists that rise
-- No entry of an increasing list is less than its place.
pub rises : (xs : List ℕ) → IsStrictlyIncreasing xs → (k : ℕ) → k < length xs → k ≤ get_or xs k 0
rises xs up zero l = omega arith
rises xs up (suc k) l =
    let before = rises xs up k (omega arith) in
    let step = up k (omega arith) in
    let here = ap (λ (n : ℕ). get_or xs n 0) (add-one k) in
    omega (arith, before, step, here)

-- An increasing list rises between any two places.
pub rising : (xs : List ℕ) → IsStrictlyIncreasing xs → (a b : ℕ) → a < b → b < length xs → get_or xs a 0 < get_or xs b 0
rising xs up a zero l m = absurd (omega arith)
rising xs up a (suc b) l m = elim (cases_eq a b) [
  | inl e ↦ (
      let step = up b (omega arith) in
      let here = ap (λ (n : ℕ). get_or xs n 0) (add-one b) in
      let same = ap (λ (n : ℕ). get_or xs n 0) e in
      omega (arith, step, here, same))
  | inr ne ↦ (
      let before = rising xs up a b (omega arith) (omega arith) in
      let step = up b (omega arith) in
      let here = ap (λ (n : ℕ). get_or xs n 0) (add-one b) in
      omega (arith, before, step, here))
]

-- An increasing list of numbers below a count has no more of them.
pub at_most_below : (n : ℕ) (xs : List ℕ) → IsStrictlyIncreasing xs → All (λ x. x < n) xs → length xs ≤ n
at_most_below n xs up below = elim (cases_lt n (length xs)) [
  | inl more ↦ absurd (let a = rises xs up n more in let b = below n 0 more in omega arith)
  | inr ge ↦ ge
]

-- There are no more groups than nodes.
pub groups_at_most : (n : ℕ) (shorts : List (ℕ × ℕ)) (group firsts : List ℕ) → AreGroups n shorts group firsts
    → length firsts ≤ n
groups_at_most n shorts group firsts h = at_most_below n firsts h.in_order h.each_first

-- The group of a node is a group.
pub group_of : (n : ℕ) (shorts : List (ℕ × ℕ)) (group firsts : List ℕ) → AreGroups n shorts group firsts → (i : ℕ)
    → i < n → get_or group i 0 < length firsts
group_of n shorts group firsts h i l = h.each_group i 0 (omega (arith, l, h.one_a_node))
