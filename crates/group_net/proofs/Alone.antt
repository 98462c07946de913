-- Without shorts each node is a group by itself.
use Rattle.std.proofs.Common.{◌≡◌, ℕ, zero, suc, ◌<◌, ◌≤◌, inl, inr, arith, sym, ap, ◌∙◌, List, [], length, get_or}
use Rattle.std.specs.List.{range_with_len}
use Rattle.std.proofs.lemmas.Bool.{cases_lt, cases_eq}
use Rattle.std.proofs.lemmas.List.{ext_get_or}
use Rattle.std.proofs.lemmas.List.FromFn.{length-range_with_len, get_or-range_with_len}
use Rattle.node_groups.specs.Joined.{IsShorted, IsChain}
use Rattle.node_groups.specs.Groups.{AreGroups}
use Rattle.node_groups.specs.Laws.{groups_at_most, group_of as group_is_one, rises, rising}

no_short : (i j : ℕ) → IsShorted [] i j → ⊥
no_short i j h = elim h [
  | inl s ↦ (let l = s.1 in omega arith)
  | inr s ↦ (let l = s.1 in omega arith)
]

pub one_node : (k i j : ℕ) → IsChain [] k i j → i ≡ j
one_node zero i j e = e
one_node (suc k) i j chain = absurd (no_short i chain.0 chain.1)

module _ (n : ℕ) (group firsts : List ℕ) (h : AreGroups n [] group firsts) where
  group_of : (i : ℕ) → i < n → get_or group i 0 < length firsts
  group_of = group_is_one n [] group firsts h

  first_is : (i : ℕ) → i < n → get_or firsts (get_or group i 0) 0 ≡ i
  first_is i l =
      let g = group_of i l in
      let node : get_or firsts (get_or group i 0) 0 < n = h.each_first (get_or group i 0) 0 g in
      let way = (h.joined (get_or firsts (get_or group i 0) 0) i node l).0 (h.of_its_group (get_or group i 0) g) in
      one_node way.0 (get_or firsts (get_or group i 0) 0) i way.1

  no_later : (i : ℕ) → i < n → get_or group i 0 ≤ i
  no_later i l = let a = rises firsts h.in_order (get_or group i 0) (group_of i l) in omega (arith, a, first_is i l)

  no_earlier : (i : ℕ) → i < n → i ≤ get_or group i 0
  no_earlier zero l = omega arith
  no_earlier (suc i) l =
      let l' : i < n = omega arith in
      let before = no_earlier i l' in
      let one = first_is i l' in
      let next = first_is (suc i) l in
      elim (cases_lt (get_or group i 0) (get_or group (suc i) 0)) [
        | inl lt ↦ omega arith
        | inr ge ↦ absurd (elim (cases_eq (get_or group (suc i) 0) (get_or group i 0)) [
          | inl e ↦ (let same = ap (λ (g : ℕ). get_or firsts g 0) e in omega (arith, same, one, next))
          | inr ne ↦ (
              let up = rising firsts h.in_order (get_or group (suc i) 0) (get_or group i 0) (omega arith) (group_of i l') in
              omega (arith, up, one, next))
        ])
      ]

  pub alone : (i : ℕ) → i < n → get_or group i 0 ≡ i
  alone i l = let a = no_later i l in let b = no_earlier i l in omega (arith, a, b)

  pub as_many : length firsts ≡ n
  as_many = elim (cases_lt (length firsts) n) [
    | inl fewer ↦ absurd (let a = group_of (length firsts) fewer in let b = alone (length firsts) fewer in omega (arith, a, b))
    | inr ge ↦ (let a = groups_at_most n [] group firsts h in omega (arith, a, ge))
  ]

  pub group_is : group ≡ range_with_len 0 n
  group_is = ext_get_or 0 group (range_with_len 0 n) (h.one_a_node ∙ sym (length-range_with_len 0 n))
      (λ i l. let l' : i < n = omega (arith, l, h.one_a_node) in
      omega (arith, alone i l', get_or-range_with_len 0 n i 0 l'))

  pub firsts_is : firsts ≡ range_with_len 0 n
  firsts_is = ext_get_or 0 firsts (range_with_len 0 n) (as_many ∙ sym (length-range_with_len 0 n))
      (λ g l. let l' : g < n = omega (arith, l, as_many) in
      let node : get_or firsts g 0 < n = h.each_first g 0 l in
      let a = alone (get_or firsts g 0) node in
      let b = h.of_its_group g l in
      omega (arith, a, b, get_or-range_with_len 0 n g 0 l'))
