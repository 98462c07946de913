-- Nodes stand in groups in one way.
use Rattle.std.proofs.Common.{◌≡◌, ℕ, zero, suc, ◌<◌, ◌≤◌, arith, List, [], ◌∷◌, length, map, get_or, refl, sym, ap, subst, ◌∙◌, add-one}
use Rattle.std.proofs.lemmas.List.{ext_get_or}
use Rattle.std.specs.List.Sorted.{IsStrictlyIncreasing}
use Rattle.node_groups.specs.Groups.{AreGroups}
use Rattle.node_groups.specs.Laws.{rising}
use Rattle.short_merge.specs.declared.merged.Merged.{Merged}
use Rattle.short_merge.specs.Merged.{IsMerged, merged_cap}
use Rattle.spice_grid.specs.declared.named.Named.{Named}

-- ---- lists that rise and have the same numbers
-- The first number of a list that rises is less than each later one.
above_first : (x : ℕ) (xs : List ℕ) → IsStrictlyIncreasing (x ∷ xs) → (k : ℕ) → k < length xs → x < get_or xs k 0
above_first x xs up k l = rising (x ∷ xs) up 0 (suc k) (omega arith) (omega arith)

rising_tail : (x : ℕ) (xs : List ℕ) → IsStrictlyIncreasing (x ∷ xs) → IsStrictlyIncreasing xs
rising_tail x xs up k l =
    let step = rising (x ∷ xs) up (suc k) (suc (suc k)) (omega arith) (omega arith) in
    let here = ap (λ (n : ℕ). get_or xs n 0) (add-one k) in
    omega (arith, step, here)

-- Each number of the one list stands in the other.
abbrev Within : List ℕ → List ℕ → Type 0
Within xs ys = (k : ℕ) → k < length xs → (j : ℕ) × (j < length ys) × (get_or ys j 0 ≡ get_or xs k 0)

-- The first number is not above the number at a place.
first_least : (x : ℕ) (xs : List ℕ) → IsStrictlyIncreasing (x ∷ xs) → (j : ℕ) → j < length (x ∷ xs) → x ≤ get_or (x ∷ xs) j 0
first_least x xs up zero l = omega arith
first_least x xs up (suc j) l = let h = above_first x xs up j (omega arith) in omega arith

within_tails : (x y : ℕ) (xs ys : List ℕ) → IsStrictlyIncreasing (x ∷ xs) → x ≡ y → Within (x ∷ xs) (y ∷ ys) → Within xs ys
within_tails x y xs ys up same within k l = placed (within (suc k) (omega arith))
  where
    placed : (j : ℕ) × (j < length (y ∷ ys)) × (get_or (y ∷ ys) j 0 ≡ get_or xs k 0) → (j : ℕ) × (j < length ys) × (get_or ys j 0 ≡ get_or xs k 0)
    placed (zero, below, is) = let more = above_first x xs up k l in absurd (omega (arith, is, same, more))
    placed (suc j, below, is) = (j, omega arith, is)

one_rising : (xs ys : List ℕ) → IsStrictlyIncreasing xs → IsStrictlyIncreasing ys → Within xs ys → Within ys xs → xs ≡ ys
one_rising [] [] up up' there back = refl
one_rising [] (y ∷ ys) up up' there back = let h = back 0 (omega arith) in absurd (omega (arith, h.1))
one_rising (x ∷ xs) [] up up' there back = let h = there 0 (omega arith) in absurd (omega (arith, h.1))
one_rising (x ∷ xs) (y ∷ ys) up up' there back =
    let h = there 0 (omega arith) in
    let k = back 0 (omega arith) in
    let low = first_least y ys up' h.0 h.1 in
    let low' = first_least x xs up k.0 k.1 in
    let same : x ≡ y = omega (arith, h.2, k.2, low, low') in
    let rest = one_rising xs ys (rising_tail x xs up) (rising_tail y ys up') (within_tails x y xs ys up same there) (within_tails y x ys xs up' (sym same) back) in
    ap (λ z. z ∷ xs) same ∙ ap (λ zs. y ∷ zs) rest

-- ---- one division into groups
module _ (nodes : ℕ) (shorts : List (ℕ × ℕ)) (group firsts group' firsts' : List ℕ) (a : AreGroups nodes shorts group firsts)
    (b : AreGroups nodes shorts group' firsts') where
  is_group : (i : ℕ) → i < nodes → get_or group i 0 < length firsts
  is_group i l = a.each_group i 0 (subst (λ n. i < n) (sym a.one_a_node) l)

  first_is_node : (g : ℕ) → g < length firsts → get_or firsts g 0 < nodes
  first_is_node g l = a.each_first g 0 l

  -- The first node of a node's group, in the one way, is not before that in the other.
  pub not_before : (i : ℕ) → i < nodes → get_or firsts' (get_or group' i 0) 0 ≤ get_or firsts (get_or group i 0) 0
  not_before i l =
      let x = get_or firsts (get_or group i 0) 0 in
      let node : x < nodes = first_is_node (get_or group i 0) (is_group i l) in
      let same : get_or group x 0 ≡ get_or group i 0 = a.of_its_group (get_or group i 0) (is_group i l) in
      let same' : get_or group' x 0 ≡ get_or group' i 0 = (b.joined x i node l).1 ((a.joined x i node l).0 same) in
      subst (λ g. get_or firsts' g 0 ≤ x) same' (b.first x node)

module _ (nodes : ℕ) (shorts : List (ℕ × ℕ)) (group firsts group' firsts' : List ℕ) (a : AreGroups nodes shorts group firsts)
    (b : AreGroups nodes shorts group' firsts') where
  -- The first node of a node's group is one.
  one_first : (i : ℕ) → i < nodes → get_or firsts (get_or group i 0) 0 ≡ get_or firsts' (get_or group' i 0) 0
  one_first i l =
      let h = not_before nodes shorts group firsts group' firsts' a b i l in
      let k = not_before nodes shorts group' firsts' group firsts b a i l in omega arith

  pub firsts_within : Within firsts firsts'
  firsts_within g l =
      let x = get_or firsts g 0 in
      let node : x < nodes = a.each_first g 0 l in
      let its : get_or group x 0 ≡ g = a.of_its_group g l in
      let same : x ≡ get_or firsts' (get_or group' x 0) 0 = ap (λ z. get_or firsts z 0) (sym its) ∙ one_first x node in
      (get_or group' x 0, b.each_group x 0 (subst (λ n. x < n) (sym b.one_a_node) node), sym same)

module _ (nodes : ℕ) (shorts : List (ℕ × ℕ)) (group firsts group' firsts' : List ℕ) (a : AreGroups nodes shorts group firsts)
    (b : AreGroups nodes shorts group' firsts') where
  pub one_firsts : firsts ≡ firsts'
  one_firsts =
      one_rising firsts firsts' a.in_order b.in_order (firsts_within nodes shorts group firsts group' firsts' a b)
      (firsts_within nodes shorts group' firsts' group firsts b a)

  pub one_group : group ≡ group'
  one_group = ext_get_or 0 group group' (a.one_a_node ∙ sym b.one_a_node) (λ i l.
      let node : i < nodes = subst (λ n. i < n) a.one_a_node l in
      let g = get_or group i 0 in
      let g' = get_or group' i 0 in
      let in_firsts : g < length firsts = a.each_group i 0 l in
      let in_firsts' : g' < length firsts' = b.each_group i 0 (subst (λ n. i < n) (sym b.one_a_node) node) in
      let in_both : g' < length firsts = subst (λ fs. g' < length fs) (sym one_firsts) in_firsts' in
      let same : get_or firsts g 0 ≡ get_or firsts g' 0 =
      one_first nodes shorts group firsts group' firsts' a b i node ∙ ap (λ fs. get_or fs g' 0) (sym one_firsts) in
      sym (a.of_its_group g in_firsts) ∙ ap (λ x. get_or group x 0) same ∙ a.of_its_group g' in_both)

-- ---- one merged network
abbrev the_merged : Merged → Merged
the_merged a = a

same_merged : (a b : Merged) → a.net ≡ b.net → a.names ≡ b.names → a.group ≡ b.group → a.caps ≡ b.caps → a ≡ b
same_merged a b e f g h =
    ap (λ z. the_merged (record { net = z; names = a.names; group = a.group; caps = a.caps })) e
    ∙ ap (λ z. the_merged (record { net = b.net; names = z; group = a.group; caps = a.caps })) f
    ∙ ap (λ z. the_merged (record { net = b.net; names = b.names; group = z; caps = a.caps })) g
    ∙ ap (λ z. the_merged (record { net = b.net; names = b.names; group = b.group; caps = z })) h

-- A netlist has one merged network.
pub one_merged : (named : Named) (a b : Merged) → IsMerged named a → IsMerged named b → a ≡ b
one_merged named a b x y =
    let fs : x.firsts ≡ y.firsts = one_firsts named.net.nodes named.shorts a.group x.firsts b.group y.firsts x.groups y.groups in
    let g : a.group ≡ b.group = one_group named.net.nodes named.shorts a.group x.firsts b.group y.firsts x.groups y.groups in
    let net : a.net ≡ b.net = let p = x.network in let q = y.network in cc in
    let names : a.names ≡ b.names = let p = x.names in let q = y.names in cc in
    let caps : a.caps ≡ b.caps = x.caps ∙ ap (λ z. map (merged_cap z) named.caps) g ∙ sym y.caps in
    same_merged a b net names g caps
