-- Groups numbered in the order of the nodes that lead to themselves, one more node at a time.
use Rattle.std.proofs.Common.{◌≡◌, ◌≢◌, ℕ, ◌+◌, ◌<◌, ◌≤◌, inl, inr, arith, refl, sym, ap, subst, ◌∙◌, List, [], ◌∷◌, ◌++◌, length, get_or}
use Rattle.std.proofs.lemmas.Bool.{cases_lt}
use Rattle.std.proofs.lemmas.List.{get_or_append_left, get_or_push, length_push}
use Rattle.node_groups.specs.inside.Forest.{LeadsBack, LeadsTo, AreNumbered}
use Rattle.node_groups.proofs.Steps.{leads_trans, leads_step, leads_nowhere}

module _ (parents group firsts : List ℕ) (count : ℕ) (h : AreNumbered parents count group firsts)
    (l : count < length parents) (back : LeadsBack parents) where
  earlier : (x i : ℕ) → i < count → get_or (group ++ x ∷ []) i 0 ≡ get_or group i 0
  earlier x i m = get_or_append_left group (x ∷ []) 0 i (omega (arith, h.one_a_node, m))

  last : (x : ℕ) → get_or (group ++ x ∷ []) count 0 ≡ x
  last x = get_or_push group x 0 count h.one_a_node

  earlier_first : (x g : ℕ) → g < length firsts → get_or (firsts ++ x ∷ []) g 0 ≡ get_or firsts g 0
  earlier_first x g m = get_or_append_left firsts (x ∷ []) 0 g m

  last_first : (x : ℕ) → get_or (firsts ++ x ∷ []) (length firsts) 0 ≡ x
  last_first x = get_or_push firsts x 0 (length firsts) refl

  old_or_new : (i n : ℕ) → i < n + 1 → (P : ℕ → Type 0) → ((j : ℕ) → j < n → P j) → P n → P i
  old_or_new i n m P old new = elim (cases_lt i n) [
    | inl lt ↦ old i lt
    | inr ge ↦ (let e : i ≡ n = omega arith in subst P (sym e) new)
  ]

  -- A node that leads to itself is the first of a new group.
  module _ (own : get_or parents count 0 ≡ count) where
    abbrev more : List ℕ
    more = group ++ length firsts ∷ []

    abbrev more_firsts : List ℕ
    more_firsts = firsts ++ count ∷ []

    first_of_old : (i : ℕ) → i < count → get_or more_firsts (get_or more i 0) 0 ≡ get_or firsts (get_or group i 0) 0
    first_of_old i m = ap (λ (g : ℕ). get_or more_firsts g 0) (earlier (length firsts) i m)
        ∙ earlier_first count (get_or group i 0) (h.each_group i m)

    first_of_new : get_or more_firsts (get_or more count 0) 0 ≡ count
    first_of_new = ap (λ (g : ℕ). get_or more_firsts g 0) (last (length firsts)) ∙ last_first count

    pub number_first : AreNumbered parents (count + 1) more more_firsts
    number_first = record {
      one_a_node = length_push group (length firsts) ∙ ap (λ (n : ℕ). n + 1) h.one_a_node;
      no_more = omega (arith, length_push firsts count, h.no_more);
      each_group = λ i m. old_or_new i count m (λ j. get_or more j 0 < length more_firsts)
          (λ j b. omega (arith, earlier (length firsts) j b, h.each_group j b, length_push firsts count))
          (omega (arith, last (length firsts), length_push firsts count));
      each_first = λ g m. old_or_new g (length firsts) (omega (arith, m, length_push firsts count))
          (λ j. get_or more_firsts j 0 < count + 1)
          (λ j b. omega (arith, earlier_first count j b, h.each_first j b))
          (omega (arith, last_first count));
      of_its_group = λ g m. old_or_new g (length firsts) (omega (arith, m, length_push firsts count))
          (λ j. get_or more (get_or more_firsts j 0) 0 ≡ j)
          (λ j b. ap (λ (x : ℕ). get_or more x 0) (earlier_first count j b)
          ∙ earlier (length firsts) (get_or firsts j 0) (h.each_first j b) ∙ h.of_its_group j b)
          (ap (λ (x : ℕ). get_or more x 0) (last_first count) ∙ last (length firsts));
      along = λ i m. old_or_new i count m (λ j. get_or more j 0 ≡ get_or more (get_or parents j 0) 0)
          (λ j b. let p = back j (omega (arith, l, b)) in earlier (length firsts) j b ∙ h.along j b
          ∙ sym (earlier (length firsts) (get_or parents j 0) (omega (arith, p, b))))
          (ap (λ (x : ℕ). get_or more x 0) (sym own));
      first = λ i m. old_or_new i count m (λ j. get_or more_firsts (get_or more j 0) 0 ≤ j)
          (λ j b. omega (arith, first_of_old j b, h.first j b)) (omega (arith, first_of_new));
      leads = λ i m. old_or_new i count m (λ j. LeadsTo parents j (get_or more_firsts (get_or more j 0) 0))
          (λ j b. subst (λ (x : ℕ). LeadsTo parents j x) (sym (first_of_old j b)) (h.leads j b))
          (subst (λ (x : ℕ). LeadsTo parents count x) (sym first_of_new) (leads_nowhere parents count));
      in_order = λ k m. elim (cases_lt (k + 1) (length firsts)) [
        | inl lt ↦ omega (arith, earlier_first count k (omega (arith, lt)), earlier_first count (k + 1) lt, h.in_order k lt)
        | inr ge ↦ (
            let e : k + 1 ≡ length firsts = omega (arith, m, ge, length_push firsts count) in
            let k' : k < length firsts = omega (arith, e) in
            let t : get_or more_firsts (k + 1) 0 ≡ count = ap (λ (g : ℕ). get_or more_firsts g 0) e ∙ last_first count in
            omega (arith, earlier_first count k k', h.each_first k k', t))
      ];
    }

  -- Any other node is of the group of the node that it leads to.
  module _ (other : get_or parents count 0 ≢ count) where
    abbrev parent : ℕ
    parent = get_or parents count 0

    abbrev longer : List ℕ
    longer = group ++ get_or group parent 0 ∷ []

    parent_before : parent < count
    parent_before = let b = back count l in omega (arith, b, other)

    pub number_other : AreNumbered parents (count + 1) longer firsts
    number_other = let before = parent_before in record {
      one_a_node = length_push group (get_or group parent 0) ∙ ap (λ (n : ℕ). n + 1) h.one_a_node;
      no_more = omega (arith, h.no_more);
      each_group = λ i m. old_or_new i count m (λ j. get_or longer j 0 < length firsts)
          (λ j b. omega (arith, earlier (get_or group parent 0) j b, h.each_group j b))
          (omega (arith, last (get_or group parent 0), h.each_group parent before));
      each_first = λ g m. omega (arith, h.each_first g m);
      of_its_group = λ g m. earlier (get_or group parent 0) (get_or firsts g 0) (h.each_first g m) ∙ h.of_its_group g m;
      along = λ i m. old_or_new i count m (λ j. get_or longer j 0 ≡ get_or longer (get_or parents j 0) 0)
          (λ j b. let p = back j (omega (arith, l, b)) in earlier (get_or group parent 0) j b ∙ h.along j b
          ∙ sym (earlier (get_or group parent 0) (get_or parents j 0) (omega (arith, p, b))))
          (last (get_or group parent 0) ∙ sym (earlier (get_or group parent 0) parent before));
      first = λ i m. old_or_new i count m (λ j. get_or firsts (get_or longer j 0) 0 ≤ j)
          (λ j b. omega (arith, ap (λ (g : ℕ). get_or firsts g 0) (earlier (get_or group parent 0) j b), h.first j b))
          (omega (arith, ap (λ (g : ℕ). get_or firsts g 0) (last (get_or group parent 0)), h.first parent before, before));
      leads = λ i m. old_or_new i count m (λ j. LeadsTo parents j (get_or firsts (get_or longer j 0) 0))
          (λ j b. subst (λ (x : ℕ). LeadsTo parents j (get_or firsts x 0)) (sym (earlier (get_or group parent 0) j b))
          (h.leads j b))
          (subst (λ (x : ℕ). LeadsTo parents count (get_or firsts x 0)) (sym (last (get_or group parent 0)))
          (leads_trans parents count parent (get_or firsts (get_or group parent 0) 0) (leads_step parents count)
          (h.leads parent before)));
      in_order = h.in_order;
    }
