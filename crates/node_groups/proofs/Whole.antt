-- The groups of all nodes, from the numbers and the steps.
use Rattle.std.proofs.Common.{◌≡◌, ℕ, ◌+◌, ◌<◌, arith, sym, ap, subst, ◌∙◌, List, [], ◌++◌, length, get_or, take, drop}
use Rattle.std.specs.List.{range_with_len}
use Rattle.std.proofs.Math.Seq.{take-append_seam}
use Rattle.std.proofs.lemmas.List.FromFn.{length-range_with_len, get_or-range_with_len}
use Rattle.std.proofs.lemmas.List.Elements.{All-from_get_or}
use Rattle.node_groups.specs.Joined.{AreJoined}
use Rattle.node_groups.specs.Groups.{AreGroups}
use Rattle.node_groups.specs.inside.Forest.{LeadsBack, IsByShorts, Joins, AreNumbered}
use Rattle.node_groups.proofs.Chains.{joined_self, joined_trans, joined_back}
use Rattle.node_groups.specs.Laws.{joined_label}
use Rattle.node_groups.proofs.Links.{steps_join}

-- ---- each node by itself
own : (n i : ℕ) → i < length (range_with_len 0 n) → get_or (range_with_len 0 n) i 0 ≡ i
own n i l = get_or-range_with_len 0 n i 0 (omega (arith, l, length-range_with_len 0 n)) ∙ (omega arith)

pub alone_back : (n : ℕ) → LeadsBack (range_with_len 0 n)
alone_back n i l = omega (arith, own n i l)

pub alone_by_shorts : (n : ℕ) (shorts : List (ℕ × ℕ)) → IsByShorts shorts (range_with_len 0 n)
alone_by_shorts n shorts i l = subst (λ (x : ℕ). AreJoined shorts i x) (sym (own n i l)) (joined_self shorts i)

-- Without shorts each node is a group by itself.
pub own_groups_are : (n : ℕ) → AreGroups n [] (range_with_len 0 n) (range_with_len 0 n)
own_groups_are n = record {
  one_a_node = length-range_with_len 0 n;
  joined = λ i j l m. (
    λ same. subst (λ (x : ℕ). AreJoined [] i x) (sym (own' i l) ∙ same ∙ own' j m) (joined_self [] i),
    λ way. joined_label (λ k. get_or nodes k 0) [] (λ k d l. absurd (omega arith)) i j way,
  );
  each_group = All-from_get_or (λ g. g < length nodes) nodes 0 (λ i l. omega (arith, l, own n i l));
  each_first = All-from_get_or (λ first. first < n) nodes 0 (λ i l. omega (arith, l, own n i l, length-range_with_len 0 n));
  of_its_group = λ g l. twice g l;
  first = λ i l. omega (arith, twice i (omega (arith, l, length-range_with_len 0 n)));
  in_order = λ k l. omega (arith, own n k (omega arith), own n (k + 1) l);
}
  where
    nodes : List ℕ
    nodes = range_with_len 0 n

    own' : (i : ℕ) → i < n → get_or (range_with_len 0 n) i 0 ≡ i
    own' i l = own n i (omega (arith, l, length-range_with_len 0 n))

    twice : (i : ℕ) → i < length (range_with_len 0 n) → get_or (range_with_len 0 n) (get_or (range_with_len 0 n) i 0) 0 ≡ i
    twice i l = ap (λ (x : ℕ). get_or (range_with_len 0 n) x 0) (own n i l) ∙ own n i l

-- ---- all nodes
pub groups_of : (n : ℕ) (shorts : List (ℕ × ℕ)) (parents group firsts : List ℕ) → length parents ≡ n → LeadsBack parents
    → IsByShorts shorts parents → Joins shorts parents → AreNumbered parents (length parents) group firsts
    → AreGroups n shorts group firsts
groups_of n shorts parents group firsts e back by joins h = record {
  one_a_node = h.one_a_node ∙ e;
  joined = λ i j l m. (
    λ same. (
        let i' : i < length parents = omega arith in
        let j' : j < length parents = omega arith in
        let one = steps_join shorts parents back by i (first_of i) i' (h.leads i i') in
        let other = steps_join shorts parents back by j (first_of j) j' (h.leads j j') in
        let other' : AreJoined shorts j (first_of i) =
        subst (λ (g : ℕ). AreJoined shorts j (get_or firsts g 0)) (sym same) other in
        joined_trans shorts i (first_of i) j one (joined_back shorts j (first_of i) other')),
    λ way. joined_label (λ k. get_or group k 0) shorts (joins (λ k. get_or group k 0) h.along) i j way,
  );
  each_group = All-from_get_or (λ g. g < length firsts) group 0
      (λ i l. h.each_group i (omega (arith, l, h.one_a_node)));
  each_first = All-from_get_or (λ first. first < n) firsts 0 (λ g l. omega (arith, h.each_first g l, e));
  of_its_group = h.of_its_group;
  first = λ i l. h.first i (omega (arith, l, e));
  in_order = h.in_order;
}
  where
    first_of : ℕ → ℕ
    first_of i = get_or firsts (get_or group i 0) 0

-- What a slice of a vector writes back.
pub written_back : (size : ℕ) (new old : List ℕ) → length new ≡ size → take size (new ++ drop (length new) old) ≡ new
written_back size new old e =
    ap (λ n. take n (new ++ drop (length new) old)) (sym e) ∙ take-append_seam new (drop (length new) old)
