-- Without shorts each node is a group by itself, and two pads of one node are one.
use Rattle.std.proofs.Common.{◌≡◌, ℕ, zero, suc, ◌+◌, ◌<◌, List, [], ◌∷◌, length, map, get_or, refl, sym, ◌∙◌, ap, arith, inl, inr}
use Rattle.std.specs.Prelude.{slice_index, slice_index_or}
use Rattle.std.specs.List.{range_with_len}
use Rattle.std.proofs.lemmas.Bool.{cases_eq, cases_lt}
use Rattle.std.proofs.lemmas.List.{ext_get_or, get_or_default, length-map}
use Rattle.std.proofs.lemmas.List.FromFn.{length-range_with_len, get_or-range_with_len, length-map-range_with_len, get_or-map-range_with_len}
use Rattle.std.proofs.lemmas.List.Elements.{All-from_get_or}
use Rattle.node_groups.specs.Joined.{IsShorted, IsChain}
use Rattle.node_groups.specs.Groups.{AreGroups}
use Rattle.node_groups.specs.Laws.{rising}
use Rattle.grid_net.specs.declared.part.Pad.{Pad}
use Rattle.grid_net.specs.Building.{PadsAgree}
use Rattle.grid_net.specs.Limits.{IsBuilt}
use Rattle.grid_net.specs.Network.{Network}
use Rattle.group_net.specs.Merging.{PadsOfGroupsAgree, merged_network}
use Rattle.short_merge.specs.declared.merged.Merged.{Merged}
use Rattle.short_merge.specs.Merged.{IsMerged}
use Rattle.written_netlists.specs.Fits.{read_back}
use Rattle.written_netlists.specs.Alone.{unmerged}

-- ## groups

pub in_range : (n : ℕ) (i : ℕ) → i < n → slice_index (range_with_len 0 n) i ≡ i
in_range n i l = get_or-range_with_len 0 n i 0 l ∙ (let e : 0 + i ≡ i = omega arith in e)

no_short : (i j : ℕ) → IsShorted [] i j → ⊥
no_short i j (inl s) = let l = s.1 in omega arith
no_short i j (inr s) = let l = s.1 in omega arith

one_node : (k i j : ℕ) → IsChain [] k i j → i ≡ j
one_node zero i j e = e
one_node (suc k) i j chain = absurd (no_short i chain.0 chain.1)

-- Without shorts each node is its own group.
pub alone : (n : ℕ) → AreGroups n [] (range_with_len 0 n) (range_with_len 0 n)
alone n =
    let all : List ℕ = range_with_len 0 n in
    let count = length-range_with_len 0 n in
    record {
      one_a_node = count;
      joined = λ i j l m. (
        (λ e. (0, sym (in_range n i l) ∙ e ∙ in_range n j m)),
        (λ way. in_range n i l ∙ one_node way.0 i j way.1 ∙ sym (in_range n j m)),
      );
      each_group = All-from_get_or (λ g. g < length all) all 0 (λ i l. omega (arith, l, count, in_range n i (omega (arith, l, count))));
      each_first = All-from_get_or (λ g. g < n) all 0 (λ i l. omega (arith, l, count, in_range n i (omega (arith, l, count))));
      of_its_group = λ g l. (let m : g < n = omega (arith, l, count) in ap (slice_index all) (in_range n g m) ∙ in_range n g m);
      first = λ i l. (let e = ap (slice_index all) (in_range n i l) ∙ in_range n i l in omega (arith, e));
      in_order = λ k l. (let m : k + 1 < n = omega (arith, l, count) in omega (arith, in_range n k (omega (arith, m)), in_range n (k + 1) m));
    }

-- ## pads

-- Two pads of one node are one.
nodes_at : (pads : List Pad) (i : ℕ) (d : Pad) → i < length pads → get_or (map (λ (p : Pad). p.node) pads) i 0 ≡ (get_or pads i d).node
nodes_at [] i d l = absurd (omega arith)
nodes_at (p ∷ pads) zero d l = refl
nodes_at (p ∷ pads) (suc i) d l = nodes_at pads i d (omega arith)

pub pads_agree : (net : Network) → IsBuilt net → PadsAgree net.pads
pads_agree net built i d l j g m same =
    let nodes : List ℕ = map (λ (p : Pad). p.node) net.pads in
    let count = length-map net.pads (λ (p : Pad). p.node) in
    let first = nodes_at net.pads i d l in
    let second = nodes_at net.pads j g m in
    elim (cases_eq i j) [
      | inl e ↦ ap (λ (p : Pad). p.volts) (ap (λ k. get_or net.pads k d) e ∙ get_or_default net.pads j d g m)
      | inr ne ↦ absurd (elim (cases_lt i j) [
        | inl lt ↦ (let up = rising nodes built.pads_in_order i j lt (omega (arith, m, count)) in omega (arith, up, first, second, same))
        | inr ge ↦ (let up = rising nodes built.pads_in_order j i (omega arith) (omega (arith, l, count)) in omega (arith, up, first, second, same))
      ])
    ]

-- ## nothing to merge

pub no_two_differ : (net : Network) → IsBuilt net → PadsOfGroupsAgree net []
no_two_differ net built i p l j q m joined = pads_agree net built i p l j q m (one_node joined.0 _ _ joined.1)

-- The names of all nodes, in their order.
names_again : (names : List (List ℕ)) → map (λ node. slice_index_or names node []) (range_with_len 0 (length names)) ≡ names
names_again names =
    ext_get_or [] (map (λ node. slice_index_or names node []) (range_with_len 0 (length names))) names
    (length-map-range_with_len (λ node. slice_index_or names node []) 0 (length names))
    (λ i l. let within : i < length names = omega (arith, l, length-map-range_with_len (λ node. slice_index_or names node []) 0 (length names)) in
    get_or-map-range_with_len (λ node. slice_index_or names node []) 0 (length names) i i [] within (omega arith))

names_of_nodes : (net : Network) (names : List (List ℕ)) → length names ≡ net.nodes → map (λ node. slice_index_or names node []) (range_with_len 0 net.nodes) ≡ names
names_of_nodes net names count = ap (λ n. map (λ node. slice_index_or names node []) (range_with_len 0 n)) (sym count) ∙ names_again names

-- The law of networks without shorts, as it is handed in.
pub record AloneLaws : Type 0 where
  pub group : (nodes : ℕ) (group firsts : List ℕ) → AreGroups nodes [] group firsts → group ≡ range_with_len 0 nodes
  pub firsts : (nodes : ℕ) (group firsts : List ℕ) → AreGroups nodes [] group firsts → firsts ≡ range_with_len 0 nodes
  pub network : (net : Network) (group firsts : List ℕ) → IsBuilt net → AreGroups net.nodes [] group firsts → merged_network net group (length firsts) ≡ net

module _ (laws : AloneLaws) (net : Network) (names : List (List ℕ)) (built : IsBuilt net) (count : length names ≡ net.nodes) where
  pub is_merged : IsMerged (read_back net names) (unmerged net names)
  is_merged = record {
    firsts = range_with_len 0 net.nodes;
    groups = alone net.nodes;
    names = sym (names_of_nodes net names count);
    network = sym (laws.network net (range_with_len 0 net.nodes) (range_with_len 0 net.nodes) built (alone net.nodes));
    caps = refl;
  }

  pub only_merged : (merged : Merged) → IsMerged (read_back net names) merged → merged ≡ unmerged net names
  only_merged merged is = λ i. record {
    net = (is.network ∙ laws.network net merged.group is.firsts built is.groups) i;
    names = (is.names ∙ ap (map (λ node. slice_index_or names node [])) (laws.firsts net.nodes merged.group is.firsts is.groups) ∙ names_of_nodes net names count) i;
    group = laws.group net.nodes merged.group is.firsts is.groups i;
    caps = is.caps i;
  }
