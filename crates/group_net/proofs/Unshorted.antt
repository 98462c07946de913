-- Without shorts the network is that of the groups, and no two pads stand at nodes that are joined.
use Rattle.std.proofs.Common.{◌≡◌, ℕ, ◌<◌, inl, inr, true, eqb, eqb-true, arith, refl, sym, ap, subst, ◌∙◌, List, [], ◌∷◌, length, get_or, map}
use Rattle.std.specs.List.Sorted.{IsStrictlyIncreasing}
use Rattle.std.proofs.lemmas.Bool.{cases_lt}
use Rattle.std.proofs.lemmas.List.{length-map, get_or-map, get_or_default}
use Rattle.grid_net.specs.declared.part.Pad.{Pad}
use Rattle.grid_net.specs.Network.{Network}
use Rattle.grid_net.specs.Limits.{IsBuilt}
use Rattle.node_groups.specs.Joined.{AreJoined}
use Rattle.node_groups.specs.Groups.{AreGroups}
use Rattle.node_groups.specs.Laws.{rising}
use Rattle.group_net.specs.Merging.{merged_network, PadsOfGroupsAgree}
use Rattle.group_net.proofs.Alone.{one_node}
use Rattle.group_net.proofs.Same.{stays}

-- What the test for shorts tells.
pub no_shorts : (shorts : List (ℕ × ℕ)) → eqb (length shorts) 0 ≡ true → shorts ≡ []
no_shorts [] e = refl
no_shorts (x ∷ shorts) e = absurd (let some = eqb-true (length (x ∷ shorts)) 0 e in omega (arith, some))

-- Pads in the order of nodes, each node once: two places at one node are one place.
one_place : (pads : List Pad) → IsStrictlyIncreasing (map (λ (p : Pad). p.node) pads) → (k j : ℕ) (d e : Pad)
    → k < length pads → j < length pads → (get_or pads k d).node ≡ (get_or pads j e).node → k ≡ j
one_place pads up k j d e l m same =
    let node : Pad → ℕ = λ p. p.node in
    let size : length (map node pads) ≡ length pads = length-map pads node in
    let one : get_or (map node pads) k 0 ≡ (get_or pads k d).node = get_or-map node pads k d 0 l in
    let other : get_or (map node pads) j 0 ≡ (get_or pads j e).node = get_or-map node pads j e 0 m in
    elim (cases_lt k j) [
      | inl lt ↦ absurd (
          let up' = rising (map node pads) up k j lt (omega (arith, m, size)) in omega (arith, up', one, other, same))
      | inr ge ↦ elim (cases_lt j k) [
        | inl lt ↦ absurd (
            let up' = rising (map node pads) up j k lt (omega (arith, l, size)) in omega (arith, up', one, other, same))
        | inr le ↦ omega (arith, ge, le)
      ]
    ]

-- Two pads whose nodes no short joins are one pad.
pub agree_unshorted : (net : Network) (shorts : List (ℕ × ℕ)) → IsBuilt net → shorts ≡ [] → PadsOfGroupsAgree net shorts
agree_unshorted net shorts built none k d l j e m joined =
    let way = subst (λ (s : List (ℕ × ℕ)). AreJoined s (get_or net.pads k d).node (get_or net.pads j e).node) none joined in
    let same = one_node way.0 (get_or net.pads k d).node (get_or net.pads j e).node way.1 in
    let at = one_place net.pads built.pads_in_order k j d e l m same in
    ap (λ (p : Pad). p.volts) (ap (λ (n : ℕ). get_or net.pads n d) at ∙ get_or_default net.pads j d e m)

-- The network is that of its groups.
pub network_unshorted : (net : Network) (shorts : List (ℕ × ℕ)) (group firsts : List ℕ) → IsBuilt net → shorts ≡ []
    → AreGroups net.nodes shorts group firsts → net ≡ merged_network net group (length firsts)
network_unshorted net shorts group firsts built none h =
    sym (stays net group firsts built (subst (λ (s : List (ℕ × ℕ)). AreGroups net.nodes s group firsts) none h))
