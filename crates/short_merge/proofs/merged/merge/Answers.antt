use Rattle.std.proofs.Common.{◌≡◌, ℕ, List, [], refl, sym, ap, subst, ◌∙◌, length, get_or, map}
use Rattle.std.specs.List.{range_with_len}
use Rattle.std.proofs.lemmas.List.FromFn.{fill_by_all}
use Rattle.node_groups.specs.Groups.{AreGroups}
use Rattle.capacitors.specs.declared.Cap.{Cap}
use Rattle.grid_net.specs.Network.{Network}
use Rattle.spice_grid.specs.Caps.{EndAmong, HaveCapacitance}
use Rattle.short_merge.specs.Merged.{merged_cap}
use Rattle.short_merge.proofs.Ends.{ends_among, capacitances_stay, caps_stay}
use Rattle.short_merge.proofs.merged.merge.Goals as goal

-- The names of all nodes are all names.
names_stay : (names given kept : List (List ℕ)) (firsts slice : List ℕ) (nodes : ℕ) → length names ≡ nodes
    → given ≡ names → slice ≡ firsts → firsts ≡ range_with_len 0 nodes
    → kept ≡ map (λ node. get_or given node []) slice → kept ≡ names
names_stay names given kept firsts slice nodes size same told all is =
    is ∙ ap (λ (xs : List (List ℕ)). map (λ node. get_or xs node []) slice) same
    ∙ ap (map (λ (node : ℕ). get_or names node [])) (told ∙ all)
    ∙ sym (fill_by_all (λ (node : ℕ). get_or names node []) names nodes [] size (λ k l. refl))

pub returns-in-Ok-clause-unshorted : goal.returns-in-Ok-clause-unshorted
returns-in-Ok-clause-unshorted c none =
    let groups : AreGroups c.args.named.net.nodes [] c.in-Ok.field-0.groups.group c.in-Ok.field-0.groups.firsts =
    subst (λ (shorts : List (ℕ × ℕ)). AreGroups c.args.named.net.nodes shorts c.in-Ok.field-0.groups.group
    c.in-Ok.field-0.groups.firsts) (c.as_slice.ensures ∙ none) c.in-Ok.ensures.groups in
    let firsts = c.nothing_shorted.ensures.firsts c.args.named.net.nodes c.in-Ok.field-0.groups.group
    c.in-Ok.field-0.groups.firsts groups in (
      c.in-Ok.ensures.network ∙ c.nothing_shorted.ensures.network c.args.named.net c.in-Ok.field-0.groups.group
          c.in-Ok.field-0.groups.firsts c.in-Ok.ensures.built groups,
      c.new.ensures ∙ names_stay c.args.named.names c.into_items.result.items c.names_of_groups-names.result.items
          c.in-Ok.field-0.groups.firsts c.as_slice-in-Ok.result.now c.args.named.net.nodes c.requires.one_name_a_node
          c.into_items.ensures c.as_slice-in-Ok.ensures firsts c.names_of_groups-names.ensures,
      c.caps_of_groups-caps.ensures
          ∙ ap (λ (from : List ℕ). map (merged_cap from) c.args.named.caps) (c.as_slice-in-Ok-2.ensures ∙ c.nothing_shorted.ensures.group c.args.named.net.nodes c.in-Ok.field-0.groups.group c.in-Ok.field-0.groups.firsts groups)
          ∙ caps_stay c.args.named.net.nodes c.args.named.caps c.requires.ends_among_nodes,
    )

pub caps_of_groups-caps-requires : goal.caps_of_groups-caps-requires
caps_of_groups-caps-requires c =
    let size : length c.as_slice-in-Ok-2.result.now ≡ c.args.named.net.nodes = ap length c.as_slice-in-Ok-2.ensures ∙ c.in-Ok.ensures.groups.one_a_node in
    subst (λ n. EndAmong n c.args.named.caps) (sym size) c.requires.ends_among_nodes

pub returns-in-Ok-clause-merged : goal.returns-in-Ok-clause-merged
returns-in-Ok-clause-merged c =
    let firsts = c.in-Ok.field-0.groups.firsts in
    let group = c.in-Ok.field-0.groups.group in
    let named : List (List ℕ) → List ℕ → List (List ℕ) = λ names from. map (λ node. get_or names node []) from in
    record {
      firsts = firsts;
      groups = subst (λ (shorts : List (ℕ × ℕ)). AreGroups c.args.named.net.nodes shorts group firsts) c.as_slice.ensures c.in-Ok.ensures.groups;
      names = c.new.ensures ∙ c.names_of_groups-names.ensures ∙ (λ t. named (c.into_items.ensures t) (c.as_slice-in-Ok.ensures t));
      network = c.in-Ok.ensures.network;
      caps = c.caps_of_groups-caps.ensures ∙ ap (λ (from : List ℕ). map (merged_cap from) c.args.named.caps) c.as_slice-in-Ok-2.ensures;
    }

pub returns-in-Ok-clause-ends : goal.returns-in-Ok-clause-ends
returns-in-Ok-clause-ends c =
    let groups = c.in-Ok.ensures.groups in
    let group = c.in-Ok.field-0.groups.group in
    let count : c.in-Ok.field-0.net.nodes ≡ length c.in-Ok.field-0.groups.firsts = ap (λ (n : Network). n.nodes) c.in-Ok.ensures.network in
    let caps = c.caps_of_groups-caps.ensures ∙ ap (λ (from : List ℕ). map (merged_cap from) c.args.named.caps) c.as_slice-in-Ok-2.ensures in
    let given : EndAmong (length group) c.args.named.caps = subst (λ n. EndAmong n c.args.named.caps) (sym groups.one_a_node) c.requires.ends_among_nodes in
    subst (λ n. EndAmong n c.caps_of_groups-caps.result) (sym count)
    (subst (λ (l : List Cap). EndAmong (length c.in-Ok.field-0.groups.firsts) l) (sym caps) (ends_among group (length c.in-Ok.field-0.groups.firsts) c.args.named.caps groups.each_group given))

pub returns-in-Ok-clause-capacitances : goal.returns-in-Ok-clause-capacitances
returns-in-Ok-clause-capacitances c = λ all.
    let caps = c.caps_of_groups-caps.ensures ∙ ap (λ (from : List ℕ). map (merged_cap from) c.args.named.caps) c.as_slice-in-Ok-2.ensures in
    subst HaveCapacitance (sym caps) (capacitances_stay c.in-Ok.field-0.groups.group c.args.named.caps all)
