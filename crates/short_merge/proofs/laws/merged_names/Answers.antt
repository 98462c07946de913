use Rattle.std.proofs.Common.{◌<◌, ℕ, List, [], arith, sym, ap, subst, ◌∙◌, length, get_or, map, All}
use Rattle.std.specs.Prelude.{Contains}
use Rattle.std.proofs.lemmas.List.{length-map, get_or-map}
use Rattle.name_table.specs.ByteOrder.{IsBefore, IsInByteOrder}
use Rattle.node_groups.specs.Laws.{rising}
use Rattle.short_merge.proofs.Kept.{one_of_them}
use Rattle.short_merge.proofs.laws.merged_names.Goals as goal

pub returns-clause-one_name_a_group : goal.returns-clause-one_name_a_group
returns-clause-one_name_a_group k named merged h =
    ap length h.names ∙ length-map h.firsts (λ (node : ℕ). get_or named.names node [])
    ∙ sym (ap (λ net. net.nodes) h.network)

pub returns-clause-in_byte_order : goal.returns-clause-in_byte_order
returns-clause-in_byte_order k named merged netlist h order =
    subst IsInByteOrder (sym h.names)
    (λ i j d below within.
    let within' : j < length h.firsts =
    omega (arith, within, length-map h.firsts (λ (node : ℕ). get_or named.names node [])) in
    let node : get_or h.firsts j 0 < length named.names =
    (let a = h.groups.each_first j 0 within' in let b = netlist.one_name_a_node in omega (arith, a, b)) in
    let before = order (get_or h.firsts i 0) (get_or h.firsts j 0) [] (rising h.firsts h.groups.in_order i j below within') node in
    let one = get_or-map (λ (node : ℕ). get_or named.names node []) h.firsts i 0 d (omega (arith, below, within')) in
    let other = get_or-map (λ (node : ℕ). get_or named.names node []) h.firsts j 0 d within' in
    subst (λ (x : List ℕ). IsBefore x (get_or (map (λ (node : ℕ). get_or named.names node []) h.firsts) j d)) (sym one)
    (subst (λ (x : List ℕ). IsBefore (get_or named.names (get_or h.firsts i 0) []) x) (sym other) before))

pub returns-clause-of_netlist : goal.returns-clause-of_netlist
returns-clause-of_netlist k named merged netlist h =
    subst (λ (names : List (List ℕ)). All (λ name. Contains named.names name) names) (sym h.names)
    (λ i d below.
    let node = λ (at : ℕ). get_or named.names at [] in
    let within : i < length h.firsts = omega (arith, below, length-map h.firsts node) in
    let is = get_or-map node h.firsts i 0 d within in
    let there : get_or h.firsts i 0 < length named.names =
    (let a = h.groups.each_first i 0 within in let b = netlist.one_name_a_node in omega (arith, a, b)) in
    subst (λ (x : List ℕ). Contains named.names x) (sym is) (one_of_them named.names (get_or h.firsts i 0) there))
