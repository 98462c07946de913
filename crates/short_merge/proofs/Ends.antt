-- The ends of capacitors by groups.
use Rattle.std.proofs.Common.{◌<◌, ◌^◌, ℕ, suc, ◌≤ℤ◌, pos, List, [], ◌∷◌, All, length, map, arith, refl, ap, ◌∙◌, ◌≡◌, ◌+◌}
use Rattle.std.specs.List.{range_with_len}
use Rattle.std.proofs.lemmas.List.Elements.{All-cons, All-map}
use Rattle.std.proofs.lemmas.List.FromFn.{get_or-range_with_len}
use Rattle.capacitors.specs.declared.End.{End}
use Rattle.capacitors.specs.declared.End.TheVariants.{Node, Ground, Nowhere}
use Rattle.capacitors.specs.declared.Cap.{Cap}
use Rattle.spice_grid.specs.Caps.{IsAmong, EndAmong, HaveCapacitance}
use Rattle.short_merge.specs.Merged.{merged_end, merged_cap}

end_among : (group : List ℕ) (groups : ℕ) → All (λ g. g < groups) group → (end : End) → IsAmong (length group) end → IsAmong groups (merged_end group end)
end_among group groups all (Node number) h = all number 0 h
end_among group groups all Ground h = tt
end_among group groups all Nowhere h = tt

-- Ends at nodes are at groups.
pub ends_among : (group : List ℕ) (groups : ℕ) (caps : List Cap) → All (λ g. g < groups) group → EndAmong (length group) caps → EndAmong groups (map (merged_cap group) caps)
ends_among group groups [] all h = λ k d w. absurd (omega arith)
ends_among group groups (one ∷ caps) all h =
    let at = h 0 one (omega arith) in
    All-cons (λ (c : Cap). IsAmong groups c.a × IsAmong groups c.b) (merged_cap group one) (map (merged_cap group) caps)
    (end_among group groups all one.a at.0, end_among group groups all one.b at.1)
    (ends_among group groups caps all (λ k d w. h (suc k) d (omega arith)))

-- A capacitor keeps its capacitance.
pub capacitances_stay : (group : List ℕ) (caps : List Cap) → HaveCapacitance caps → HaveCapacitance (map (merged_cap group) caps)
capacitances_stay group caps all = All-map (λ (cap : Cap). (pos 0 ≤ℤ cap.farads) × (cap.farads ≤ℤ pos (10 ^ 30))) (merged_cap group) caps all

-- Where each node is a group by itself, capacitors stay as they are.
end_stays : (nodes : ℕ) (end : End) → IsAmong nodes end → merged_end (range_with_len 0 nodes) end ≡ end
end_stays nodes (Node number) h = let zero_more : 0 + number ≡ number = omega arith in ap (λ n. Node n) (get_or-range_with_len 0 nodes number 0 h ∙ zero_more)
end_stays nodes Ground h = refl
end_stays nodes Nowhere h = refl

pub caps_stay : (nodes : ℕ) (caps : List Cap) → EndAmong nodes caps → map (merged_cap (range_with_len 0 nodes)) caps ≡ caps
caps_stay nodes [] h = refl
caps_stay nodes (one ∷ caps) h =
    let at = h 0 one (omega arith) in
    let first = end_stays nodes one.a at.0 in
    let second = end_stays nodes one.b at.1 in
    let rest = caps_stay nodes caps (λ k d w. h (suc k) d (omega arith)) in
    λ t. record { a = first t; b = second t; farads = one.farads } ∷ rest t
