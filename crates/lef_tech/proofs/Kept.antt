-- What a technology keeps.
use Rattle.std.proofs.Common.{◌≡◌, ℕ, ◌+◌, ◌-◌, ◌<◌, ◌≤◌, ◌⊎◌, ◌^◌, List, [], ◌∷◌, length, get_or, take, All, inl, inr, refl, sym, ◌∙◌, ap, subst, arith}
use Rattle.std.specs.List.{range_with_len, filter_map}
use Rattle.std.proofs.lemmas.List.{get_or-take, get_or_default, take_more, length-take-le}
use Rattle.std.proofs.lemmas.List.Quantifiers.{all_pairs_push}
use Rattle.std.proofs.lemmas.List.Elements.{All-from_recursion}
use Rattle.lef_tech.specs.declared.layer.RoutingLayer.{RoutingLayer}
use Rattle.lef_tech.specs.declared.layer.CutLayer.{CutLayer}
use Rattle.lef_tech.specs.declared.rule.ViaRule.{ViaRule}
use Rattle.lef_tech.specs.declared.stack.AnyLayer.{AnyLayer}
use Rattle.lef_tech.specs.declared.stack.AnyLayer.TheVariants.{Wire, Hole}
use Rattle.lef_tech.specs.declared.statement.Statement.{Statement}
use Rattle.lef_tech.specs.declared.tech.Tech.{Tech}
use Rattle.lef_tech.specs.Limits.{Rise, RoutingKeeps, CutKeeps, RuleKeeps, TechKeeps, routing_place, cut_place}
use Rattle.lef_tech.specs.inside.Looks.{StatementsKeep, WireDensityKeeps, CutDensityKeeps, LayersStand}
use Rattle.lef_tech.proofs.Counts.{layers_counted, rules_counted}
use Rattle.lef_tech.proofs.Within.{WireKeeps, HoleKeeps, RuleStands, statement_wires, statement_cuts, statement_rules}
use Rattle.lef_tech.specs.Record.{layers_of, wires_of, cuts_of, order_from, rules_of, tech_of}

-- ## tables

last_or_before : (k n : ℕ) → 1 ≤ n → k < n → (k ≡ n - 1) ⊎ (k < n - 1)
last_or_before k n some lt = grind arith

pub rise_more : (points : List (ℕ × ℕ)) (n : ℕ) → 1 ≤ n → n < length points → Rise (take n points) →
    (get_or points (n - 1) (0, 0)).0 < (get_or points n (0, 0)).0 → Rise (take (n + 1) points)
rise_more points n some within rise last =
    let R : ℕ × ℕ → ℕ × ℕ → Type 0 = λ p q. p.0 < q.0 in
    let count : length (take n points) ≡ n = length-take-le n points (omega arith) in
    let each : (k : ℕ) (d : ℕ × ℕ) → k < length (take n points) → (get_or (take n points) k d).0 < (get_or points n (0, 0)).0 = λ k d lt.
    let at_last : get_or (take n points) (n - 1) d ≡ get_or points (n - 1) (0, 0) =
    get_or-take n points (n - 1) d (omega arith) ∙ get_or_default points (n - 1) d (0, 0) (omega arith) in
    let below_last : (get_or (take n points) (n - 1) d).0 < (get_or points n (0, 0)).0 =
    subst (λ (z : ℕ × ℕ). z.0 < (get_or points n (0, 0)).0) (sym at_last) last in
    elim (last_or_before k n some (omega arith)) [
      | inl e ↦ subst (λ z. (get_or (take n points) z d).0 < (get_or points n (0, 0)).0) (sym e) below_last
      | inr less ↦ let first : (get_or (take n points) k d).0 < (get_or (take n points) (n - 1) d).0 = rise k (n - 1) d less (omega arith) in omega arith
    ] in
    subst Rise (sym (take_more points n (0, 0) within)) (all_pairs_push R (take n points) (get_or points n (0, 0)) rise each)

-- ## the order of all layers

pub routing_kept : (wires cuts : ℕ) (all : List AnyLayer) → filter_map routing_place (order_from wires cuts all) ≡ range_with_len wires (length (wires_of all))
routing_kept wires cuts [] = refl
routing_kept wires cuts (Wire layer ∷ all) = ap (λ z. wires ∷ z) (routing_kept (wires + 1) cuts all)
routing_kept wires cuts (Hole layer ∷ all) = routing_kept wires (cuts + 1) all

pub cuts_kept : (wires cuts : ℕ) (all : List AnyLayer) → filter_map cut_place (order_from wires cuts all) ≡ range_with_len cuts (length (cuts_of all))
cuts_kept wires cuts [] = refl
cuts_kept wires cuts (Wire layer ∷ all) = cuts_kept (wires + 1) cuts all
cuts_kept wires cuts (Hole layer ∷ all) = ap (λ z. cuts ∷ z) (cuts_kept wires (cuts + 1) all)

-- ## the whole technology

routing_keeps : (layer : RoutingLayer) → WireKeeps layer → WireDensityKeeps layer → RoutingKeeps layer
routing_keeps layer h k = record { spacing = h.0; sheet = h.1; density = k }

cut_layer_keeps : (layer : CutLayer) → HoleKeeps layer → CutDensityKeeps layer → CutKeeps layer
cut_layer_keeps layer h k = record { per_cut = h; density = k }

rule_keeps : (tech : Tech) (rule : ViaRule) → RuleStands rule → LayersStand tech rule → RuleKeeps tech rule
rule_keeps tech rule h k = record {
  lower = let below : rule.lower < rule.upper = h.below in let upper : rule.upper < length tech.routing = k.0 in omega arith;
  upper = k.0;
  below = h.below;
  cut = k.1;
  lower_enclosure = h.lower_enclosure;
  upper_enclosure = h.upper_enclosure;
  lower_widths = h.lower_widths;
  upper_widths = h.upper_widths;
  some_x = h.some_x;
  some_y = h.some_y;
  cut_x = h.cut_x;
  cut_y = h.cut_y;
  pitch_x = h.pitch_x;
  pitch_y = h.pitch_y;
  per_cut = h.per_cut;
}

pub tech_kept : (tech : Tech) (statements : List Statement) → tech ≡ tech_of statements → StatementsKeep statements → length statements < 2 ^ 32 → All WireDensityKeeps tech.routing → All CutDensityKeeps tech.cuts → All (LayersStand tech) tech.rules → TechKeeps tech
tech_kept tech statements is kept few routing cuts rules =
    let layers : length (wires_of (layers_of statements)) + length (cuts_of (layers_of statements)) ≤ length statements = layers_counted statements in
    let rule_count : length (rules_of statements) ≤ length statements = rules_counted statements in
    let few_wires : length (wires_of (layers_of statements)) < 2 ^ 32 = omega arith in
    let few_holes : length (cuts_of (layers_of statements)) < 2 ^ 32 = omega arith in
    let few_of_rules : length (rules_of statements) < 2 ^ 32 = omega arith in
    let wires : All WireKeeps tech.routing = subst (λ (z : Tech). All WireKeeps z.routing) (sym is) (All-from_recursion WireKeeps _ (statement_wires statements kept)) in
    let holes : All HoleKeeps tech.cuts = subst (λ (z : Tech). All HoleKeeps z.cuts) (sym is) (All-from_recursion HoleKeeps _ (statement_cuts statements kept)) in
    let stand : All RuleStands tech.rules = subst (λ (z : Tech). All RuleStands z.rules) (sym is) (All-from_recursion RuleStands _ (statement_rules statements kept)) in
    record {
      routing_order =
          ap (λ (z : Tech). filter_map routing_place z.order) is ∙ routing_kept 0 0 (layers_of statements)
          ∙ ap (λ (z : Tech). range_with_len 0 (length z.routing)) (sym is);
      cut_order =
          ap (λ (z : Tech). filter_map cut_place z.order) is ∙ cuts_kept 0 0 (layers_of statements)
          ∙ ap (λ (z : Tech). range_with_len 0 (length z.cuts)) (sym is);
      few_layers = subst (λ (z : Tech). length z.routing < 2 ^ 32) (sym is) few_wires;
      few_cuts = subst (λ (z : Tech). length z.cuts < 2 ^ 32) (sym is) few_holes;
      few_rules = subst (λ (z : Tech). length z.rules < 2 ^ 32) (sym is) few_of_rules;
      routing = λ k d lt. routing_keeps (get_or tech.routing k d) (wires k d lt) (routing k d lt);
      cuts = λ k d lt. cut_layer_keeps (get_or tech.cuts k d) (holes k d lt) (cuts k d lt);
      rules = λ k d lt. rule_keeps tech (get_or tech.rules k d) (stand k d lt) (rules k d lt);
    }
