-- The lists of a network are as long as each other, and its limits are of it.
use Rattle.std.proofs.Common.{◌≡◌, ◌⊎◌, inl, inr, ℕ, ◌<◌, ◌≤◌, ◌^◌, ℤ, pos, negsuc, List, [], ◌∷◌, map, length, get_or, All, sym, subst, refl, ap, ◌∙◌, arith}
use Rattle.std.specs.Prelude.{Option, Some, None, unsigned_abs}
use Rattle.std.proofs.lemmas.Bool.{cases_lt}
use Rattle.std.proofs.lemmas.Int.{ints}
use Rattle.std.proofs.lemmas.List.{length-map, get_or_past}
use Rattle.std.proofs.lemmas.List.Elements.{All-map}
use Rattle.entry_list.specs.InTurn.{InTurn}
use Rattle.name_places.specs.Places.{place_of}
use Rattle.lef_tech.specs.declared.tech.Tech.{Tech}
use Rattle.bias_file.specs.declared.record.Bias.{Bias}
use Rattle.bias_file.specs.declared.record.Supply.{Supply}
use Rattle.bias_file.specs.Limits.{BiasKeeps, SupplyKeeps}
use Rattle.grid_pieces.specs.declared.grid.Grid.{Grid}
use Rattle.grid_net.specs.Network.{Network}
use Rattle.grid_net.specs.Limits.{IsInLimit, greatest_voltage}
use Rattle.grid_network.specs.declared.extracted.Extracted.{Extracted}
use Rattle.grid_network.specs.declared.key.Key.{Key}
use Rattle.grid_network.specs.declared.segment.Segment.{Segment}
use Rattle.grid_network.specs.Drawing.{Drawing}
use Rattle.grid_network.specs.Network.{IsNetworkOf}
use Rattle.grid_network.specs.Nodes.{name_of}
use Rattle.grid_network.specs.Segments.{resistor_of}
use Rattle.grid_limits.specs.Limits.{AreGridLimits, IsBranchLimit, supply_at, net_limit}
use Rattle.signoff_report.specs.declared.records.Limits.{Limits}
use Rattle.signoff_report.specs.declared.records.NetLimit.{NetLimit}
use Rattle.signoff_report.specs.Limits.{AreLimitsOf}

-- ## counts

nodes_are : (d : Drawing) (tech : Tech) (e : Extracted) → IsNetworkOf d tech e → length e.keys ≡ e.net.nodes
nodes_are d tech e is = sym (ap (λ (n : Network). n.nodes) is.net)

pub names_are : (d : Drawing) (tech : Tech) (e : Extracted) → IsNetworkOf d tech e → length e.names ≡ e.net.nodes
names_are d tech e is = ap length is.names ∙ length-map e.keys (name_of (length tech.routing)) ∙ nodes_are d tech e is

branches_are : (d : Drawing) (tech : Tech) (e : Extracted) → IsNetworkOf d tech e → length e.branches ≡ length e.net.resistors
branches_are d tech e is =
    ap length is.branches ∙ length-map is.segments (λ (s : Segment). s.branch) ∙ sym (length-map is.segments (resistor_of e.keys))
    ∙ sym (ap (λ (n : Network). length n.resistors) is.net)

in_turn_count : {L E : Type 0} (says : L → E → Type 0) (lines : List L) (entries : List E) → InTurn says lines entries → length entries ≡ length lines
in_turn_count says [] [] h = refl
in_turn_count says (l ∷ lines) (e ∷ entries) h = let rest = in_turn_count says lines entries h.1 in omega arith
in_turn_count says [] (e ∷ entries) h = absurd h
in_turn_count says (l ∷ lines) [] h = absurd h

-- ## supplies

in_limit : (z : ℤ) → unsigned_abs z ≤ 10 ^ 25 → IsInLimit greatest_voltage z
in_limit (pos n) h = (omega (arith, ints), omega (arith, ints))
in_limit (negsuc n) h = (omega (arith, ints), omega (arith, ints))

volts_at : (volts : List ℤ) → All (λ z. unsigned_abs z ≤ 10 ^ 25) volts → (place : ℕ) → IsInLimit greatest_voltage (get_or volts place (pos 0))
volts_at volts keep place = by_order (cases_lt place (length volts))
  where
    by_order : (place < length volts) ⊎ (length volts ≤ place) → IsInLimit greatest_voltage (get_or volts place (pos 0))
    by_order (inl within) = in_limit (get_or volts place (pos 0)) (keep place (pos 0) within)
    by_order (inr past) = subst (IsInLimit greatest_voltage) (sym (get_or_past volts place (pos 0) past)) (in_limit (pos 0) (omega arith))

supply_keeps : (supplies : List Supply) → All SupplyKeeps supplies → (place : Option ℕ) → IsInLimit greatest_voltage (supply_at supplies place)
supply_keeps supplies keep None = in_limit (pos 0) (omega arith)
supply_keeps supplies keep (Some place) =
    volts_at (map (λ (s : Supply). s.volts) supplies) (All-map (λ z. unsigned_abs z ≤ 10 ^ 25) (λ (s : Supply). s.volts) supplies keep) place

-- a supply is a voltage within the limit
abbrev HasVoltage : NetLimit → Type 0
HasVoltage n = IsInLimit greatest_voltage n.supply

supplies_keep : (bias : Bias) → BiasKeeps bias → (nets : List (List ℕ)) → All HasVoltage (map (net_limit bias) nets)
supplies_keep bias keeps nets =
    All-map HasVoltage (net_limit bias) nets (λ k d within. supply_keeps bias.supplies keeps.supplies (place_of (map (λ (s : Supply). s.net) bias.supplies) (get_or nets k d)))

-- ## the limits

pub limits_are : (d : Drawing) (tech : Tech) (grid : Grid) (bias : Bias) (e : Extracted) (limits : Limits) → BiasKeeps bias → length grid.nets < 2 ^ 32
    → IsNetworkOf d tech e → AreGridLimits tech grid e.keys e.branches bias limits → AreLimitsOf e.net limits
limits_are d tech grid bias e limits keeps few is are = record {
  one_a_branch = in_turn_count (IsBranchLimit tech grid) e.branches limits.branches are.of_branches ∙ branches_are d tech e is;
  one_a_node = λ _. ap length are.nets_of ∙ length-map e.keys (λ (key : Key). key.net) ∙ nodes_are d tech e is;
  supplies = subst (All HasVoltage) (sym are.of_nets) (supplies_keep bias keeps grid.nets);
  few_nets = omega (arith, ap length are.of_nets ∙ length-map grid.nets (net_limit bias));
}
