-- The technology for tests keeps what all keep.
use Rattle.std.proofs.Common.{◌≡◌, List, [], ◌∷◌, length, get_or, refl, sym, ◌∙◌, ap, subst, arith}
use Rattle.std.specs.List.{filter_map}
use Rattle.std.proofs.lemmas.List.Elements.{All-nil, All-cons}
use Rattle.lef_tech.specs.Limits.{RuleKeeps, numbers, routing_place, cut_place}
use Rattle.lef_tech.specs.declared.layer.LayerRef.{LayerRef}
use Rattle.lef_tech.specs.declared.rule.ViaRule.{ViaRule}
use Rattle.lef_tech.specs.declared.tech.Tech.{Tech}
use Rattle.drawing_tests.specs.inside.Arrays.{RuleFits, tested_order, AreLayers, AreCuts, AreRules, IsTested}

rule_keeps : (tech : Tech) (rule : ViaRule) → length tech.routing ≡ 4 → length tech.cuts ≡ 3 → RuleFits rule → RuleKeeps tech rule
rule_keeps tech rule four three fits = record {
  lower = omega (arith, fits.below, fits.upper, four);
  upper = omega (arith, fits.upper, four);
  below = fits.below;
  cut = omega (arith, fits.cut, three);
  lower_enclosure = fits.lengths.lower_enclosure;
  upper_enclosure = fits.lengths.upper_enclosure;
  lower_widths = fits.lengths.lower_widths;
  upper_widths = fits.lengths.upper_widths;
  some_x = fits.some_x;
  some_y = fits.some_y;
  cut_x = fits.cut_x;
  cut_y = fits.cut_y;
  pitch_x = fits.lengths.pitch_x;
  pitch_y = fits.lengths.pitch_y;
  per_cut = fits.per_cut;
}

pub is_tested : (tech : Tech) → tech.order ≡ tested_order → AreLayers tech.routing → AreCuts tech.cuts → AreRules tech.rules → IsTested tech
is_tested tech order layers cuts rules =
    record {
      keeps = record {
        routing_order = ap (λ (ls : List LayerRef). filter_map routing_place ls) order ∙ ap numbers (sym layers.count);
        cut_order = ap (λ (ls : List LayerRef). filter_map cut_place ls) order ∙ ap numbers (sym cuts.count);
        few_layers = omega (arith, layers.count);
        few_cuts = omega (arith, cuts.count);
        few_rules = omega (arith, rules.count);
        routing = layers.keep;
        cuts = cuts.keep;
        rules = λ i d within. rule_keeps tech (get_or tech.rules i d) layers.count cuts.count (rules.fit i d within);
      };
      layers = layers.count;
      rules = rules.count;
    }

-- Three rules that fit.
pub three_rules : (a b c : ViaRule) (rules : List ViaRule) → rules ≡ a ∷ b ∷ c ∷ [] → RuleFits a → RuleFits b → RuleFits c → AreRules rules
three_rules a b c rules is first second third = subst AreRules (sym is) (record {
  fit = All-cons RuleFits a (b ∷ c ∷ []) first (All-cons RuleFits b (c ∷ []) second (All-cons RuleFits c [] third (All-nil RuleFits)));
  count = refl;
})
