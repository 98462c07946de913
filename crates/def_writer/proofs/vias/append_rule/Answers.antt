use Rattle.std.proofs.Common.{◌≡◌, ◌<◌, ℕ, List, [], ◌∷◌, ◌++◌, codes, length, map, sym, ap, ◌∙◌, subst, to_z, of_z, rules, get_or}
use Rattle.std.specs.Int.{w64}
use Rattle.std.specs.Fmt.{signed_decimal}
use Rattle.std.proofs.lemmas.List.Elements.{All-get_or}
use Rattle.lef_tech.specs.declared.rule.ViaRule.{ViaRule}
use Rattle.lef_tech.specs.declared.layer.RoutingLayer.{RoutingLayer}
use Rattle.lef_tech.specs.declared.layer.CutLayer.{CutLayer}
use Rattle.lef_tech.specs.Limits.{RuleKeeps}
use Rattle.def_writer.specs.Via.{layer_name, rule_name, lower_name, cut_name, upper_name}
use Rattle.def_writer.specs.inside.Line.{spaced}
use Rattle.def_writer.proofs.TextLemmas.{field_at}
use Rattle.def_writer.proofs.vias.append_rule.Goals as goal

pub returns : goal.returns
returns c =
    let tech = c.args.tech.now in
    let array = c.args.array.now in
    let within : array.rule < length tech.rules = c.requires.array in
    let rule : ViaRule = c.index-as_slice-array.result in
    let at = c.index-as_slice-array.is in
    let same = c.as_slice.ensures in
    let keeps : RuleKeeps tech rule = subst (RuleKeeps tech) (sym (at ∙ ap (λ l. get_or l array.rule rule) same)) (All-get_or (RuleKeeps tech) tech.rules array.rule rule within c.requires.tech.rules) in
    let name : c.bytes.result.now ≡ rule_name tech array.rule = c.bytes.ensures ∙ field_at (λ (r : ViaRule). r.name) tech.rules c.as_slice.result.now array.rule rule [] same within at in
    let lower : c.bytes-lower.result.now ≡ lower_name tech array.rule =
    c.bytes-lower.ensures
    ∙ ap (λ (l : RoutingLayer). l.name) (sym c.index-as_slice-rule.is)
    ∙ field_at (λ (l : RoutingLayer). l.name) tech.routing c.as_slice-2.result.now rule.lower c.index-as_slice-rule.result [] c.as_slice-2.ensures keeps.lower c.index-as_slice-rule.is
    ∙ field_at (λ (r : ViaRule). layer_name tech r.lower) tech.rules c.as_slice.result.now array.rule rule [] same within at in
    let cut : c.bytes-cut.result.now ≡ cut_name tech array.rule =
    c.bytes-cut.ensures
    ∙ ap (λ (l : CutLayer). l.name) (sym c.index-as_slice-rule-2.is)
    ∙ field_at (λ (l : CutLayer). l.name) tech.cuts c.as_slice-3.result.now rule.cut c.index-as_slice-rule-2.result [] c.as_slice-3.ensures keeps.cut c.index-as_slice-rule-2.is
    ∙ field_at (λ (r : ViaRule). get_or (map (λ (l : CutLayer). l.name) tech.cuts) r.cut []) tech.rules c.as_slice.result.now array.rule rule [] same within at in
    let upper : c.bytes-upper.result.now ≡ upper_name tech array.rule =
    c.bytes-upper.ensures
    ∙ ap (λ (l : RoutingLayer). l.name) (sym c.index-as_slice-rule-3.is)
    ∙ field_at (λ (l : RoutingLayer). l.name) tech.routing c.as_slice-4.result.now rule.upper c.index-as_slice-rule-3.result [] c.as_slice-4.ensures keeps.upper c.index-as_slice-rule-3.is
    ∙ field_at (λ (r : ViaRule). layer_name tech r.upper) tech.rules c.as_slice.result.now array.rule rule [] same within at in
    let kept_x : to_z w64 (of_z w64 array.cut_x) ≡ array.cut_x = search rules in
    let kept_y : to_z w64 (of_z w64 array.cut_y) ≡ array.cut_y = search rules in
    let x : c.digits-width.result.now ≡ signed_decimal array.cut_x = c.digits-width.ensures ∙ ap signed_decimal kept_x in
    let y : c.digits-height.result.now ≡ signed_decimal array.cut_y = c.digits-height.ensures ∙ ap signed_decimal kept_y in
    let words : List ℕ → List ℕ → List ℕ → List ℕ → List ℕ → List ℕ → List (List ℕ) = λ n a b l k u.
    codes "+" ∷ codes "VIARULE" ∷ n ∷ codes "+" ∷ codes "CUTSIZE" ∷ a ∷ b ∷ codes "+" ∷ codes "LAYERS" ∷ l ∷ k ∷ u ∷ [] in
    c.in_ok-append_words.ensures ∙ (λ i. c.args.out.now.items ++ spaced (words (name i) (x i) (y i) (lower i) (cut i) (upper i)))
