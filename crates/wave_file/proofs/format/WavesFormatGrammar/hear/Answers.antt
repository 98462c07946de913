use Rattle.std.proofs.Common.{[], ◌∷◌, ◌++◌, ℤ, map, get_or, Ok, refl, sym, ◌∙◌, ap, subst, arith, length-append, to_z, of_z}
use Rattle.std.specs.Int.{w64}
use Rattle.std.proofs.lemmas.List.{length-map}
use Rattle.number_place.specs.Place.{IsNumberAt}
use Rattle.reading.specs.Laws.{tell-heard, heard-as, one-item, two-items, three-items, four-items}
use Rattle.reading.specs.Word.{token, heard_token}
use Rattle.wave_file.specs.Fault.{StepFault, NodeFault, NumberFault, RangeFault}
use Rattle.wave_file.specs.Format.{format}
use Rattle.wave_file.specs.Number.{amperes, IsStep}
use Rattle.wave_file.specs.inside.Value.{says, SaysStep, SaysNode, SaysAmps, SaysHigh, amps_of}
use Rattle.wave_file.proofs.Numbers.{kept_64}
use Rattle.wave_file.proofs.Taking.{no_word, short_told, long_told}
use Rattle.wave_file.proofs.format.WavesFormatGrammar.hear.Goals as goal

pub returns-in-len1 : goal.returns-in-len1
returns-in-len1 c = λ units h heard same.
    let names = c.args.self.now.names.now in
    let w = token c.args.word.now in
    let words = one-item no_word c.args.before.now c.in-len1.len_at_least c.in-len1.len_below in
    tell-heard (format names) (says names) units _ _ w 1 (StepFault units w.text) (SaysStep w.text) c.step_value.result _ words c.told_at.ensures (λ a k. k) (λ kind k. (refl, k)) (λ value k. k)
    (c.step_value.ensures names units h)

pub returns-in-len2 : goal.returns-in-len2
returns-in-len2 c = λ units h heard same.
    let names = c.args.self.now.names.now in
    let xs = c.args.before.now in
    let w = token c.args.word.now in
    let words = two-items no_word xs c.in-len2.len_at_least c.in-len2.len_below in
    let said = heard-as (says names) _ _ words heard in
    let step = (get_or xs 1 no_word).word.text.now in
    tell-heard (format names) (says names) units _ _ w 2 (NodeFault names units step w.text) (SaysNode names w.text) c.node_value.result _ words c.told_at-in-len2.ensures (λ a k. k) (λ kind k. (refl, k)) (λ value k. k)
    (c.node_value.ensures names units step h (subst (IsStep step) (sym c.step.ensures) said.1.0))

pub returns-in-len3 : goal.returns-in-len3
returns-in-len3 c = λ units h heard same.
    let names = c.args.self.now.names.now in
    let w = token c.args.word.now in
    let words = three-items no_word c.args.before.now c.in-len3.len_at_least c.in-len3.len_below in
    tell-heard (format names) (says names) units _ _ w 3 (NumberFault w.text) (SaysAmps w.text) c.low_value.result _ words c.told_at-in-len3.ensures (λ a k. k) (λ kind k. (refl, k)) (λ value k. k)
    c.low_value.ensures

pub returns-in-len4 : goal.returns-in-len4
returns-in-len4 c = λ units h heard same.
    let names = c.args.self.now.names.now in
    let xs = c.args.before.now in
    let w = token c.args.word.now in
    let words = four-items no_word xs c.in-len4.len_at_least c.in-len4.len_below in
    let said = heard-as (says names) _ _ words heard in
    let low = get_or xs 3 no_word in
    let amps : SaysAmps low.word.text.now low.value = said.1.1.1.0 in
    let kept = ap (λ (z : ℤ). to_z w64 (of_z w64 z)) c.amps.ensures ∙ kept_64 (amps_of low.value) amps.1.2.within in
    tell-heard (format names) (says names) units _ _ w 4 (RangeFault (heard_token low) w) (SaysHigh (heard_token low) w) c.high_value.result _ words c.told_at-in-len4.ensures (λ a k. k) (λ kind k. (refl, k)) (λ value k. k)
    (c.high_value.ensures (heard_token low) same (subst (λ z. IsNumberAt amperes low.word.text.now (Ok z)) (sym kept) amps))

pub returns-in_default : goal.returns-in_default
returns-in_default c = λ units h heard same.
    let w = token c.args.word.now in
    let few = c.in_default.len_below in
    let long = length-append (map heard_token c.args.before.now) (w ∷ []) in
    let count = length-map c.args.before.now heard_token in
    short_told c.args.self.now.names.now units (map heard_token c.args.before.now ++ w ∷ []) _ (omega (arith, few))

pub returns-in_default-2 : goal.returns-in_default-2
returns-in_default-2 c = λ units h heard same.
    let w = token c.args.word.now in
    let many = c.in_default.len_at_least in
    let long = length-append (map heard_token c.args.before.now) (w ∷ []) in
    let count = length-map c.args.before.now heard_token in
    long_told c.args.self.now.names.now units (map heard_token c.args.before.now ++ w ∷ []) _ (omega (arith, many))
