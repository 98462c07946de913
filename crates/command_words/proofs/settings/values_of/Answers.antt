use Rattle.std.proofs.Common.{◌≡◌, ◌<◌, All, ◌+◌, [], ◌∷◌, Some, length, take, length-append, sym, ◌∙◌, ap, subst, arith}
use Rattle.std.proofs.lemmas.List.{map-append, length-map}
use Rattle.std.proofs.lemmas.List.Elements.{All-push}
use Rattle.clap.specs.Words.{first_value, found_of}
use Rattle.command_words.specs.Setting.{IsValue}
use Rattle.command_words.specs.inside.Parsed.{names, values_by}
use Rattle.command_words.specs.inside.Split.{texts}
use Rattle.command_words.proofs.Each.{name_at, names_more, value_bad, values_more}
use Rattle.command_words.proofs.settings.values_of.Goals as goal

pub returns-in_default-clause-usage : goal.returns-in_default-clause-usage
returns-in_default-clause-usage c = λ e values is all.
    let i = c.loop-option.option-index in
    let options = c.args.options.now in
    let count = length-map options (λ option. option.name.now) in
    let inside : i < length options = c.loop-option-test.true in
    value_bad (first_value (found_of c.args.matches.now)) (names options) values i (omega arith)
    (λ v first good. c.in_default.ensures.none v (subst (λ z. first_value (found_of c.args.matches.now) z ≡ Some v) (name_at options i _ inside) first) good) is all

pub loop-option-preserved : goal.loop-option-preserved
loop-option-preserved c =
    let i = c.loop-option.option-index in
    let options = c.args.options.now in
    let values = c.loop-option.values.items in
    let value = first_value (found_of c.args.matches.now) in
    let grown = ap texts c.in-Ok.ensures.items ∙ map-append (λ word. word.now) values (c.in-Some.value ∷ []) in
    record {
      values = ap (values_by value) (names_more options i _ c.loop-option-test.true)
          ∙ values_more value (names (take i options)) (texts values) _ c.in-Some.value.now c.loop-option.invariant.values c.in-Some.ensures.some
          ∙ ap (λ z. Some z) (sym grown);
      are_values = subst (λ z. All IsValue z) (sym grown) (All-push IsValue (texts values) c.in-Some.value.now c.loop-option.invariant.are_values c.in-Some.ensures.is_value);
      count = ap length c.in-Ok.ensures.items ∙ length-append values (c.in-Some.value ∷ []) ∙ ap (λ z. z + 1) c.loop-option.invariant.count;
    }
