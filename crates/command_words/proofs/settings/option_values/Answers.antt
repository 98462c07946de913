use Rattle.std.proofs.Common.{◌≡◌, All, true, false, Some, Err, sym, ◌∙◌, ap}
use Rattle.clap.proofs.WalkLemmas.{first_value-rows}
use Rattle.clap.specs.Walk.{first_of}
use Rattle.clap.specs.Words.{first_value, found_of}
use Rattle.command_words.specs.Setting.{IsValue, SetsEach}
use Rattle.command_words.specs.inside.Parsed.{dashed_all, names, values_by}
use Rattle.command_words.specs.inside.Split.{texts}
use Rattle.command_words.proofs.Each.{both_ok, error_of, parses, sets_each, values_same}
use Rattle.command_words.proofs.settings.option_values.Goals as goal

pub returns-then-is_among-clause-usage : goal.returns-then-is_among-clause-usage
returns-then-is_among-clause-usage c = λ e values h.
    let p = parses c.args.text.now.name.now (names c.args.text.now.options.now) (texts c.args.words.now) values c.requires h in
    p.no_dashes (c.is_among.ensures.0 c.if-is_among.true)

pub returns-in-Err-clause-usage : goal.returns-in-Err-clause-usage
returns-in-Err-clause-usage c = λ e values h.
    let p = parses c.args.text.now.name.now (names c.args.text.now.options.now) (texts c.args.words.now) values c.requires h in
    c.matches_for.ensures.usage (c.in-Err.is ∙ ap (λ z. Err z) (error_of _ _ e)) p.no_fault

pub returns-clause-usage : goal.returns-clause-usage
returns-clause-usage c = λ e values h.
    let ns = names c.args.text.now.options.now in
    let found = found_of c.in-Ok.matches in
    let p = parses c.args.text.now.name.now ns (texts c.args.words.now) values c.requires h in
    let by_rows = values_same (first_value found) _ ns (λ n. first_value-rows found n ∙ ap (λ z. first_of n z) c.in-Ok.ensures.rows) in
    c.values_of.ensures.usage e values (by_rows ∙ p.values_are) p.are_values

pub returns-clause-values : goal.returns-clause-values
returns-clause-values c =
    let name = c.args.text.now.name.now in
    let ns = names c.args.text.now.options.now in
    let words = texts c.args.words.now in
    let found = found_of c.in-Ok.matches in
    let by_rows = values_same (first_value found) _ ns (λ n. first_value-rows found n ∙ ap (λ z. first_of n z) c.in-Ok.ensures.rows) in
    both_ok (λ values. values_by (first_value found) ns ≡ Some (texts values.items)) (λ values. All IsValue (texts values.items)) (λ values. SetsEach (dashed_all ns) words (texts values.items))
    c.values_of.result c.values_of.ensures.values c.values_of.ensures.are_values
    (λ values is all. sets_each name ns words (texts values.items) c.requires (λ there. let bad : false ≡ true = sym c.if-is_among.false ∙ c.is_among.ensures.1 there in cc) c.in-Ok.ensures.taken (sym by_rows ∙ is) all)
