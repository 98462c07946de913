use Rattle.std.proofs.Common.{◌≡◌, sym, ◌∙◌, ap, ap₂, List, [], ◌∷◌, ◌++◌, take}
use Rattle.std.proofs.lemmas.List.{map-append}
use Rattle.clap.specs.Words.{App, Rule, Text, with_rule}
use Rattle.command_words.specs.inside.Parsed.{app, asked, names}
use Rattle.command_words.proofs.Each.{names_more}
use Rattle.command_words.proofs.parsed.command_for.Goals as goal

more : (name : Text) (ns : List Text) (n : Text) → with_rule (app name ns) (asked n) ≡ app name (ns ++ n ∷ [])
more name ns n = ap (λ z. with_rules z) (sym (map-append asked ns (n ∷ [])))
  where
    with_rules : List Rule → App
    with_rules z = record { top = record (app name ns).top { rules = z }; subs = [] }

pub loop-option-preserved : goal.loop-option-preserved
loop-option-preserved c =
    let i = c.loop-option.option-index in
    let name = c.args.text.now.name.now in
    let options = c.args.text.now.options.now in
    c.in_ok-command.ensures.shape c.arg_for.ensures.local ∙ ap₂ with_rule c.loop-option.invariant c.arg_for.ensures.rule ∙ more name (names (take i options)) _
    ∙ ap (λ z. app name z) (sym (names_more options i _ c.loop-option-test.true))
