use Rattle.std.proofs.Common.{refl, ◌∙◌, ap, subst}
use Rattle.pdn_script.specs.Field.{IsNames}
use Rattle.pdn_script.specs.Known.{or_last}
use Rattle.pdn_script.proofs.Saying.{count_said}
use Rattle.script_options.specs.declared.option.ScriptOption.TheVariants.{MaxRows, MaxColumns}
use Rattle.pdn_script.proofs.statement.connect_of.Goals as goal

pub returns : goal.returns
returns c = λ command said.
    let known = c.args.known.now in
    let words = c.args.words.now in
    let limit = c.numbers_keep_limits.ensures.counts in record {
      layers = subst (λ z. IsNames z c.in_ok-layers.layers) c.value.ensures c.in_ok-layers.ensures;
      grid = c.in_ok-grid.ensures ∙ c.or_last-own_grid.ensures ∙ ap (λ z. or_last z known.last_grid) c.value-2.ensures;
      max_rows = count_said limit known command words MaxRows said refl _ _ c.number.ensures c.maybe_count.ensures;
      max_columns = count_said limit known command words MaxColumns said refl _ _ c.number-2.ensures c.maybe_count-2.ensures;
      place = refl;
    }
