use Rattle.std.proofs.Common.{refl, ◌∙◌, ap, subst}
use Rattle.pdn_script.specs.Field.{maybe_start, IsNames, IsMaybeNames}
use Rattle.pdn_script.specs.Known.{or_last}
use Rattle.pdn_script.proofs.Saying.{numbers_said}
use Rattle.script_options.specs.declared.number.Quantity.TheVariants.{Length, Width}
use Rattle.script_options.specs.declared.option.ScriptOption.TheVariants.{Widths, Spacings, CoreOffsets}
use Rattle.script_options.specs.declared.table.Counts.TheVariants.{OneOrTwo, OneTwoOrFour}
use Rattle.pdn_script.proofs.statement.ring_of.Goals as goal

pub returns : goal.returns
returns c = λ command said.
    let known = c.args.known.now in
    let words = c.args.words.now in record {
      layers = subst (λ z. IsNames z c.in_ok-layers.layers) c.value.ensures c.in_ok-layers.ensures;
      widths = numbers_said known command words Widths Width OneOrTwo said refl _ c.in_ok-widths.widths c.value-2.ensures c.in_ok-widths.ensures;
      spacings = numbers_said known command words Spacings Length OneOrTwo said refl _ c.in_ok-spacings.spacings c.value-3.ensures c.in_ok-spacings.ensures;
      core_offsets = numbers_said known command words CoreOffsets Length OneTwoOrFour said refl _ c.in_ok-core_offsets.core_offsets c.value-4.ensures c.in_ok-core_offsets.ensures;
      grid = c.in_ok-grid.ensures ∙ c.or_last-own_grid.ensures ∙ ap (λ z. or_last z known.last_grid) c.value-5.ensures;
      starts_with = c.maybe_start.ensures ∙ ap maybe_start c.value-7.ensures;
      nets = subst (λ z. IsMaybeNames z c.in_ok-nets.nets) c.value-6.ensures c.in_ok-nets.ensures;
      add_connect = c.stands.ensures;
      place = refl;
    }
