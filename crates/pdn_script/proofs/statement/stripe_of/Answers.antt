use Rattle.std.proofs.Common.{refl, ◌∙◌, ap, subst}
use Rattle.pdn_script.specs.Field.{maybe_start, IsMaybeNames}
use Rattle.pdn_script.specs.Known.{or_empty, or_last}
use Rattle.pdn_script.proofs.Saying.{number_said, maybe_said, or_zero_said, count_said}
use Rattle.script_options.specs.declared.number.Quantity.TheVariants.{Length, Width as WidthNumber}
use Rattle.script_options.specs.declared.option.ScriptOption.TheVariants.{Width, Pitch, Spacing, Offset, NumberOfStraps}
use Rattle.pdn_script.proofs.statement.stripe_of.Goals as goal

pub returns : goal.returns
returns c = λ command said width.
    let known = c.args.known.now in
    let words = c.args.words.now in record {
      layer = c.in_ok-layer.ensures ∙ ap or_empty c.value.ensures;
      width = number_said known command words Width WidthNumber said refl width _ _ c.number.ensures c.unwrap_or.ensures;
      pitch = maybe_said known command words Pitch WidthNumber said refl _ c.number-2.ensures;
      grid = c.in_ok-grid.ensures ∙ c.or_last-own_grid.ensures ∙ ap (λ z. or_last z known.last_grid) c.value-2.ensures;
      spacing = maybe_said known command words Spacing Length said refl _ c.number-3.ensures;
      offset = or_zero_said known command words Offset said refl _ _ c.number-4.ensures c.unwrap_or-2.ensures;
      followpins = c.stands.ensures;
      extend_to_core_ring = c.stands-2.ensures;
      extend_to_boundary = c.stands-3.ensures;
      number_of_straps = count_said c.numbers_keep_limits.ensures.counts known command words NumberOfStraps said refl _ _ c.number-5.ensures c.maybe_count.ensures;
      starts_with = c.maybe_start.ensures ∙ ap maybe_start c.value-4.ensures;
      nets = subst (λ z. IsMaybeNames z c.in_ok-nets.nets) c.value-3.ensures c.in_ok-nets.ensures;
      place = refl;
    }
