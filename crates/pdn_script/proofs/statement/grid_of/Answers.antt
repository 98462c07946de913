use Rattle.std.proofs.Common.{refl, ◌∙◌, ap, subst}
use Rattle.pdn_script.specs.Field.{start_or_ground, IsMaybeNames}
use Rattle.pdn_script.specs.Known.{or_empty, or_last}
use Rattle.pdn_script.proofs.Saying.{lengths_said}
use Rattle.script_options.specs.declared.option.ScriptOption.TheVariants.{Halo}
use Rattle.script_options.specs.declared.table.Counts.TheVariants.{Any}
use Rattle.pdn_script.proofs.statement.grid_of.Goals as goal

pub returns : goal.returns
returns c = λ command said.
    let known = c.args.known.now in record {
      name = c.in_ok-own_name.ensures ∙ ap or_empty c.value.ensures;
      voltage_domains = c.in_ok-voltage_domains.ensures ∙ c.or_last-domain.ensures ∙ ap (λ z. or_last z known.last_domain) c.value-2.ensures;
      starts_with = c.start_or_ground.ensures ∙ ap start_or_ground c.value-8.ensures;
      pins = subst (λ z. IsMaybeNames z c.in_ok-pins.pins) c.value-3.ensures c.in_ok-pins.ensures;
      macro_ = c.stands.ensures;
      orient = subst (λ z. IsMaybeNames z c.in_ok-orient.orient) c.value-4.ensures c.in_ok-orient.ensures;
      halo = lengths_said known command c.args.words.now Halo Any said refl _ c.in_ok-halo.halo c.value-5.ensures c.in_ok-halo.ensures;
      cells = subst (λ z. IsMaybeNames z c.in_ok-cells.cells) c.value-6.ensures c.in_ok-cells.ensures;
      instances = subst (λ z. IsMaybeNames z c.in_ok-instances.instances) c.value-7.ensures c.in_ok-instances.ensures;
      default = c.stands-2.ensures;
      grid_over_boundary = c.stands-3.ensures;
      grid_over_pg_pins = c.stands-4.ensures;
      place = refl;
    }
