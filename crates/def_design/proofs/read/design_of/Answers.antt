use Rattle.def_design.specs.declared.record.Design.{Design}
use Rattle.def_design.proofs.Limits.{design_is, design_kept}
use Rattle.def_design.proofs.read.design_of.Goals as goal

pub returns-clause-keeps : goal.returns-clause-keeps
returns-clause-keeps c = λ units h.
    let said = c.args.said in
    let top = c.in-Some-Some-Some in
    let design : Design =
    record {
      name = top.name;
      units = top.units;
      die = top.die;
      rows = c.new.result;
      components = c.new-2.result;
      blockages = c.new-3.result;
      regions = c.new-4.result;
    } in
    design_kept c.values_fit_their_places.ensures.limit c.values_fit_their_places.ensures.sign units said design h
    (design_is units said design h top.is-0 top.is-1 top.is-2 c.new.ensures c.new-2.ensures c.new-3.ensures c.new-4.ensures)
    c.new-2.ensures c.new-4.ensures c.into_entries-components.ensures.distinct c.into_entries-regions.ensures.distinct
