use Rattle.std.proofs.Common.{[], ◌∷◌, ◌++◌, map, sym, ◌∙◌, subst}
use Rattle.def_design.specs.inside.Held.{FirstSays}
use Rattle.def_design.specs.Record.{SaysName, SaysUnits, SaysDie}
use Rattle.def_design.specs.Unit.{is_design, is_units, is_die}
use Rattle.reading.specs.Word.{heard_token}
use Rattle.def_design.proofs.top.Top.take.Goals as goal

pub returns : goal.returns
returns c = λ units w text h.
    let more = text ++ map heard_token c.args.unit.now ∷ [] in
    record {
      name = subst (λ z. FirstSays is_design SaysName more z) (sym (c.take_die.ensures.name ∙ c.take_units.ensures.name)) (c.in_ok-take_name.ensures.name units w text h.name);
      units = subst (λ z. FirstSays is_units SaysUnits more z) (sym c.take_die.ensures.units)
          (c.take_units.ensures.units units w text (subst (λ z. FirstSays is_units SaysUnits text z) (sym c.take_name.ensures.units) h.units));
      die = c.take_die.ensures.die units w text (subst (λ z. FirstSays is_die SaysDie text z) (sym (c.take_units.ensures.die ∙ c.take_name.ensures.die)) h.die);
    }
