use Rattle.std.proofs.Common.{◌≡◌, ◌<◌, List, map, Some, refl, arith, rules, ◌∙◌, length}
use Rattle.reading.specs.Word.{Token, heard_token}
use Rattle.wiring_file.specs.declared.number.Quantity.TheVariants.{Coordinate}
use Rattle.wiring_file.specs.declared.section.Section.TheVariants.{Line}
use Rattle.wiring_file.proofs.Heard.{kept}
use Rattle.wiring_file.proofs.taking.place_text.Goals as goal

pub returns : goal.returns
returns c = λ s e heard long.
    let unit : List Token = map heard_token c.args.unit.now in
    record {
      net = search rules;
      layer = search rules;
      x = kept Coordinate 6 unit _ (c.value_at.ensures Line Coordinate heard refl (omega arith));
      y = kept Coordinate 7 unit _ (c.value_at-2.ensures Line Coordinate heard refl (omega arith));
      via = search rules;
    }
