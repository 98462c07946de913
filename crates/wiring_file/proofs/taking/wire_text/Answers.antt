use Rattle.std.proofs.Common.{◌≡◌, ◌<◌, List, map, Some, refl, arith, rules, ◌∙◌, length}
use Rattle.reading.specs.Word.{Token, heard_token}
use Rattle.wiring_file.specs.declared.number.Quantity.TheVariants.{NotNegative, Coordinate}
use Rattle.wiring_file.specs.declared.section.Section.TheVariants.{Line}
use Rattle.wiring_file.proofs.Heard.{kept}
use Rattle.wiring_file.proofs.taking.wire_text.Goals as goal

pub returns : goal.returns
returns c = λ s e heard long.
    let unit : List Token = map heard_token c.args.unit.now in
    record {
      net = search rules;
      layer = search rules;
      width = kept NotNegative 1 unit _ (c.value_at.ensures Line NotNegative heard refl (omega arith));
      shape = search rules;
      x1 = kept Coordinate 6 unit _ (c.value_at-2.ensures Line Coordinate heard refl (omega arith));
      y1 = kept Coordinate 7 unit _ (c.value_at-3.ensures Line Coordinate heard refl (omega arith));
      x2 = kept Coordinate 10 unit _ (c.value_at-4.ensures Line Coordinate heard refl (omega arith));
      y2 = kept Coordinate 11 unit _ (c.value_at-5.ensures Line Coordinate heard refl (omega arith));
    }
