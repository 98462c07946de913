use Rattle.std.proofs.Common.{◌≡◌, ℕ, ◌<◌, ℤ, List, [], map, Some, refl, arith, length, to_z, of_z}
use Rattle.std.specs.Int.{w64}
use Rattle.reading.specs.Word.{Token, heard_token}
use Rattle.wiring_file.specs.declared.number.Quantity.TheVariants.{NotNegative, Positive}
use Rattle.wiring_file.specs.declared.section.Section.TheVariants.{Vias}
use Rattle.wiring_file.proofs.Heard.{kept}
use Rattle.wiring_file.proofs.taking.via_text.Goals as goal

pub returns : goal.returns
returns c = λ s heard long.
    let unit : List Token = map heard_token c.args.unit.now in
    record {
      name = c.in_ok-name.ensures;
      rule = c.in_ok-rule.ensures;
      cut_x = kept Positive 7 unit _ (c.value_at.ensures Vias Positive heard refl (omega arith));
      cut_y = kept Positive 8 unit _ (c.value_at-2.ensures Vias Positive heard refl (omega arith));
      lower = c.in_ok-lower.ensures;
      cut = c.in_ok-cut.ensures;
      upper = c.in_ok-upper.ensures;
      gap_x = kept NotNegative 16 unit _ (c.value_at-3.ensures Vias NotNegative heard refl (omega arith));
      gap_y = kept NotNegative 17 unit _ (c.value_at-4.ensures Vias NotNegative heard refl (omega arith));
      lower_x = kept NotNegative 20 unit _ (c.value_at-5.ensures Vias NotNegative heard refl (omega arith));
      lower_y = kept NotNegative 21 unit _ (c.value_at-6.ensures Vias NotNegative heard refl (omega arith));
      upper_x = kept NotNegative 22 unit _ (c.value_at-7.ensures Vias NotNegative heard refl (omega arith));
      upper_y = kept NotNegative 23 unit _ (c.value_at-8.ensures Vias NotNegative heard refl (omega arith));
      rows = kept Positive 26 unit _ (c.value_at-9.ensures Vias Positive heard refl (omega arith));
      columns = kept Positive 27 unit _ (c.value_at-10.ensures Vias Positive heard refl (omega arith));
    }
