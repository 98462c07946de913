use Rattle.std.proofs.Common.{◌≡◌, ◌<◌, List, [], ◌∷◌, ◌++◌, map, Some, refl, arith, length}
use Rattle.reading.specs.Word.{Token, heard_token}
use Rattle.wiring_file.specs.declared.number.Quantity.TheVariants.{Coordinate}
use Rattle.wiring_file.specs.declared.section.Section.TheVariants.{Die}
use Rattle.wiring_file.proofs.Heard.{compose, coordinate_before, flat_is}
use Rattle.wiring_file.proofs.fault.is_flat.Goals as goal

pub returns : goal.returns
returns c = λ heard nine word.
    let before = c.args.before.now in
    let part : List Token = map heard_token before ++ word ∷ [] in
    let x1 = coordinate_before before word 2 _ (omega arith) (c.value_at-x1.ensures Die Coordinate heard refl (omega arith)) in
    let y1 = coordinate_before before word 3 _ (omega arith) (c.value_at-y1.ensures Die Coordinate heard refl (omega arith)) in
    let x2 = coordinate_before before word 6 _ (omega arith) (c.value_at-x2.ensures Die Coordinate heard refl (omega arith)) in
    let y2 = coordinate_before before word 7 _ (omega arith) (c.value_at-y2.ensures Die Coordinate heard refl (omega arith)) in
    compose c.have_one.ensures (flat_is c.texts_have_one_number.ensures part _ _ _ _ x1 y1 x2 y2)
