use Rattle.std.proofs.Common.{[], Some, map, refl, sym, ◌∙◌, ap}
use Rattle.def_design.specs.declared.number.Quantity.TheVariants.{Any}
use Rattle.def_design.specs.inside.Value.{turn_of}
use Rattle.def_design.proofs.Heard.{sort_heard}
use Rattle.def_design.proofs.Numbers.{read_as}
use Rattle.def_design.proofs.Whole.{place_said, turn_says}
use Rattle.def_statements.specs.Unit.{text_at, sort_at}
use Rattle.reading.specs.Word.{heard_token}
use Rattle.def_design.proofs.components.place_of.Goals as goal

pub returns : goal.returns
returns c = λ units w is.
    let unit = c.args.unit.now in
    let said = place_said units unit w is in
    let turn = c.turn_of.ensures ∙ ap turn_of (c.sort_at.ensures ∙ sort_heard units [] unit 5 w.heard) in
    let point = c.point_of-point.ensures said.x said.y in
    let first = text_at 2 (map heard_token unit) in
    let second = text_at 3 (map heard_token unit) in
    ((read_as Any first first c.point_of-point.result.x refl point.0, read_as Any second second c.point_of-point.result.y refl point.1), turn_says (sort_at 5 (map heard_token unit)) said.turn ∙ ap Some (sym turn))
