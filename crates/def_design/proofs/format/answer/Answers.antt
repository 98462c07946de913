use Rattle.std.proofs.Common.{◌≡◌, pos, Ok, Err, ◌-◌, ◌<◌, [], ◌∷◌, ◌++◌, length, map, Contains, refl, sym, ◌∙◌, ap, subst, arith, length-append}
use Rattle.std.proofs.lemmas.List.{length-map}
use Rattle.def_design.specs.declared.error.DefKind.TheVariants.{Twice, Polygon}
use Rattle.def_design.specs.declared.number.Quantity.TheVariants.{Any}
use Rattle.def_design.specs.declared.question.Question.TheVariants as questions
use Rattle.def_design.specs.Fault.{NumberFault, ApartFault, OneFault, TurnFault, DieEndFault, TakenFault, LastFault}
use Rattle.def_design.specs.inside.Value.{SaysNothing, SaysAsked, AreCornersOf, said_number}
use Rattle.def_design.specs.Number.{IsNumber}
use Rattle.def_design.specs.Record.{SaysName, SaysUnits, SaysDie}
use Rattle.def_design.specs.Unit.{is_design, is_units, is_die, is_component, is_region}
use Rattle.def_design.proofs.Edges.{edge_after, end_after}
use Rattle.def_design.proofs.Finding.{again_found, missing_found}
use Rattle.def_design.proofs.Heard.{last_added, next_asked, coordinate_heard}
use Rattle.def_design.proofs.Numbers.{read_as}
use Rattle.def_statements.specs.Standing.{section_of}
use Rattle.def_statements.specs.Unit.{text_or, sort_or, text_at, sort_at, last_text}
use Rattle.reading.specs.Fault.{FindsValue}
use Rattle.reading.specs.Word.{token, heard_token}
use Rattle.def_design.proofs.format.answer.Goals as goal

pub returns-in-Number : goal.returns-in-Number
returns-in-Number c = λ units h heard same asked.
    let xs = c.args.before.now in
    let w = token c.args.word.now in
    let unit = map heard_token xs ++ w ∷ [] in
    let r = c.number_value.result in
    subst (λ z. FindsValue (LastFault c.args.wiring units unit z) (SaysAsked z w.text) r) (sym c.in-Number.is)
    (subst (λ z. FindsValue (NumberFault c.in-Number.quantity z) (SaysAsked (questions.Number c.in-Number.quantity) w.text) r) (sym (ap text_or (last_added (map heard_token xs) w))) c.number_value.ensures)

pub returns-in-Apart : goal.returns-in-Apart
returns-in-Apart c = λ units h heard same asked.
    let xs = c.args.before.now in
    let w = token c.args.word.now in
    let unit = map heard_token xs ++ w ∷ [] in
    let r = c.apart_value.result in
    let apart = next_asked (section_of units) xs w (sort_at 0 unit) refl ∙ sym asked ∙ c.in-Apart.is in
    let e = edge_after (section_of units) (sort_at 0 unit) (length xs) apart in
    let edge = text_at (length xs - 4) unit in
    let near : length xs - 4 < length xs = omega (arith, e.0) in
    let is = subst (λ z. IsNumber Any edge z) (sym (c.number_at.ensures ∙ ap (λ z. said_number z xs) c.saturating_sub.ensures))
    (coordinate_heard units xs w (length xs - 4) near heard e.1) in
    let count = length-append (map heard_token xs) (w ∷ []) in
    let number = length-map xs heard_token in
    let at : length xs - 4 ≡ length unit - 5 = omega (arith, count, number) in
    subst (λ z. FindsValue (LastFault c.args.wiring units unit z) (SaysAsked z w.text) r) (sym c.in-Apart.is)
    (subst (λ z. FindsValue (ApartFault (text_at z unit) (last_text unit)) (IsNumber Any w.text) r) at
    (subst (λ z. FindsValue (ApartFault edge z) (IsNumber Any w.text) r) (sym (ap text_or (last_added (map heard_token xs) w)))
    (c.apart_value.ensures edge (read_as Any edge edge c.number_at.result refl is))))

pub returns-in-FirstUnits : goal.returns-in-FirstUnits
returns-in-FirstUnits c = λ units h heard same asked.
    let r = c.again_value-in-FirstUnits.result in
    subst (λ z. FindsValue (LastFault c.args.wiring units (map heard_token c.args.before.now ++ token c.args.word.now ∷ []) z) (SaysAsked z c.args.word.now.text.now) r) (sym c.in-FirstUnits.is)
    (again_found is_units SaysUnits units c.args.said.now.top.units c.is_some-in-FirstUnits.result r c.is_some-in-FirstUnits.ensures h.top.units
    c.again_value-in-FirstUnits.ensures)

pub returns-in-FirstDie : goal.returns-in-FirstDie
returns-in-FirstDie c = λ units h heard same asked.
    let r = c.again_value-in-FirstDie.result in
    subst (λ z. FindsValue (LastFault c.args.wiring units (map heard_token c.args.before.now ++ token c.args.word.now ∷ []) z) (SaysAsked z c.args.word.now.text.now) r) (sym c.in-FirstDie.is)
    (again_found is_die SaysDie units c.args.said.now.top.die c.is_some-in-FirstDie.result r c.is_some-in-FirstDie.ensures h.top.die
    c.again_value-in-FirstDie.ensures)

pub returns-in-DieEnd : goal.returns-in-DieEnd
returns-in-DieEnd c = λ units h heard same asked.
    let xs = c.args.before.now in
    let w = token c.args.word.now in
    let unit = map heard_token xs ++ w ∷ [] in
    let r = c.die_end_value.result in
    let ends = next_asked (section_of units) xs w (sort_at 0 unit) refl ∙ sym asked ∙ c.in-DieEnd.is in
    let e = end_after (section_of units) (sort_at 0 unit) (length xs) ends in
    let many = e.0 in
    let corners : AreCornersOf 2 unit xs = record {
      x = coordinate_heard units xs w 2 (omega (arith, many)) heard e.1;
      y = coordinate_heard units xs w 3 (omega (arith, many)) heard e.2;
      z = coordinate_heard units xs w 6 (omega (arith, many)) heard e.3;
      w = coordinate_heard units xs w 7 (omega (arith, many)) heard e.4;
    } in
    subst (λ z. FindsValue (LastFault c.args.wiring units unit z) (SaysAsked z w.text) r) (sym c.in-DieEnd.is)
    (subst (λ z. FindsValue (DieEndFault unit z) SaysNothing r) (same ∙ sym (ap sort_or (last_added (map heard_token xs) w))) (c.die_end_value.ensures unit corners))

pub returns-in-RowTurn : goal.returns-in-RowTurn
returns-in-RowTurn c = λ units h heard same asked.
    let xs = c.args.before.now in
    let w = token c.args.word.now in
    let r = c.turn_value.result in
    subst (λ z. FindsValue (LastFault c.args.wiring units (map heard_token xs ++ w ∷ []) z) (SaysAsked z w.text) r) (sym c.in-RowTurn.is)
    (subst (λ z. FindsValue (TurnFault z) SaysNothing r) (same ∙ sym (ap sort_or (last_added (map heard_token xs) w))) c.turn_value.ensures)

pub returns-in-OneRow : goal.returns-in-OneRow
returns-in-OneRow c = λ units h heard same asked.
    let xs = c.args.before.now in
    let w = token c.args.word.now in
    let r = c.one_value.result in
    subst (λ z. FindsValue (LastFault c.args.wiring units (map heard_token xs ++ w ∷ []) z) (SaysAsked z w.text) r) (sym c.in-OneRow.is)
    (subst (λ z. FindsValue (OneFault z) SaysNothing r) (sym (ap text_or (last_added (map heard_token xs) w))) c.one_value.ensures)

pub returns-in-NewComponent : goal.returns-in-NewComponent
returns-in-NewComponent c = λ units h heard same asked.
    let xs = c.args.before.now in
    let w = token c.args.word.now in
    let r = c.name_value.result in
    subst (λ z. FindsValue (LastFault c.args.wiring units (map heard_token xs ++ w ∷ []) z) (SaysAsked z w.text) r) (sym c.in-NewComponent.is)
    (subst (λ z. FindsValue (TakenFault is_component units z) SaysNothing r) (sym (ap text_or (last_added (map heard_token xs) w)))
    (subst (λ z. FindsValue (λ kind. (kind ≡ Twice) × Contains z w.text) SaysNothing r) h.components.names c.name_value.ensures))

pub returns-in-NewRegion : goal.returns-in-NewRegion
returns-in-NewRegion c = λ units h heard same asked.
    let xs = c.args.before.now in
    let w = token c.args.word.now in
    let r = c.name_value-in-NewRegion.result in
    subst (λ z. FindsValue (LastFault c.args.wiring units (map heard_token xs ++ w ∷ []) z) (SaysAsked z w.text) r) (sym c.in-NewRegion.is)
    (subst (λ z. FindsValue (TakenFault is_region units z) SaysNothing r) (sym (ap text_or (last_added (map heard_token xs) w)))
    (subst (λ z. FindsValue (λ kind. (kind ≡ Twice) × Contains z w.text) SaysNothing r) h.regions.names c.name_value-in-NewRegion.ensures))

pub returns-in-AllStands : goal.returns-in-AllStands
returns-in-AllStands c = λ units h heard same asked.
    let r = c.end_value.result in
    subst (λ z. FindsValue (LastFault c.args.wiring units (map heard_token c.args.before.now ++ token c.args.word.now ∷ []) z) (SaysAsked z c.args.word.now.text.now) r) (sym c.in-AllStands.is)
    (missing_found units c.args.said.now.top c.is_some-in-AllStands.result c.is_some-in-AllStands-2.result c.is_some-in-AllStands-3.result r
    c.is_some-in-AllStands.ensures c.is_some-in-AllStands-2.ensures c.is_some-in-AllStands-3.ensures h.top c.end_value.ensures)

pub returns-in-Nothing : goal.returns-in-Nothing
returns-in-Nothing c = λ units h heard same asked.
    let w = token c.args.word.now in
    subst (λ z. FindsValue (LastFault c.args.wiring units (map heard_token c.args.before.now ++ w ∷ []) z) (SaysAsked z w.text) (Ok (pos 0))) (sym c.in-Nothing.is) ((λ kind k. k), tt)

pub returns-in-FirstDesign : goal.returns-in-FirstDesign
returns-in-FirstDesign c = λ units h heard same asked.
    let r = c.again_value.result in
    subst (λ z. FindsValue (LastFault c.args.wiring units (map heard_token c.args.before.now ++ token c.args.word.now ∷ []) z) (SaysAsked z c.args.word.now.text.now) r) (sym c.in-FirstDesign.is)
    (again_found is_design SaysName units c.args.said.now.top.name c.is_some.result r c.is_some.ensures h.top.name c.again_value.ensures)

pub returns-in-NoPolygon : goal.returns-in-NoPolygon
returns-in-NoPolygon c = λ units h heard same asked.
    let w = token c.args.word.now in
    subst (λ z. FindsValue (LastFault c.args.wiring units (map heard_token c.args.before.now ++ w ∷ []) z) (SaysAsked z w.text) (Err Polygon)) (sym c.in-NoPolygon.is) refl

pub returns-in-NoWire : goal.returns-in-NoWire
returns-in-NoWire c = λ units h heard same asked.
    let w = token c.args.word.now in
    subst (λ z. FindsValue (LastFault c.args.wiring units (map heard_token c.args.before.now ++ w ∷ []) z) (SaysAsked z w.text) c.wire_value.result) (sym c.in-NoWire.is) c.wire_value.ensures
