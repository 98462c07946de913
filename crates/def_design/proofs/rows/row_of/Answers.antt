use Rattle.std.proofs.Common.{[], Some, map, refl, sym, ◌∙◌, ap, subst}
use Rattle.def_design.specs.declared.number.Quantity.TheVariants.{Any}
use Rattle.def_design.specs.Number.{IsNumber}
use Rattle.def_design.specs.inside.Value.{turn_of}
use Rattle.def_design.proofs.Heard.{sort_heard}
use Rattle.def_design.proofs.Numbers.{read_as}
use Rattle.def_design.proofs.Whole.{row_said, RowSaid, count_says, step_says, upright_says}
use Rattle.def_statements.specs.declared.sort.Sort.TheVariants.{Do, Step}
use Rattle.def_statements.specs.Sort.{the}
use Rattle.def_statements.specs.Unit.{text_at, sort_at}
use Rattle.reading.specs.Word.{heard_token}
use Rattle.def_design.proofs.rows.row_of.Goals as goal

pub returns : goal.returns
returns c = λ units w is.
    let unit = c.args.unit.now in
    let words = map heard_token unit in
    let said : RowSaid unit = row_said units unit w is in
    let turn = c.sort_at.ensures ∙ sort_heard units [] unit 5 w.heard in
    let does = c.is_the.ensures ∙ ap (the Do) (c.sort_at-2.ensures ∙ sort_heard units [] unit 6 w.heard) in
    let steps = c.is_the-2.ensures ∙ ap (the Step) (c.sort_at-3.ensures ∙ sort_heard units [] unit 10 w.heard) in
    record {
      name = c.in_ok-new.ensures ∙ c.text_at.ensures;
      site = c.in_ok-new-2.ensures ∙ c.text_at-2.ensures;
      x = read_as Any (text_at 3 words) (text_at 3 words) c.number_at.result refl (subst (λ z. IsNumber Any (text_at 3 words) z) (sym c.number_at.ensures) said.x);
      y = read_as Any (text_at 4 words) (text_at 4 words) c.number_at-2.result refl (subst (λ z. IsNumber Any (text_at 4 words) z) (sym c.number_at-2.ensures) said.y);
      orient = upright_says (sort_at 5 words) said.turn said.along ∙ ap Some (sym (c.turn_of.ensures ∙ ap turn_of turn));
      count = count_says c.is_the.result (the Do (sort_at 6 words)) unit c.count_of.result does c.count_of.ensures said.count;
      step = step_says c.is_the-2.result (the Step (sort_at 10 words)) unit c.step_of.result steps c.step_of.ensures said.step;
    }
