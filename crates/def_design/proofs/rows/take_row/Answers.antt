use Rattle.std.proofs.Common.{map, sym, ◌∙◌}
use Rattle.def_design.proofs.Heard.{row_heard}
use Rattle.def_design.proofs.Taking.{row_added, row_kept}
use Rattle.reading.specs.Word.{heard_token}
use Rattle.def_design.proofs.rows.take_row.Goals as goal

pub returns-in_ok-push : goal.returns-in_ok-push
returns-in_ok-push c = λ units w.
    let is = sym (row_heard units c.args.unit.now w.heard) ∙ sym c.is_row.ensures ∙ c.if-is_row.true in
    row_added (map heard_token c.args.unit.now) c.args.rows.now.items c.push.new.self.items c.in_ok-row_of.field-0 is (c.in_ok-row_of.ensures units w is) c.in_ok-push.ensures.items

pub returns-else-is_row : goal.returns-else-is_row
returns-else-is_row c = λ units w.
    row_kept (map heard_token c.args.unit.now) c.args.rows.now.items (sym (row_heard units c.args.unit.now w.heard) ∙ sym c.is_row.ensures ∙ c.if-is_row.false)
