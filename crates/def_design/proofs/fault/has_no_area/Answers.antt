use Rattle.def_design.proofs.Numbers.{same_side, side_same, side_other}
use Rattle.def_statements.specs.Unit.{text_at}
use Rattle.def_design.proofs.fault.has_no_area.Goals as goal

pub returns-then-is_same : goal.returns-then-is_same
returns-then-is_same c = λ unit corners.
    side_same unit c.is_same.result
    (same_side c.texts_have_one_number.ensures (text_at 2 unit) (text_at 6 unit) _ _ c.number_at.result c.number_at-2.result corners.x corners.z c.number_at.ensures c.number_at-2.ensures
    c.is_same.result c.is_same.ensures) c.if-is_same.true

pub returns-else-is_same : goal.returns-else-is_same
returns-else-is_same c = λ unit corners.
    side_other unit c.is_same.result c.is_same-else-is_same.result
    (same_side c.texts_have_one_number.ensures (text_at 2 unit) (text_at 6 unit) _ _ c.number_at.result c.number_at-2.result corners.x corners.z c.number_at.ensures c.number_at-2.ensures
    c.is_same.result c.is_same.ensures) c.if-is_same.false
    (same_side c.texts_have_one_number.ensures (text_at 3 unit) (text_at 7 unit) _ _ c.number_at-else-is_same.result c.number_at-else-is_same-2.result corners.y corners.w
    c.number_at-else-is_same.ensures c.number_at-else-is_same-2.ensures c.is_same-else-is_same.result c.is_same-else-is_same.ensures)
