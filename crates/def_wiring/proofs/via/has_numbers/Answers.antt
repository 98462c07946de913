use Rattle.std.proofs.Common.{◌≡◌, true, false}
use Rattle.def_wiring.proofs.Faults.{not_true}
use Rattle.def_wiring.proofs.via.has_numbers.Goals as goal

pub returns-then-not-has_number : goal.returns-then-not-has_number
returns-then-not-has_number c = (
  λ t. absurd (let f : false ≡ true = t in cc),
  λ h. absurd (not_true c.has_number.result c.if-not-has_number.true (c.has_number.ensures.1 (h.0.cut_x, h.1.cut_x))),
)

pub returns-then-not-has_number-2 : goal.returns-then-not-has_number-2
returns-then-not-has_number-2 c = (
  λ t. absurd (let f : false ≡ true = t in cc),
  λ h. absurd (not_true c.has_number-2.result c.if-not-has_number-2.true (c.has_number-2.ensures.1 (h.0.cut_y, h.1.cut_y))),
)

pub returns-then-not-has_number-3 : goal.returns-then-not-has_number-3
returns-then-not-has_number-3 c = (
  λ t. absurd (let f : false ≡ true = t in cc),
  λ h. absurd (not_true c.has_number-3.result c.if-not-has_number-3.true (c.has_number-3.ensures.1 (h.0.gap_x, h.1.gap_x))),
)

pub returns-then-not-has_number-4 : goal.returns-then-not-has_number-4
returns-then-not-has_number-4 c = (
  λ t. absurd (let f : false ≡ true = t in cc),
  λ h. absurd (not_true c.has_number-4.result c.if-not-has_number-4.true (c.has_number-4.ensures.1 (h.0.gap_y, h.1.gap_y))),
)

pub returns-then-not-has_number-5 : goal.returns-then-not-has_number-5
returns-then-not-has_number-5 c = (
  λ t. absurd (let f : false ≡ true = t in cc),
  λ h. absurd (not_true c.has_number-5.result c.if-not-has_number-5.true (c.has_number-5.ensures.1 (h.0.lower_x, h.1.lower_x))),
)

pub returns-then-not-has_number-6 : goal.returns-then-not-has_number-6
returns-then-not-has_number-6 c = (
  λ t. absurd (let f : false ≡ true = t in cc),
  λ h. absurd (not_true c.has_number-6.result c.if-not-has_number-6.true (c.has_number-6.ensures.1 (h.0.lower_y, h.1.lower_y))),
)

pub returns-then-not-has_number-7 : goal.returns-then-not-has_number-7
returns-then-not-has_number-7 c = (
  λ t. absurd (let f : false ≡ true = t in cc),
  λ h. absurd (not_true c.has_number-7.result c.if-not-has_number-7.true (c.has_number-7.ensures.1 (h.0.upper_x, h.1.upper_x))),
)

pub returns-then-not-has_number-8 : goal.returns-then-not-has_number-8
returns-then-not-has_number-8 c = (
  λ t. absurd (let f : false ≡ true = t in cc),
  λ h. absurd (not_true c.has_number-8.result c.if-not-has_number-8.true (c.has_number-8.ensures.1 (h.0.upper_y, h.1.upper_y))),
)

pub returns-then-not-has_count : goal.returns-then-not-has_count
returns-then-not-has_count c = (
  λ t. absurd (let f : false ≡ true = t in cc),
  λ h. absurd (not_true c.has_count.result c.if-not-has_count.true (c.has_count.ensures.1 (h.0.rows, h.1.rows))),
)

pub returns : goal.returns
returns c = (
  λ t. (
    record {
      cut_x = (c.has_number.ensures.0 c.if-not-has_number.false).0;
      cut_y = (c.has_number-2.ensures.0 c.if-not-has_number-2.false).0;
      gap_x = (c.has_number-3.ensures.0 c.if-not-has_number-3.false).0;
      gap_y = (c.has_number-4.ensures.0 c.if-not-has_number-4.false).0;
      lower_x = (c.has_number-5.ensures.0 c.if-not-has_number-5.false).0;
      lower_y = (c.has_number-6.ensures.0 c.if-not-has_number-6.false).0;
      upper_x = (c.has_number-7.ensures.0 c.if-not-has_number-7.false).0;
      upper_y = (c.has_number-8.ensures.0 c.if-not-has_number-8.false).0;
      rows = (c.has_count.ensures.0 c.if-not-has_count.false).0;
      columns = (c.has_count-2.ensures.0 t).0;
    },
    record {
      cut_x = (c.has_number.ensures.0 c.if-not-has_number.false).1;
      cut_y = (c.has_number-2.ensures.0 c.if-not-has_number-2.false).1;
      gap_x = (c.has_number-3.ensures.0 c.if-not-has_number-3.false).1;
      gap_y = (c.has_number-4.ensures.0 c.if-not-has_number-4.false).1;
      lower_x = (c.has_number-5.ensures.0 c.if-not-has_number-5.false).1;
      lower_y = (c.has_number-6.ensures.0 c.if-not-has_number-6.false).1;
      upper_x = (c.has_number-7.ensures.0 c.if-not-has_number-7.false).1;
      upper_y = (c.has_number-8.ensures.0 c.if-not-has_number-8.false).1;
      rows = (c.has_count.ensures.0 c.if-not-has_count.false).1;
      columns = (c.has_count-2.ensures.0 t).1;
    },
  ),
  λ h. c.has_count-2.ensures.1 (h.0.columns, h.1.columns),
)
