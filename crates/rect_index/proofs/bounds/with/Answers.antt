-- The least and the greatest of two lie on the far side of both.
use Rattle.std.proofs.Common.{rules, arith}
use Rattle.rect_index.proofs.bounds.with.Goals as goal

pub returns-clause-one : goal.returns-clause-one
returns-clause-one g c = record {
  least = omega (arith, c.min.ensures);
  greatest = omega (arith, c.max.ensures);
  x1 = search rules;
  y1 = search rules;
  x2 = search rules;
  y2 = search rules;
}

pub returns-clause-others : goal.returns-clause-others
returns-clause-others g c = λ other within.
    let low = within.least in
    let high = within.greatest in
    let a = within.x1 in
    let b = within.y1 in
    let d = within.x2 in
    let e = within.y2 in record {
      least = omega (arith, c.min.ensures);
      greatest = omega (arith, c.max.ensures);
      x1 = search rules;
      y1 = search rules;
      x2 = search rules;
      y2 = search rules;
    }
