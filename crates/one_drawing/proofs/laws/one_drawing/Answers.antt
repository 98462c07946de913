use Rattle.one_drawing.proofs.Refused.{one_grid}
use Rattle.one_drawing.proofs.laws.one_drawing.Goals as goal

pub returns : goal.returns
returns s = record {
  one = λ tech cells design script a b apart. one_grid
      (record {
        one = s.one_stack_or_refusal.ensures.one;
        or_refused = s.one_stack_or_refusal.ensures.or_refused;
        one_refusal = s.one_stack_or_refusal.ensures.one_refusal;
      }) tech cells design script apart a b;
}
