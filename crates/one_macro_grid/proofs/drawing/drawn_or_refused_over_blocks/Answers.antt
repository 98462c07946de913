use Rattle.one_macro_grid.proofs.Refused.{drawn_want}
use Rattle.one_macro_grid.proofs.drawing.drawn_or_refused_over_blocks.Goals as goal

pub returns : goal.returns
returns s tech cells blocks design script drawn e apart =
    drawn_want
    (record {
      stack = record {
        one = s.one_stack_or_refusal.ensures.one;
        or_refused = s.one_stack_or_refusal.ensures.or_refused;
        one_refusal = s.one_stack_or_refusal.ensures.one_refusal;
      };
      placed = s.one_list_of_blocks.ensures;
      cut = s.one_cut.ensures;
    }) tech cells blocks design script apart drawn e
