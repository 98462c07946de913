use Rattle.one_drawing.proofs.Refused.{alike_apart, alike_kept, drawn_want}
use Rattle.one_drawing.proofs.laws.drawn_or_refused.Goals as goal

pub returns-clause-want : goal.returns-clause-want
returns-clause-want s tech cells design script grid e apart =
    drawn_want
    (record {
      one = s.one_stack_or_refusal.ensures.one;
      or_refused = s.one_stack_or_refusal.ensures.or_refused;
      one_refusal = s.one_stack_or_refusal.ensures.one_refusal;
    }) tech cells design script (alike_apart tech cells design script apart) grid e

pub returns-clause-kept : goal.returns-clause-kept
returns-clause-kept s tech cells design script grid e tech_keeps design_keeps script_keeps =
    drawn_want
    (record {
      one = s.one_stack_or_refusal.ensures.one;
      or_refused = s.one_stack_or_refusal.ensures.or_refused;
      one_refusal = s.one_stack_or_refusal.ensures.one_refusal;
    }) tech cells design script (alike_kept s.counts_by_division.ensures tech cells design script tech_keeps design_keeps script_keeps) grid e
