use Rattle.one_drawing.proofs.Refused.{alike_apart, alike_kept, one_cause}
use Rattle.one_drawing.proofs.laws.one_refusal_of_drawing.Goals as goal

pub returns-clause-one : goal.returns-clause-one
returns-clause-one s tech cells design script e f apart =
    one_cause
    (record {
      one = s.one_stack_or_refusal.ensures.one;
      or_refused = s.one_stack_or_refusal.ensures.or_refused;
      one_refusal = s.one_stack_or_refusal.ensures.one_refusal;
    }) tech cells design script (alike_apart tech cells design script apart) e f

pub returns-clause-kept : goal.returns-clause-kept
returns-clause-kept s tech cells design script e f tech_keeps design_keeps script_keeps =
    one_cause
    (record {
      one = s.one_stack_or_refusal.ensures.one;
      or_refused = s.one_stack_or_refusal.ensures.or_refused;
      one_refusal = s.one_stack_or_refusal.ensures.one_refusal;
    }) tech cells design script (alike_kept s.counts_by_division.ensures tech cells design script tech_keeps design_keeps script_keeps) e f
