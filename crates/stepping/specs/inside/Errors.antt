-- The answer to a step that is refused.
use Rattle.answers.specs.declared.answer.Answer.{Answer}
use Rattle.answers.specs.declared.answer.Answer.TheVariants.{Want, Range}
use Rattle.step_bounds.specs.declared.error.StepError.{StepError}
use Rattle.step_bounds.specs.declared.error.StepError.TheVariants as steps

-- The answer to an error of the steps: the limit that is passed, or want of memory.
abbrev pub error_answer : StepError → Answer
error_answer (steps.Range step quantity at number before) = Range quantity at number
error_answer steps.Want = Want
