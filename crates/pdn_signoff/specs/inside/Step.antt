-- How the two outputs of `step` are written.
use Rattle.std.specs.Prelude.{◌≡◌, ◌⊎◌}
use Rattle.answers.specs.declared.answer.Answer.{Answer}
use Rattle.answers.specs.declared.answer.Answer.TheVariants.{Stepped}
use Rattle.stepping.specs.declared.stepped.Stepped.{Stepped as Output}
use Rattle.pdn_signoff.specs.declared.step_files.StepFiles.{StepFiles}
use Rattle.pdn_signoff.specs.Check.{FilesThen, NoneFailed}
use Rattle.pdn_signoff.specs.Step.{step_texts}
use Rattle.pdn_signoff.specs.Outputs.{AreWritten, Stops}

-- The writing of the outputs comes to this answer: one of them could not be written, memory ran out, or both are whole.
abbrev pub WritesStepped : FilesThen → FilesThen → StepFiles → Output → Answer → Type 0
WritesStepped before after f stepped answer =
    Stops before after (step_texts f stepped) answer
    ⊎ ((answer ≡ Stepped stepped.nodes stepped.steps) × NoneFailed before after
    × AreWritten before after (step_texts f stepped))
