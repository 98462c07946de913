use Rattle.std.proofs.Common.{Err, ◌∙◌}
use Rattle.macro_blocks.proofs.Numbers.{no_error}
use Rattle.number_place.specs.declared.place.Refused.TheVariants.{Number}
use Rattle.macro_blocks.proofs.number.coordinate_of.Goals as goal

pub returns-in-Ok-clause-fine : goal.returns-in-Ok-clause-fine
returns-in-Ok-clause-fine c = λ error refused.
    no_error (Number error) c.in-Ok.value (c.small_number_at.ensures.only (Err (Number error)) refused ∙ c.in-Ok.is)
