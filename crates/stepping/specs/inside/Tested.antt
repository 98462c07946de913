-- Whether a network can be stepped, and the answers where it cannot.
use Rattle.std.specs.Prelude.{◌≡◌, ◌⊎◌, ℕ, Option, None, Some}
use Rattle.answers.specs.declared.answer.Answer.{Answer}
use Rattle.answers.specs.declared.answer.Answer.TheVariants.{Want}
use Rattle.short_merge.specs.declared.merged.Merged.{Merged}
use Rattle.wave_file.specs.declared.record.Waves.{Waves}
use Rattle.stepping.specs.Inputs.{CanBeStepped}
use Rattle.stepping.specs.Refusal.{NamesFloating, NamesSteps, NamesUnsupplied, NamesLimit}

-- Whether a network can be stepped, and the answer where it cannot. Memory may always be wanting.
abbrev pub IsTested : Merged → ℕ → Option Answer → Type 0
IsTested merged steps None = CanBeStepped merged steps
IsTested merged steps (Some answer) =
    (answer ≡ Want)
    ⊎ (NamesFloating merged answer ⊎ (NamesSteps merged steps answer ⊎ NamesUnsupplied merged steps answer))

-- The answer to a network that can be stepped, where memory is wanting or a limit is passed.
abbrev pub StopsAtLimit : Merged → Waves → (time steps : ℕ) → Answer → Type 0
StopsAtLimit merged waves time steps answer = (answer ≡ Want) ⊎ NamesLimit merged waves time steps answer
