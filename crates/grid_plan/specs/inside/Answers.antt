-- What a test answers that may refuse.
use Rattle.std.specs.Prelude.{◌≡◌, ◌⊎◌, Option, Some, None, Result, MatchResult}
use Rattle.grid_pieces.specs.declared.error.DrawError.{DrawError}
use Rattle.grid_pieces.specs.declared.error.DrawError.TheVariants.{Want}

-- It passes where nothing refuses, and else answers what does, or want of memory.
abbrev pub Tells : {X : Type 0} → Option DrawError → Result X DrawError → Type 0
Tells refusal result =
    MatchResult result (λ _. refusal ≡ None) (λ error. (error ≡ Want) ⊎ (refusal ≡ Some error))
