-- What the stages of a sign-off hand on.
use Rattle.std.specs.Prelude.{◌≡◌, ◌⊎◌, ℤ, List, Option}
use Rattle.answers.specs.declared.answer.Answer.{Answer}
use Rattle.answers.specs.declared.answer.Answer.TheVariants.{Want}
use Rattle.grid_pieces.specs.declared.grid.Grid.{Grid}
use Rattle.grid_signing.specs.declared.signed.SignedGrid.{SignedGrid}
use Rattle.grid_signing.specs.Checked.{Signs}
use Rattle.grid_signing.specs.Refusal.{IsUnsigned}
use Rattle.wired_grid.specs.declared.error.WiredError.{WiredError}
use Rattle.wired_grid.specs.Wired.{IsWiredRefused}
use Rattle.signing_off.specs.declared.records.WiredRecords.{WiredRecords}
use Rattle.signing_off.specs.Refusal.{wired_answer}
use Rattle.signing_off.specs.Signing.{IsGridOf, base_of}

-- Why records give no grid: memory ran out, or the wiring is refused.
abbrev pub IsUnwired : WiredRecords → Answer → Type 0
IsUnwired r answer = (answer ≡ Want)
    ⊎ ((error : WiredError) × IsWiredRefused r.tech r.design r.wires error × (answer ≡ wired_answer r error))

-- Records are signed off.
abbrev pub IsSignedOf : Option (List ℤ × List ℤ) → WiredRecords → SignedGrid → Type 0
IsSignedOf told r signed = (grid : Grid) × IsGridOf r grid × Signs told (base_of r) grid signed

-- They are not.
abbrev pub IsUnsignedOf : WiredRecords → Answer → Type 0
IsUnsignedOf r answer = IsUnwired r answer ⊎ ((grid : Grid) × IsGridOf r grid × IsUnsigned (base_of r) grid answer)
