-- Why a grid has no network.
use Rattle.std.proofs.Common.{◌≡◌, ◌⊎◌, inl, inr}
use Rattle.answers.specs.declared.answer.Answer.{Answer}
use Rattle.answers.specs.declared.answer.Answer.TheVariants.{Want}
use Rattle.grid_pieces.specs.declared.grid.Grid.{Grid}
use Rattle.grid_network.specs.declared.error.ExtractError.{ExtractError}
use Rattle.grid_extract.specs.Extraction.{IsExtractRefused}
use Rattle.grid_signing.specs.Basis.{Base}
use Rattle.grid_signing.specs.Refusal.{extract_answer, IsUnextracted}

pub unextracted : (b : Base) (grid : Grid) (error : ExtractError) (answer : Answer) → IsExtractRefused grid b.tech b.cells b.design b.bias error → (answer ≡ Want) ⊎ (answer ≡ extract_answer b.design grid error) → IsUnextracted b grid answer
unextracted b grid error answer refused (inl want) = inl want
unextracted b grid error answer refused (inr told) = inr (error, refused, told)
