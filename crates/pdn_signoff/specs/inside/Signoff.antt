-- The texts that `signoff` read, and how its three outputs are written.
use Rattle.std.specs.Prelude.{◌≡◌, ◌⊎◌, ℕ, List, [], slice_index_or}
use Rattle.answers.specs.declared.answer.Answer.{Answer}
use Rattle.answers.specs.declared.answer.Answer.TheVariants.{SignedOff}
use Rattle.grid_signing.specs.declared.signed.SignedGrid.{SignedGrid}
use Rattle.signing_off.specs.Inputs.{WiredTexts}
use Rattle.pdn_signoff.specs.declared.signoff_files.SignoffFiles.{SignoffFiles}
use Rattle.pdn_signoff.specs.Check.{FilesThen, NoneFailed}
use Rattle.pdn_signoff.specs.Signoff.{signed_texts}
use Rattle.pdn_signoff.specs.Outputs.{AreWritten, Stops}

-- The five texts of a list, with the names of their files.
abbrev pub wired_of : SignoffFiles → List (List ℕ) → WiredTexts
wired_of f texts = record {
  lef = record { file = f.lef; text = slice_index_or texts 0 [] };
  cells = record { file = f.cells; text = slice_index_or texts 1 [] };
  def = record { file = f.def; text = slice_index_or texts 2 [] };
  wires = record { file = f.wires; text = slice_index_or texts 3 [] };
  bias = record { file = f.bias; text = slice_index_or texts 4 [] };
}

-- The writing of the outputs comes to this answer: one of them could not be written, memory ran out, or all are whole.
abbrev pub WritesSigned : FilesThen → FilesThen → SignoffFiles → SignedGrid → Answer → Type 0
WritesSigned before after f signed answer =
    Stops before after (signed_texts f signed) answer
    ⊎ ((answer ≡ SignedOff signed.numbers) × NoneFailed before after × AreWritten before after (signed_texts f signed))
