-- The texts that were read, in their order.
use Rattle.std.specs.Prelude.{◌≡◌, ◌≤◌, ◌⊎◌, ℕ, List, [], All, Option, IfSome, length, map, slice_index_or}
use Rattle.answers.specs.declared.answer.Answer.{Answer}
use Rattle.answers.specs.declared.answer.Answer.TheVariants.{Built}
use Rattle.building.specs.declared.outputs.Outputs.{Outputs}
use Rattle.building.specs.Inputs.{FiveTexts}
use Rattle.outside.specs.Files.{Holdings, bytes_in}
use Rattle.outside.specs.Whole.{longest_text}
use Rattle.pdn_signoff.specs.declared.build_files.BuildFiles.{BuildFiles}
use Rattle.pdn_signoff.specs.Build.{files_read, output_texts}
use Rattle.pdn_signoff.specs.Check.{FilesThen, NoneFailed}
use Rattle.pdn_signoff.specs.Outputs.{AreWritten, Stops}

-- The texts are those of the five files, as far as it is known what these hold.
pub record AreRead (known : Option Holdings) (f : BuildFiles) (texts : List (List ℕ)) : Type 0 where
  pub count : length texts ≡ 5
  pub texts_are : IfSome known (λ held. texts ≡ map (bytes_in held) (files_read f))
  pub fit : All (λ text. length text ≤ longest_text) texts

-- The five texts of a list, with the names of their files.
abbrev pub five_of : BuildFiles → List (List ℕ) → FiveTexts
five_of f texts = record {
  lef = record { file = f.lef; text = slice_index_or texts 0 [] };
  cells = record { file = f.cells; text = slice_index_or texts 1 [] };
  def = record { file = f.def; text = slice_index_or texts 2 [] };
  pdn = record { file = f.pdn; text = slice_index_or texts 3 [] };
  bias = record { file = f.bias; text = slice_index_or texts 4 [] };
}

-- The writing of the outputs comes to this answer: one of them could not be written, memory ran out, or all are whole.
abbrev pub WritesBuilt : FilesThen → FilesThen → BuildFiles → Outputs → Answer → Type 0
WritesBuilt before after f outputs answer =
    Stops before after (output_texts f outputs) answer
    ⊎ ((answer ≡ Built outputs.numbers) × NoneFailed before after × AreWritten before after (output_texts f outputs))
