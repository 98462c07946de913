-- What `generate` answers, and what has to be so where it gives each answer.
use Rattle.std.specs.Prelude.{◌⊎◌, ℕ, List, [], ◌∷◌}
use Rattle.answers.specs.declared.answer.Answer.{Answer}
use Rattle.answers.specs.declared.answer.Answer.TheVariants.{Usage, Want, ReadFault, WriteFault, TooLong, Refused, NoGrid, Range, TooManySteps, PadConflict, FloatingCapacitor, Unsupplied, Built, SignedOff, Generated, Solved, Stepped, Certified, NotCertified}
use Rattle.grid_gen.specs.Fixed.{technology_text, cells_text, script_text}
use Rattle.grid_gen.specs.Bias.{bias_text}
use Rattle.grid_gen.specs.Design.{design_text}
use Rattle.output_files.specs.Outputs.{Texts}
use Rattle.pdn_signoff.specs.declared.design_files.DesignFiles.{DesignFiles}
use Rattle.pdn_signoff.specs.Check.{FilesThen, NoneFailed}
use Rattle.pdn_signoff.specs.Solve.{IsKept}
use Rattle.pdn_signoff.specs.Outputs.{AreWritten, StopsAt, Stops}

-- The names of the five files, in the order in which they are written.
abbrev pub file_names : DesignFiles → List (List ℕ)
file_names files = files.lef ∷ files.cells ∷ files.def ∷ files.pdn ∷ files.bias ∷ []

-- The five files of the design with a number and a side, each with its text: the technology, the cells, the placed design,
-- the script and the bias file.
unfoldable pub design_texts : (number side : ℕ) → DesignFiles → Texts
design_texts number side files =
    (files.lef, technology_text) ∷ (files.cells, cells_text) ∷ (files.def, design_text number side)
    ∷ (files.pdn, script_text) ∷ (files.bias, bias_text side) ∷ []

-- Why `generate` of a number and a side gives an answer: each answer with what has to be so, and with what the files hold
-- then. The texts are made, and then the five files are written; memory may run out before the first is written, at one
-- of them, or over the line, where all are whole.
abbrev pub Generates : FilesThen → FilesThen → (number side : ℕ) → DesignFiles → Answer → Type 0
Generates before after number side files (WriteFault file) =
    Stops before after (design_texts number side files) (WriteFault file)
Generates before after number side files Generated =
    NoneFailed before after × AreWritten before after (design_texts number side files)
Generates before after number side files Want =
    IsKept before after
    ⊎ (((place : ℕ) × StopsAt before after (design_texts number side files) place)
    ⊎ AreWritten before after (design_texts number side files))
Generates before after number side files Usage = ⊥
Generates before after number side files (ReadFault file) = ⊥
Generates before after number side files (TooLong file) = ⊥
Generates before after number side files (Refused file place kind) = ⊥
Generates before after number side files (NoGrid refusal) = ⊥
Generates before after number side files (Range quantity at value) = ⊥
Generates before after number side files (PadConflict node first second) = ⊥
Generates before after number side files (Unsupplied node) = ⊥
Generates before after number side files (Built built) = ⊥
Generates before after number side files (Solved nodes resistors sweeps) = ⊥
Generates before after number side files (TooManySteps value) = ⊥
Generates before after number side files (FloatingCapacitor node) = ⊥
Generates before after number side files (Stepped nodes steps) = ⊥
Generates before after number side files (SignedOff numbers) = ⊥
Generates before after number side files (Certified nodes) = ⊥
Generates before after number side files (NotCertified node bound found) = ⊥
