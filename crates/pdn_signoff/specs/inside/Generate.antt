-- The texts that were made, each with the name of its file.
use Rattle.std.specs.Prelude.{[], ◌∷◌}
use Rattle.grid_gen.specs.declared.inputs.Inputs.{Inputs}
use Rattle.output_files.specs.Outputs.{Texts}
use Rattle.pdn_signoff.specs.declared.design_files.DesignFiles.{DesignFiles}

-- The texts with the names of their files, in the order in which they are written.
abbrev pub made_texts : DesignFiles → Inputs → Texts
made_texts files inputs =
    (files.lef, inputs.lef) ∷ (files.cells, inputs.cells) ∷ (files.def, inputs.def)
    ∷ (files.pdn, inputs.pdn) ∷ (files.bias, inputs.bias) ∷ []
