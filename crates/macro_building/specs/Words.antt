-- The answer to a script whose grids over macros are not drawn.
use Rattle.std.specs.Prelude.{ℕ, List, [], ◌++◌, codes, map, slice_index_or}
use Rattle.answers.specs.declared.answer.Answer.{Answer}
use Rattle.answers.specs.declared.answer.Answer.TheVariants.{NoGrid}
use Rattle.building.specs.declared.records.Records.{Records}
use Rattle.building.specs.Refusal.{draw_answer}
use Rattle.macro_grid.specs.declared.error.MacroError.{MacroError}
use Rattle.macro_grid.specs.declared.error.MacroError.TheVariants.{Halo, Draw}
use Rattle.pdn_script.specs.declared.record.GridRule.{GridRule}
use Rattle.pdn_script.specs.declared.record.Script.{Script}

-- The name of a grid of the script. It is empty where the script has no such grid.
abbrev pub grid_name : Script → ℕ → List ℕ
grid_name script grid = slice_index_or (map (λ (rule : GridRule). rule.name) script.grids) grid []

-- A halo that is none is told by the name of its grid.
abbrev pub halo_words : Script → ℕ → List ℕ
halo_words script grid = codes "Halo " ++ grid_name script grid

abbrev pub macro_answer : Records → MacroError → Answer
macro_answer r (Halo grid) = NoGrid (halo_words r.script grid)
macro_answer r (Draw error) = draw_answer r error
