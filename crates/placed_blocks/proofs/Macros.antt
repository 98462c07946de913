-- The macro at a place, and how many layers there are.
use Rattle.std.proofs.Common.{◌≡◌, ℕ, ◌<◌, ◌≤◌, List, length, get_or, Option, Some, None, refl, ap, ◌∙◌}
use Rattle.std.specs.List.{enumerate_from}
use Rattle.std.proofs.lemmas.List.{length-map}
use Rattle.std.proofs.lemmas.List.FromFn.{length-enumerate_from}
use Rattle.std.proofs.lemmas.Option.{slice_get_read, slice_get_past}
use Rattle.lef_tech.specs.declared.layer.RoutingLayer.{RoutingLayer}
use Rattle.lef_tech.specs.declared.tech.Tech.{Tech}
use Rattle.pdn_script.specs.declared.record.Script.{Script}
use Rattle.macro_blocks.specs.declared.record.BlockMacro.{BlockMacro}
use Rattle.block_rects.specs.declared.part.Obstruction.{Obstruction}
use Rattle.block_rects.specs.declared.part.PinPart.{PinPart}
use Rattle.placed_blocks.specs.Cuts.{grid_name, is_cut, cuts_of}
use Rattle.placed_blocks.specs.Placed.{macro_at}

pub found : (macros : List BlockMacro) (place : Option ℕ) (k : ℕ) (cell : BlockMacro) → place ≡ Some k → k < length macros
    → cell ≡ get_or macros k cell → macro_at macros place ≡ Some cell
found macros place k cell e within is = ap (macro_at macros) e ∙ slice_get_read macros (length macros) k cell refl within is

pub missed : (macros : List BlockMacro) (place : Option ℕ) (k : ℕ) → place ≡ Some k → length macros ≤ k → macro_at macros place ≡ None
missed macros place k e past = ap (macro_at macros) e ∙ slice_get_past macros k past

pub as_many : (tech : Tech) (script : Script) (grid : Option ℕ) (pins : List PinPart) (obstructions : List Obstruction)
    → length (cuts_of tech script grid pins obstructions) ≡ length tech.routing
as_many tech script grid pins obstructions =
    length-map (enumerate_from 0 tech.routing) (λ (at : ℕ × RoutingLayer). is_cut script (grid_name script.grids grid) pins obstructions at.0 at.1.name)
    ∙ length-enumerate_from 0 tech.routing
