-- Where the blocks of a design stand.
use Rattle.std.proofs.Common.{ℕ, ◌+◌, ℤ, List, [], ◌∷◌, All, Option, Some, None, IfSome}
use Rattle.std.specs.List.{filter_map, enumerate_from, cons_option}
use Rattle.std.proofs.lemmas.List.Elements.{All-nil, All-cons, All-head, All-tail}
use Rattle.geom_rect.specs.declared.direction.Orient.{Orient}
use Rattle.lef_cells.specs.declared.record.Cells.{Cells}
use Rattle.def_design.specs.declared.record.Component.{Component}
use Rattle.def_design.specs.declared.record.Design.{Design}
use Rattle.def_design.specs.Limits.{Keeps, PlaceKeeps, ComponentKeeps, DesignKeeps}
use Rattle.pdn_script.specs.declared.record.GridRule.{GridRule}
use Rattle.pdn_script.specs.declared.record.Script.{Script}
use Rattle.block_grids.specs.Blocks.{block_at, block_cell, block_of, blocks_in}
use Rattle.placed_blocks.specs.inside.Near.{AtKeeps}

one : (grids : List GridRule) (number : ℕ) (component : Component) (cell : Option ℕ) (place : Option (ℤ × ℤ × Orient)) → Keeps PlaceKeeps place
    → IfSome (block_at grids number component cell place) AtKeeps
one grids number component None place keeps = tt
one grids number component (Some cell) None keeps = tt
one grids number component (Some cell) (Some place) keeps = record { x = keeps.0; y = keeps.1 }

cons_keeps : {Y : Type 0} (P : Y → Type 0) (o : Option Y) (ys : List Y) → IfSome o P → All P ys → All P (cons_option o ys)
cons_keeps P None ys one all = all
cons_keeps P (Some y) ys one all = All-cons P y ys one all

kept : (cells : Cells) (grids : List GridRule) (k : ℕ) (components : List Component) → All ComponentKeeps components
    → All AtKeeps (filter_map (block_of cells grids) (enumerate_from k components))
kept cells grids k [] all = All-nil AtKeeps
kept cells grids k (component ∷ components) all = cons_keeps AtKeeps (block_of cells grids (k, component))
    (filter_map (block_of cells grids) (enumerate_from (k + 1) components))
    (one grids k component (block_cell cells component) component.place (All-head ComponentKeeps component components all))
    (kept cells grids (k + 1) components (All-tail ComponentKeeps component components all))

pub blocks_keep : (cells : Cells) (design : Design) (script : Script) → DesignKeeps design → All AtKeeps (blocks_in cells design script)
blocks_keep cells design script keeps = kept cells script.grids 0 design.components keeps.components
