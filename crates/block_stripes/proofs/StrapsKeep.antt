-- What the straps over blocks keep.
use Rattle.std.proofs.Common.{ℕ, ◌<◌, ◌^◌, pos, List, All, map, filter, length, get_or, sym, subst}
use Rattle.std.specs.Bool.{nat_eq}
use Rattle.std.proofs.lemmas.List.{length-map}
use Rattle.std.proofs.lemmas.List.Elements.{All-map, All-same, All-filter}
use Rattle.geom_rect.specs.declared.drawn.Drawn.{Drawn}
use Rattle.geom_rect.specs.declared.rect.Rect.{Rect}
use Rattle.lef_tech.specs.declared.tech.Tech.{Tech}
use Rattle.strap_layout.specs.Lines.{LineAt, centre_of, reach_of, strap_of, IsDrawnLine}
use Rattle.grid_cores.specs.Line.{along}
use Rattle.grid_plan.specs.declared.record.Plan.{Plan}
use Rattle.grid_plan.specs.declared.record.Straps.{Straps}
use Rattle.grid_plan.specs.Keeping.{PlanKeeps, StrapsKeep, LiesNear}
use Rattle.grid_shapes.specs.Site.{grid_of}
use Rattle.grid_shapes.specs.inside.Sites.{ShapeKeeps}
use Rattle.block_stripes.specs.declared.blocks.BlockBox.{BlockBox}
use Rattle.halo_cuts.specs.declared.shape.GridShape.{GridShape}
use Rattle.block_stripes.specs.Blocks.{BoxKeeps, boxes_of, of_grid, ShapesKeep}
use Rattle.block_stripes.specs.Straps.{box_reaches, DrawOver, AreStrapsOver, AreBlockStraps, commands_over}
use Rattle.block_stripes.proofs.Fits.{RunFits, along_fits, line_fits, width_keeps}
use Rattle.block_stripes.proofs.Joined.{joined_keep}

pub boxes_near : (blocks : List BlockBox) (grid : ℕ) → All BoxKeeps blocks → All (LiesNear (2 ^ 40)) (boxes_of blocks grid)
boxes_near blocks grid near =
    let p = λ (block : BlockBox). nat_eq block.grid grid in
    All-map (LiesNear (2 ^ 40)) (λ (block : BlockBox). block.outline) (filter p blocks) (All-filter p BoxKeeps blocks near)

-- Lines as shapes of a grid.
pub shapes_of : (tech : Tech) (plan : Plan) (grid : ℕ) (lines : List Drawn) → All (ShapeKeeps tech plan) lines → ShapesKeep tech plan (of_grid grid lines)
shapes_of tech plan grid lines keep =
    All-map (λ (s : GridShape). ShapeKeeps tech plan s.shape) (λ (line : Drawn). record { grid = grid; shape = line }) lines keep

strap_keeps : (tech : Tech) (plan : Plan) (straps : Straps) (core : Rect) (line : LineAt) → StrapsKeep tech plan straps → LiesNear (2 ^ 40) core
    → IsDrawnLine straps.rule core line → ShapeKeeps tech plan (strap_of straps.rule core (box_reaches straps core) line)
strap_keeps tech plan straps core line keeps near is =
    let rule = straps.rule in
    let reaches = box_reaches straps core in
    let fit : All RunFits reaches = All-map RunFits (λ (net : ℕ). along rule.axis core) rule.nets (λ k d within. along_fits rule.axis core near) in
    let within : line.place < length reaches = subst (λ n. line.place < n) (sym (length-map rule.nets _)) is.net in
    let reach = fit line.place (record { from = pos 0; to = pos 0 }) within in
    record {
      keeps = (
        width_keeps rule.width keeps.width,
        line_fits rule.axis core (reach_of reaches line.place) (centre_of rule core line) rule.width near reach keeps.width is.low is.high,
      );
      even = keeps.width.0;
      net = keeps.nets line.place 0 is.net;
      layer = keeps.layer;
      axis = keeps.axis;
    }

over_keep : (tech : Tech) (plan : Plan) (straps : Straps) (core : Rect) (shapes : List GridShape) → StrapsKeep tech plan straps → LiesNear (2 ^ 40) core
    → DrawOver straps core shapes → ShapesKeep tech plan shapes
over_keep tech plan straps core shapes keeps near is =
    let P = ShapeKeeps tech plan in
    let drawn = is.drawn in
    let lines : All P is.lines = All-same P is.lines (map (strap_of straps.rule core (box_reaches straps core)) drawn.lines) drawn.drawn
    (All-map P (strap_of straps.rule core (box_reaches straps core)) drawn.lines
    (λ k d within. strap_keeps tech plan straps core (get_or drawn.lines k d) keeps near (drawn.each k d within))) in
    All-same (λ (s : GridShape). P s.shape) shapes (of_grid straps.grid is.lines) is.are (shapes_of tech plan straps.grid is.lines lines)

pub block_straps_keep : (tech : Tech) (plan : Plan) (blocks : List BlockBox) (shapes : List GridShape) → PlanKeeps tech plan → All BoxKeeps blocks
    → AreBlockStraps plan blocks shapes → ShapesKeep tech plan shapes
block_straps_keep tech plan blocks shapes keeps near are =
    let P = λ (s : GridShape). ShapeKeeps tech plan s.shape in
    joined_keep (StrapsKeep tech plan) P (λ (straps : Straps). AreStrapsOver straps (boxes_of blocks straps.grid))
    (λ straps first keep is. joined_keep (LiesNear (2 ^ 40)) P (DrawOver straps)
    (λ core some core_near drawn. over_keep tech plan straps core some keep core_near drawn)
    (boxes_of blocks straps.grid) first (boxes_near blocks straps.grid near) is.0)
    (commands_over plan) shapes
    (All-filter (λ (straps : Straps). (grid_of plan straps.grid).over_macros) (StrapsKeep tech plan) plan.straps keeps.straps) are
