-- The stacks that stand over the pieces of a grid: each has its site, and so its arrays stand.
use Rattle.std.proofs.Common.{◌≡◌, ℕ, ◌<◌, ◌^◌, pos, All, List, length, get_or, sym, subst, ap, ◌∙◌, arith}
use Rattle.std.proofs.lemmas.List.Elements.{All-contains}
use Rattle.std.proofs.lemmas.Option.{slice_get-get_or}
use Rattle.geom_rect.specs.declared.direction.Axis.TheVariants.{X, Y}
use Rattle.geom_rect.specs.declared.rect.Rect.{Rect}
use Rattle.lef_tech.specs.declared.tech.Tech.{Tech}
use Rattle.lef_tech.specs.Limits.{TechKeeps}
use Rattle.via_arrays.specs.Extents.{extent}
use Rattle.via_arrays.specs.Lengths.{IsUnits}
use Rattle.grid_pieces.specs.declared.grid.Grid.{Grid}
use Rattle.grid_pieces.specs.declared.piece.Block.{Block}
use Rattle.grid_pieces.specs.declared.piece.StackAt.{StackAt}
use Rattle.grid_stacks.specs.declared.connect.Connect.{Connect}
use Rattle.grid_stacks.specs.declared.connect.Site.{Site}
use Rattle.grid_stacks.specs.Crossing.{Stands, crossing_of}
use Rattle.grid_stacks.specs.Stacking.{AreStacks, IsStackAt}
use Rattle.grid_shapes.specs.Drawing.{PieceStands}
use Rattle.drawn_grids.specs.Laws.Cut.{ArrayStands, array_stands}
use Rattle.drawn_grids.specs.Laws.Narrow.{narrow_x, narrow_y}

-- ## sites

pub no_site : Site
no_site = record {
  net = 0;
  x = pos 0;
  y = pos 0;
  from = 0;
  to = 0;
  crossing = record { x1 = pos 0; y1 = pos 0; x2 = pos 0; y2 = pos 0 };
  max_columns = 0;
  max_rows = 0;
}

-- The site of a stack: its crossing is narrow, and the stack is that of the site.
pub record HasSite (tech : Tech) (stack : StackAt) : Type 0 where
  pub site : Site
  pub units : ℕ
  pub is_units : IsUnits units
  pub wide : extent X site.crossing < 2 ^ 32
  pub high : extent Y site.crossing < 2 ^ 32
  pub is : IsStackAt tech units site stack

-- Each of the stacks that stand over the pieces of a grid has one.
pub has_site : (tech : Tech) (grid : Grid) (connects : List Connect) (blocks : List Block) (units : ℕ) (stacks : List StackAt) → IsUnits units
    → All (PieceStands tech grid) grid.pieces → AreStacks (Stands tech grid.pieces connects blocks) tech units grid.pieces stacks → (k : ℕ) (d : StackAt)
    → k < length stacks → HasSite tech (get_or stacks k d)
has_site tech grid connects blocks units stacks is_units pieces are k d within = record {
  site = site;
  units = units;
  is_units = is_units;
  wide = subst (λ (r : Rect). extent X r < 2 ^ 32) (sym crossing) (narrow_x tech grid stands.upright (crossing_of stands.flat stands.upright)
      (All-contains (PieceStands tech grid) grid.pieces stands.upright pieces stands.upright_is) stands.cross.vertical stands.cross.upright_width);
  high = subst (λ (r : Rect). extent Y r < 2 ^ 32) (sym crossing) (narrow_y tech grid stands.flat (crossing_of stands.flat stands.upright)
      (All-contains (PieceStands tech grid) grid.pieces stands.flat pieces stands.flat_is) stands.cross.horizontal stands.cross.flat_width);
  is = are.3.each k no_site d in_sites;
}
  where
    site : Site
    site = get_or are.0 k no_site

    in_sites : k < length are.0
    in_sites = let same = are.3.as_many in omega arith

    stands : Stands tech grid.pieces connects blocks site
    stands = are.1.are.each k no_site in_sites

    crossing : site.crossing ≡ crossing_of stands.flat stands.upright
    crossing = ap (λ (s : Site). s.crossing) stands.is

-- ## arrays

pub arrays_stand : (tech : Tech) (stack : StackAt) → TechKeeps tech → HasSite tech stack → All (ArrayStands tech) stack.stack.arrays
arrays_stand tech stack keeps has level array within =
    let s = has.is.stack in
    let as_many : length stack.stack.arrays ≡ length stack.stack.ohms = s.arrays ∙ sym s.ohms in
    let pair = s.each level (get_or stack.stack.arrays level array) (get_or stack.stack.ohms level 0)
    (slice_get-get_or stack.stack.arrays level array within) (slice_get-get_or stack.stack.ohms level 0 (omega arith)) in
    array_stands tech pair.place has.site.crossing has.units has.site.max_columns has.site.max_rows (get_or stack.stack.arrays level array) keeps has.is_units has.wide has.high pair.made
