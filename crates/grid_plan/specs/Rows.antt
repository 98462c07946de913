-- The boxes of the rows (LEF/DEF 5.8 Language Reference, ROW and SITE).
use Rattle.std.specs.Prelude.{ℕ, ℤ, pos, ◌+ℤ◌, ◌-ℤ◌, ◌*ℤ◌, Bool, true, false, map, slice_index_or}
use Rattle.std.specs.Option.{unwrap_or}
use Rattle.geom_rect.specs.declared.direction.Orient.{Orient}
use Rattle.geom_rect.specs.declared.direction.Orient.TheVariants as orients
use Rattle.lef_cells.specs.declared.record.Cells.{Cells}
use Rattle.lef_cells.specs.declared.record.Site.{Site}
use Rattle.def_design.specs.declared.record.Row.{Row}
use Rattle.rail_layout.specs.declared.row.RowBox.{RowBox}
use Rattle.grid_plan.specs.Names.{Names, place_in}
use Rattle.grid_plan.specs.Resolved.{length_of}

-- The width and the height of the site of a row, in pm.
abbrev pub site_width : Cells → Names → Row → ℕ
site_width cells names row =
    slice_index_or (map (λ (site : Site). site.width) cells.sites) (place_in names.sites row.site) 0

abbrev pub site_height : Cells → Names → Row → ℕ
site_height cells names row =
    slice_index_or (map (λ (site : Site). site.height) cells.sites) (place_in names.sites row.site) 0

-- S and FS exchange the edges of a row.
abbrev pub is_flipped : Orient → Bool
is_flipped orients.S = true
is_flipped orients.FS = true
is_flipped _ = false

-- A row's box with a site of this width and height: a step for each site but the last, and the width of a site. A step
-- that is not stated is that width.
abbrev pub box_of : Row → ℤ → ℤ → RowBox
box_of row width height = record {
  rect = record {
    x1 = row.x;
    y1 = row.y;
    x2 = row.x +ℤ (row.count -ℤ pos 1) *ℤ unwrap_or row.step width +ℤ width;
    y2 = row.y +ℤ height;
  };
  flipped = is_flipped row.orient;
}

abbrev pub row_box : Cells → Names → ℕ → Row → RowBox
row_box cells names units row =
    box_of row (length_of units (site_width cells names row)) (length_of units (site_height cells names row))
