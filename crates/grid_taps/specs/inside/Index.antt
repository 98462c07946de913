-- Rectangles that are found by a column.
use Rattle.std.specs.Prelude.{ℕ, Bool, List, Option}
use Rattle.geom_rect.specs.declared.rect.Rect.{Rect}
use Rattle.rect_index.specs.declared.entry.Entry.{Entry}
use Rattle.rect_index.specs.Entry as rects
use Rattle.grid_taps.specs.declared.column.Column.{Column}

-- The points of the column, as a rectangle that is flat.
abbrev pub window_of : Column → Rect
window_of column = record { x1 = column.x; y1 = column.lower; x2 = column.x; y2 = column.upper }

-- An entry of the group has a point of the column.
abbrev pub is_at : ℕ → Column → Entry ℕ → Bool
is_at group column = rects.is_at group (window_of column)

-- The number of the first entry that is there.
abbrev pub first_at : ℕ → Column → List (Entry ℕ) → Option ℕ
first_at group column = rects.first_at group (window_of column)
