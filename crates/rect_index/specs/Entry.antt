-- Which entries are found at a window.
use Rattle.std.specs.Prelude.{ℕ, ℤ, Bool, ◌&&◌, ◌==◌, int_le, List, Option, find}
use Rattle.std.specs.Option.{option_map}
use Rattle.geom_rect.specs.declared.rect.Rect.{Rect}
use Rattle.rect_index.specs.declared.entry.Entry.{Entry}

-- Two closed intervals share a point.
abbrev pub share : ℤ → ℤ → ℤ → ℤ → Bool
share low high from to = int_le from high && int_le low to

-- Two rectangles do, edges included.
abbrev pub touches : Rect → Rect → Bool
touches window rect = share window.x1 window.x2 rect.x1 rect.x2 && share window.y1 window.y2 rect.y1 rect.y2

-- The entry is of the group, and has a point of the window.
abbrev pub is_at : {T : Type 0} → ℕ → Rect → Entry T → Bool
is_at group window entry = (entry.group == group) && touches window entry.rect

-- What the entry stands for.
abbrev pub item_of : {T : Type 0} → Entry T → T
item_of entry = entry.item

-- What the first entry stands for that is there.
abbrev pub first_at : {T : Type 0} → ℕ → Rect → List (Entry T) → Option T
first_at group window entries = option_map item_of (find (is_at group window) entries)
