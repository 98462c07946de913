-- Rectangles in an index, for flat bars.
use Rattle.std.specs.Prelude.{◌≡◌, List, All}
use Rattle.geom_rect.specs.declared.rect.Rect.{Rect}
use Rattle.run_index.specs.declared.entry.Entry.{Entry}

-- What stands in the index for a rectangle, and the rectangle again.
abbrev pub entry_of : Rect → Entry
entry_of rect = record {
  group = 0;
  across = record { from = rect.y1; to = rect.y2 };
  along = record { from = rect.x1; to = rect.x2 };
}

abbrev pub rect_of : Entry → Rect
rect_of entry = record { x1 = entry.along.from; y1 = entry.across.from; x2 = entry.along.to; y2 = entry.across.to }

-- There is one group.
abbrev pub AreAlone : List Entry → Type 0
AreAlone entries = All (λ (e : Entry). e.group ≡ 0) entries
