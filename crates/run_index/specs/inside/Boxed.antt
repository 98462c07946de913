-- Runs across as rectangles.
use Rattle.std.specs.Prelude.{◌≡◌, List, pos, All}
use Rattle.geom_rect.specs.declared.rect.Rect.{Rect}
use Rattle.geom_rect.specs.declared.run.Run.{Run}
use Rattle.rect_index.specs.declared.entry.Entry.{Entry as Boxed}
use Rattle.run_index.specs.declared.entry.Entry.{Entry}

-- The run as a rectangle that is flat.
abbrev pub window_of : Run → Rect
window_of run = record { x1 = run.from; y1 = pos 0; x2 = run.to; y2 = pos 0 }

-- The entry, found by its run across.
abbrev pub box_of : Entry → Boxed Entry
box_of entry = record { group = entry.group; rect = window_of entry.across; item = entry }

-- Each is that of an entry.
abbrev pub AreBoxed : List (Boxed Entry) → Type 0
AreBoxed boxes = All (λ (b : Boxed Entry). b ≡ box_of b.item) boxes
