-- The smallest rectangle that holds two.
use Rattle.std.specs.Int.{int_max, int_min}
use Rattle.geom_rect.specs.declared.rect.Rect.{Rect}

abbrev pub join : Rect → Rect → Rect
join a b = record { x1 = int_min a.x1 b.x1; y1 = int_min a.y1 b.y1; x2 = int_max a.x2 b.x2; y2 = int_max a.y2 b.y2 }
