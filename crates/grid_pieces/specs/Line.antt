-- The line on which a shape or a piece lies, and the cells of a line.
use Rattle.std.specs.Prelude.{ℤ, pos, ◌+ℤ◌}
use Rattle.geom_rect.specs.Drawn.{centred}
use Rattle.geom_rect.specs.declared.direction.Axis.{Axis}
use Rattle.geom_rect.specs.declared.direction.Axis.TheVariants.{X, Y}
use Rattle.geom_rect.specs.declared.rect.Rect.{Rect}
use Rattle.geom_rect.specs.declared.run.Run.{Run}
use Rattle.geom_rect.specs.declared.drawn.Drawn.{Drawn}
use Rattle.grid_pieces.specs.declared.line.Line.{Line}
use Rattle.grid_pieces.specs.declared.piece.Piece.{Piece}

abbrev pub drawn_line : Drawn → Line
drawn_line d = record { net = d.net; layer = d.layer; axis = d.axis; centre = d.centre; width = d.width }

abbrev pub piece_line : Piece → Line
piece_line p = record { net = p.net; layer = p.layer; axis = p.axis; centre = p.centre; width = p.width }

abbrev pub piece_run : Piece → Run
piece_run p = record { from = p.from; to = p.to }

-- The metal of a piece.
abbrev pub piece_rect : Piece → Rect
piece_rect p = centred p.axis p.centre p.width p.from p.to

-- Cell t of a line: the unit from t to t + 1 along it, over its width.
abbrev pub cell_rect : Line → ℤ → Rect
cell_rect l t = centred l.axis l.centre l.width t (t +ℤ pos 1)

-- The extent of a rectangle along an axis, and across it.
abbrev pub along : Axis → Rect → Run
along X r = record { from = r.x1; to = r.x2 }
along Y r = record { from = r.y1; to = r.y2 }

abbrev pub across : Axis → Rect → Run
across X r = record { from = r.y1; to = r.y2 }
across Y r = record { from = r.x1; to = r.x2 }
