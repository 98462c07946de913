-- Which entries are found at a window across.
use Rattle.std.specs.Prelude.{ℕ, Bool, ◌&&◌, ◌==◌, int_lt}
use Rattle.std.specs.Int.{int_max, int_min}
use Rattle.geom_rect.specs.declared.run.Run.{Run}
use Rattle.run_index.specs.declared.entry.Entry.{Entry}

-- The runs have a cell in common: the later start lies before the earlier end.
abbrev pub share_cell : Run → Run → Bool
share_cell a b = int_lt (int_max a.from b.from) (int_min a.to b.to)

-- The entry is of the group, and has a cell of the window across.
abbrev pub lies_across : ℕ → Run → Entry → Bool
lies_across group window entry = (entry.group == group) && share_cell entry.across window

-- What is found of the entry.
abbrev pub along_of : Entry → Run
along_of entry = entry.along
