use Rattle.std.proofs.Common.{◌≡◌, take}
use Rattle.rail_layout.specs.Rails.{rails_of}
use Rattle.rail_layout.proofs.drawing.rails.Given as goal

abbrev pub invariant-loop-row : goal.invariant-loop-row
invariant-loop-row l = l.rails.items ≡ rails_of l.rule (take l.row-index l.rows)
