use Rattle.std.proofs.Common.{◌↔◌, ℤ, take}
use Rattle.geom_rect.specs.Run.{IsHeld}
use Rattle.grid_pieces.specs.inside.Cutting.{IsOfKind}
use Rattle.grid_pieces.proofs.cover.runs_of_kind.Given as goal

abbrev pub invariant-loop-shape : goal.invariant-loop-shape
invariant-loop-shape l = (t : ℤ) → IsHeld l.runs.items t ↔ IsOfKind (take l.shape-index l.shapes) l.kind t
