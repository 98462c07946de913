use Rattle.std.proofs.Common.{◌≡◌, take, map}
use Rattle.macro_grid.specs.Drawing.{unplaced}
use Rattle.macro_grid.proofs.bare.unplaced_components.Given as goal

abbrev pub invariant-loop-component : goal.invariant-loop-component
invariant-loop-component l = l.copies.items ≡ map unplaced (take l.component-index l.components)
