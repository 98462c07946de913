use Rattle.std.proofs.Common.{◌≡◌}
use Rattle.lef_tech.specs.declared.tech.Tech.{Tech}
use Rattle.grid_network.specs.Listing.{ListsAll}
use Rattle.grid_network.specs.Drawing.{Drawing}
use Rattle.grid_network.specs.Nodes.{IsNode}
use Rattle.grid_network.proofs.Noted.{SoFar}
use Rattle.grid_network.proofs.note.notes.Given as goal

abbrev pub invariant-loop-i : goal.invariant-loop-i
invariant-loop-i l = (d : Drawing) (tech : Tech) → d.grid.nets ≡ l.nets → tech.routing ≡ l.layers → ListsAll (IsNode d) l.places → SoFar d tech l.places l.i l.notes.items
