-- The places at which stacks stand.
use Rattle.std.specs.Prelude.{◌↔◌, ◌≤◌, ◌⊎◌, List, All, Contains, length}
use Rattle.lef_tech.specs.declared.tech.Tech.{Tech}
use Rattle.grid_pieces.specs.Limits.{PieceKeeps}
use Rattle.grid_pieces.specs.declared.error.Counted.TheVariants.{Stacks}
use Rattle.grid_pieces.specs.declared.error.DrawError.{DrawError}
use Rattle.grid_pieces.specs.declared.error.DrawError.TheVariants.{TooMany, Want}
use Rattle.grid_pieces.specs.declared.piece.Piece.{Piece}
use Rattle.grid_stacks.specs.declared.connect.Connect.{Connect}
use Rattle.grid_stacks.specs.declared.connect.Site.{Site}
use Rattle.grid_stacks.specs.Stacking.{AreAlong, AreSites, IsEven, MoreThan, most_stacks}

-- What is asked of the pieces whose stacks are sought.
pub record PiecesKeep (tech : Tech) (connects : List Connect) (pieces : List Piece) : Type 0 where
  pub keep : All PieceKeeps pieces
  pub even : All IsEven pieces
  pub along : AreAlong tech connects pieces

-- The list has those with the property, and no others.
abbrev pub AreAll : (Site → Type 0) → List Site → Type 0
AreAll P sites = (s : Site) → Contains sites s ↔ P s

-- Those with the property are added.
abbrev pub Grows : (Site → Type 0) → List Site → List Site → Type 0
Grows P old new = (s : Site) → Contains new s ↔ (Contains old s ⊎ P s)

-- The list has those with the property, each once and in order, and they are not too many.
pub record AreInOrder (P : Site → Type 0) (sites : List Site) : Type 0 where
  pub are : AreSites P sites
  pub few : length sites ≤ most_stacks

-- Too many have the property; or there was not enough memory.
abbrev pub AreTooMany : (Site → Type 0) → DrawError → Type 0
AreTooMany P (TooMany Stacks) = MoreThan most_stacks P
AreTooMany P Want = Unit {0}
AreTooMany P _ = ⊥
