-- Entries that are divided into lists with bounds.
use Rattle.std.specs.Prelude.{ℕ, ◌<◌, ◌≤◌, ◌≤ℤ◌, ◌<ℤ◌, ◌⊎◌, List, ◌++◌, All}
use Rattle.geom_rect.specs.declared.rect.Rect.{Rect}
use Rattle.rect_index.specs.declared.bounds.Bounds.{Bounds}
use Rattle.rect_index.specs.declared.entry.Entry.{Entry}
use Rattle.rect_index.specs.declared.tree.Tree.{Tree}
use Rattle.rect_index.specs.declared.tree.Tree.TheVariants.{Few, Two'}

-- The entry keeps the bounds.
pub record IsWithin {T : Type 0} (bounds : Bounds) (entry : Entry T) : Type 0 where
  pub least : bounds.least ≤ entry.group
  pub greatest : entry.group ≤ bounds.greatest
  pub x1 : bounds.x1 ≤ℤ entry.rect.x1
  pub y1 : bounds.y1 ≤ℤ entry.rect.y1
  pub x2 : entry.rect.x2 ≤ℤ bounds.x2
  pub y2 : entry.rect.y2 ≤ℤ bounds.y2

-- All of them do.
abbrev pub AreWithin : {T : Type 0} → Bounds → List (Entry T) → Type 0
AreWithin bounds entries = All (IsWithin bounds) entries

-- No entry within the bounds is of the group, or none has a point of the window.
abbrev pub Misses : Bounds → ℕ → Rect → Type 0
Misses bounds group window =
    ((group < bounds.least) ⊎ (bounds.greatest < group))
    ⊎ ((window.x2 <ℤ bounds.x1) ⊎ (bounds.x2 <ℤ window.x1))
    ⊎ ((window.y2 <ℤ bounds.y1) ⊎ (bounds.y2 <ℤ window.y1))

-- The entries of the tree, from the left.
abbrev pub entries_of : {T : Type 0} → Tree T → List (Entry T)
entries_of (Few bounds list) = list.items
entries_of (Two' bounds p left q right) = entries_of left ++ entries_of right

-- The bounds at each place of the tree are bounds of what lies below it.
abbrev pub IsBounded : {T : Type 0} → Tree T → Type 0
IsBounded (Few bounds list) = AreWithin bounds list.items
IsBounded (Two' bounds p left q right) =
    AreWithin bounds (entries_of left ++ entries_of right) × IsBounded left × IsBounded right
