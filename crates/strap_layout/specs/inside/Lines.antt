-- How far the drawing of a rule's lines has come, and what keeps its numbers small.
use Rattle.std.specs.Prelude.{ℕ, ℤ, pos, neg_ℤ, ◌+ℤ◌, ◌*ℤ◌, ◌≤◌, List, length}
use Rattle.geom_rect.specs.declared.drawn.Drawn.{Drawn}
use Rattle.geom_rect.specs.declared.rect.Rect.{Rect}
use Rattle.geom_rect.specs.declared.run.Run.{Run}
use Rattle.geom_rect.specs.Rect.{IsBetween}
use Rattle.strap_layout.specs.declared.rule.StrapRule.{StrapRule}
use Rattle.strap_layout.specs.Lines.{LineAt, across, IsDrawnLine, ComesBefore, AreStrapsOf}

-- the centre of the first line of the net at a place
abbrev pub first_centre_of : StrapRule → Rect → ℕ → ℤ
first_centre_of rule core place = (across rule.axis core).from +ℤ rule.offset +ℤ pos place *ℤ rule.apart

-- the number is at most the limit from 0
abbrev pub IsNear : ℕ → ℤ → Type 0
IsNear limit z = IsBetween (neg_ℤ (pos limit)) (pos limit) z

-- the straps of the drawn lines that come before one
abbrev pub AreStrapsBefore : StrapRule → Rect → List Run → LineAt → List Drawn → Type 0
AreStrapsBefore rule core reach next =
    AreStrapsOf (λ line. IsDrawnLine rule core line × ComesBefore line next) rule core reach

-- The same, and they are at most so many.
abbrev pub AreFewBefore : ℕ → StrapRule → Rect → List Run → LineAt → List Drawn → Type 0
AreFewBefore most rule core reach next straps = AreStrapsBefore rule core reach next straps × (length straps ≤ most)
