-- The lines of a strap rule, and the straps that are drawn of them
-- (OpenROAD PDN manual, add_pdn_stripe: -width, -pitch, -spacing, -offset, -number_of_straps, -nets).
use Rattle.std.specs.Prelude.{◌≡◌, ℕ, ℤ, pos, ◌+ℤ◌, ◌-ℤ◌, ◌*ℤ◌, ◌≤ℤ◌, ◌<◌, ◌≤◌, ◌⊎◌, List, All, AllPairs, Contains, length, map, slice_index, slice_index_or, Option, None, Some}
use Rattle.geom_rect.specs.declared.direction.Axis.{Axis}
use Rattle.geom_rect.specs.declared.direction.Axis.TheVariants.{X, Y}
use Rattle.geom_rect.specs.declared.drawn.Drawn.{Drawn}
use Rattle.geom_rect.specs.declared.drawn.Shape.TheVariants.{Stripe}
use Rattle.geom_rect.specs.declared.rect.Rect.{Rect}
use Rattle.geom_rect.specs.declared.run.Run.{Run}
use Rattle.geom_rect.specs.Drawn.{half}
use Rattle.strap_layout.specs.declared.rule.StrapRule.{StrapRule}

-- a line of a rule: the place of its net among the rule's nets, and the line's number, both from 0
pub record LineAt : Type 0 where
  pub place : ℕ
  pub number : ℕ

abbrev pub line_at : ℕ → ℕ → LineAt
line_at place number = record { place = place; number = number }

-- The extent of the core across the straps: from its left edge to its right one where they are vertical, and from its
-- lower edge to its upper one where they are horizontal.
abbrev pub across : Axis → Rect → Run
across X core = record { from = core.y1; to = core.y2 }
across Y core = record { from = core.x1; to = core.x2 }

-- The centre of a line: from the core's edge by the offset, by a pitch for each line before it, and by the nets'
-- distance for each net before its own.
abbrev pub centre_of : StrapRule → Rect → LineAt → ℤ
centre_of rule core line =
    (across rule.axis core).from +ℤ rule.offset +ℤ pos line.place *ℤ rule.apart +ℤ pos line.number *ℤ rule.pitch

-- the number is below the stated one, where one is stated
abbrev pub IsBelowStated : Option ℕ → ℕ → Type 0
IsBelowStated None number = Unit {0}
IsBelowStated (Some stated) number = number < stated

-- A line is drawn exactly where it is of a net of the rule, its number is below the stated one, and its whole width
-- lies in the core, edges included.
pub record IsDrawnLine (rule : StrapRule) (core : Rect) (line : LineAt) : Type 0 where
  pub net : line.place < length rule.nets
  pub stated : IsBelowStated rule.number line.number
  pub low : (across rule.axis core).from ≤ℤ (centre_of rule core line -ℤ half rule.width)
  pub high : (centre_of rule core line +ℤ half rule.width) ≤ℤ (across rule.axis core).to

-- the reach of the net at a place; past the nets there is none
abbrev pub reach_of : List Run → ℕ → Run
reach_of reach place = slice_index_or reach place (record { from = pos 0; to = pos 0 })

-- what is drawn of a line: a stripe over the reach of its net
abbrev pub strap_of : StrapRule → Rect → List Run → LineAt → Drawn
strap_of rule core reach line = record {
  net = slice_index rule.nets line.place;
  layer = rule.layer;
  axis = rule.axis;
  centre = centre_of rule core line;
  width = rule.width;
  from = (reach_of reach line.place).from;
  to = (reach_of reach line.place).to;
  shape = Stripe;
}

-- lines are in the order of the places of their nets, and those of one net in that of their numbers
abbrev pub ComesBefore : LineAt → LineAt → Type 0
ComesBefore a b = (a.place < b.place) ⊎ ((a.place ≡ b.place) × (a.number < b.number))

-- the straps of the lines that have a property: of each of them, once, and in their order
pub record AreStrapsOf (P : LineAt → Type 0) (rule : StrapRule) (core : Rect) (reach : List Run) (straps : List Drawn)
    : Type 0 where
  pub lines : List LineAt
  pub each : All P lines
  pub every : (line : LineAt) → P line → Contains lines line
  pub in_order : AllPairs ComesBefore lines
  pub drawn : straps ≡ map (strap_of rule core reach) lines

-- the straps of a rule
abbrev pub AreStraps : StrapRule → Rect → List Run → List Drawn → Type 0
AreStraps rule core = AreStrapsOf (IsDrawnLine rule core) rule core

-- The straps of a rule, which are at most so many.
abbrev pub AreStrapsUpTo : ℕ → StrapRule → Rect → List Run → List Drawn → Type 0
AreStrapsUpTo most rule core reach straps = AreStraps rule core reach straps × (length straps ≤ most)

-- A rule draws more than so many lines.
pub record DrawsMore (most : ℕ) (rule : StrapRule) (core : Rect) : Type 0 where
  pub lines : List LineAt
  pub each : All (IsDrawnLine rule core) lines
  pub in_order : AllPairs ComesBefore lines
  pub more : most < length lines
