-- The smallest rectangle that holds the metal of vias at one place. The metal of a via on a layer is its cuts with the
-- enclosure of that layer on each side, and its middle is its place (LEF/DEF 5.8 Language Reference, VIAS: ENCLOSURE).
use Rattle.std.specs.Prelude.{ℕ, ℤ, pos, ◌+ℤ◌, ◌-ℤ◌, ◌*ℤ◌, ◌≤ℤ◌, List, All}
use Rattle.geom_rect.specs.declared.rect.Rect.{Rect}
use Rattle.wire_chains.specs.declared.via.ViaAt.{ViaAt}
use Rattle.wire_names.specs.declared.record.NamedVia.{NamedVia}
use Rattle.wire_stacks.specs.Vias.{via_at}

-- The length of a row of cuts: so many pitches, but for the space behind the last cut.
abbrev pub row_length : ℕ → ℤ → ℤ → ℤ
row_length count cut pitch = ((pos count *ℤ pitch) +ℤ cut) -ℤ pitch

-- How long the cuts are with their enclosure on both sides.
abbrev pub metal_length : ℕ → ℤ → ℤ → ℤ → ℤ
metal_length count cut pitch enclosure = row_length count cut pitch +ℤ (enclosure +ℤ enclosure)

-- So long a metal with its middle at this place lies from low up to high. Where the length is odd, its ends lie in the
-- middle of a unit.
pub record IsHeldBy (low high middle long : ℤ) : Type 0 where
  pub begins : (low +ℤ low) ≤ℤ ((middle +ℤ middle) -ℤ long)
  pub ends : ((middle +ℤ middle) +ℤ long) ≤ℤ (high +ℤ high)

-- The rectangle holds the metal of a via at this place on both of its layers.
pub record HoldsVia (x y : ℤ) (rect : Rect) (via : NamedVia) : Type 0 where
  pub lower_x : IsHeldBy rect.x1 rect.x2 x (metal_length via.columns via.cut_x via.pitch_x via.lower_x)
  pub upper_x : IsHeldBy rect.x1 rect.x2 x (metal_length via.columns via.cut_x via.pitch_x via.upper_x)
  pub lower_y : IsHeldBy rect.y1 rect.y2 y (metal_length via.rows via.cut_y via.pitch_y via.lower_y)
  pub upper_y : IsHeldBy rect.y1 rect.y2 y (metal_length via.rows via.cut_y via.pitch_y via.upper_y)

abbrev pub HoldsVias : List NamedVia → List ViaAt → ℤ → ℤ → Rect → Type 0
HoldsVias vias chain x y rect = All (λ (via : ViaAt). HoldsVia x y rect (via_at vias via.via)) chain

-- One rectangle lies in another.
pub record LiesIn (rect other : Rect) : Type 0 where
  pub x1 : other.x1 ≤ℤ rect.x1
  pub y1 : other.y1 ≤ℤ rect.y1
  pub x2 : rect.x2 ≤ℤ other.x2
  pub y2 : rect.y2 ≤ℤ other.y2

-- The smallest that holds them all.
pub record IsCrossing (vias : List NamedVia) (chain : List ViaAt) (x y : ℤ) (rect : Rect) : Type 0 where
  pub holds : HoldsVias vias chain x y rect
  pub smallest : (other : Rect) → HoldsVias vias chain x y other → LiesIn rect other
