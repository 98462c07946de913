-- How far the metal of vias goes from their place.
use Rattle.std.specs.Prelude.{◌<◌, ◌^◌, ℤ, pos, ◌+ℤ◌, ◌-ℤ◌, ◌≤ℤ◌, List, All, length}
use Rattle.geom_rect.specs.declared.rect.Rect.{Rect}
use Rattle.wire_chains.specs.declared.via.ViaAt.{ViaAt}
use Rattle.wire_limits.specs.Vias.{HasSize}
use Rattle.wire_names.specs.Keeping.{KeepsNumbers}
use Rattle.wire_names.specs.declared.record.NamedVia.{NamedVia}
use Rattle.wire_stacks.specs.Crossing.{metal_length}
use Rattle.wire_stacks.specs.Vias.{via_at}

abbrev pub around : ℤ → ℤ → ℤ → ℤ → Rect
around x y wide high = record { x1 = x -ℤ wide; y1 = y -ℤ high; x2 = x +ℤ wide; y2 = y +ℤ high }

-- Twice so much is as long as the metal of a via in x, on both of its layers.
pub record ReachesX (via : NamedVia) (half : ℤ) : Type 0 where
  pub lower : metal_length via.columns via.cut_x via.pitch_x via.lower_x ≤ℤ (half +ℤ half)
  pub upper : metal_length via.columns via.cut_x via.pitch_x via.upper_x ≤ℤ (half +ℤ half)

-- The same in y.
pub record ReachesY (via : NamedVia) (half : ℤ) : Type 0 where
  pub lower : metal_length via.rows via.cut_y via.pitch_y via.lower_y ≤ℤ (half +ℤ half)
  pub upper : metal_length via.rows via.cut_y via.pitch_y via.upper_y ≤ℤ (half +ℤ half)

-- It is the least that reaches.
pub record IsHalf (Reaches : NamedVia → ℤ → Type 0) (via : NamedVia) (half : ℤ) : Type 0 where
  pub reaches : (more : ℤ) → half ≤ℤ more → Reaches via more
  pub least : (other : ℤ) → Reaches via other → half ≤ℤ other
  pub some : pos 1 ≤ℤ half
  pub few : half ≤ℤ pos (2 ^ 40)

-- It is the least number from 0 on that reaches for each via of a chain.
pub record IsHalfTo (Reaches : NamedVia → ℤ → Type 0) (vias : List NamedVia) (chain : List ViaAt) (half : ℤ) : Type 0 where
  pub reaches : (more : ℤ) → half ≤ℤ more → All (λ (via : ViaAt). Reaches (via_at vias via.via) more) chain
  pub least : (other : ℤ) → pos 0 ≤ℤ other → All (λ (via : ViaAt). Reaches (via_at vias via.via) other) chain → half ≤ℤ other
  pub some : pos 0 ≤ℤ half
  pub few : half ≤ℤ pos (2 ^ 40)

-- It is the least number that does.
pub record IsLeastHalf (Reaches : NamedVia → ℤ → Type 0) (vias : List NamedVia) (chain : List ViaAt) (half : ℤ) : Type 0 where
  pub reaches : All (λ (via : ViaAt). Reaches (via_at vias via.via) half) chain
  pub least : (other : ℤ) → All (λ (via : ViaAt). Reaches (via_at vias via.via) other) chain → half ≤ℤ other
  pub some : pos 0 ≤ℤ half
  pub few : half ≤ℤ pos (2 ^ 40)

-- A via of a chain is defined, and its numbers and its size are within their limits.
pub record IsUsable (vias : List NamedVia) (via : ViaAt) : Type 0 where
  pub defined : via.via < length vias
  pub keeps : KeepsNumbers (via_at vias via.via)
  pub size : HasSize (via_at vias via.via)
