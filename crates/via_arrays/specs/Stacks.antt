-- Stacks of arrays from a routing layer up to another.
use Rattle.std.specs.Prelude.{◌≡◌, ℕ, ◌+◌, ◌-◌, ◌<◌, ◌≤◌, length, slice_get, Some}
use Rattle.geom_rect.specs.declared.rect.Rect.{Rect}
use Rattle.lef_tech.specs.declared.tech.Tech.{Tech}
use Rattle.via_arrays.specs.declared.error.StackError.{StackError}
use Rattle.via_arrays.specs.declared.error.StackError.TheVariants.{Want}
use Rattle.via_arrays.specs.declared.parts.CutArray.{CutArray}
use Rattle.via_arrays.specs.declared.parts.Stack.{Stack}
use Rattle.via_arrays.specs.Pairs.{IsPair, IsPairRefused}

-- The stack from a layer up to another: one array and one resistance for each pair of layers, bottom up.
pub record IsStack (tech : Tech) (crossing : Rect) (units max_columns max_rows from to : ℕ) (stack : Stack)
    : Type 0 where
  pub lowest : stack.from ≡ from
  pub highest : stack.to ≡ to
  pub arrays : length stack.arrays ≡ to - from
  pub ohms : length stack.ohms ≡ to - from
  pub each : (k : ℕ) (array : CutArray) (r : ℕ) → slice_get stack.arrays k ≡ Some array
      → slice_get stack.ohms k ≡ Some r → IsPair tech crossing units max_columns max_rows (from + k) array r

-- A layer and the next one are joined.
abbrev pub IsJoined : Tech → Rect → ℕ → ℕ → ℕ → ℕ → Type 0
IsJoined tech crossing units max_columns max_rows layer =
    (array : CutArray) × (ohms : ℕ) × IsPair tech crossing units max_columns max_rows layer array ohms

-- Why there is no stack: the lowest pair that is not joined, each below it being joined.
pub record IsLowestRefused (tech : Tech) (crossing : Rect) (units max_columns max_rows from to : ℕ) (error : StackError)
    : Type 0 where
  pub layer : ℕ
  pub above : from ≤ layer
  pub below : layer < to
  pub joined : (k : ℕ) → from ≤ k → k < layer → IsJoined tech crossing units max_columns max_rows k
  pub refused : IsPairRefused tech crossing units max_columns max_rows layer error

-- The same, or want of memory, which no clause ties to a cause.
abbrev pub IsStackRefused : Tech → Rect → ℕ → ℕ → ℕ → ℕ → ℕ → StackError → Type 0
IsStackRefused tech crossing units max_columns max_rows from to Want = Unit {0}
IsStackRefused tech crossing units max_columns max_rows from to error =
    IsLowestRefused tech crossing units max_columns max_rows from to error
