-- A stack that is not yet whole.
use Rattle.std.specs.Prelude.{◌≡◌, ℕ, ◌+◌, List, length, slice_get, Some}
use Rattle.geom_rect.specs.declared.rect.Rect.{Rect}
use Rattle.lef_tech.specs.declared.tech.Tech.{Tech}
use Rattle.via_arrays.specs.declared.parts.CutArray.{CutArray}
use Rattle.via_arrays.specs.Pairs.{IsPair}

-- The arrays and resistances of `count` layers from `from` on.
pub record ArePairs (tech : Tech) (crossing : Rect) (units max_columns max_rows from count : ℕ) (arrays : List CutArray)
    (ohms : List ℕ) : Type 0 where
  pub of_arrays : length arrays ≡ count
  pub of_ohms : length ohms ≡ count
  pub each : (k : ℕ) (array : CutArray) (r : ℕ) → slice_get arrays k ≡ Some array → slice_get ohms k ≡ Some r
      → IsPair tech crossing units max_columns max_rows (from + k) array r
