-- The greatest direct current of a wire and of an array of cuts (LEF/DEF 5.8 Language Reference, DCCURRENTDENSITY AVERAGE
-- of a routing layer and of a cut layer), in femtoamperes.
-- A drawing has a number of units in a micrometre: a width of w units is w / units µm, and an area of a square units is
-- a / units² µm².
use Rattle.std.specs.Prelude.{◌≡◌, ℕ, ◌*◌, ◌/◌, ◌^◌, ℤ, pos, ◌*ℤ◌, ◌≤ℤ◌, unsigned_abs, Option, Some, None}
use Rattle.lef_tech.specs.declared.layer.Density.{Density}
use Rattle.lef_tech.specs.declared.layer.Density.TheVariants.{Unlimited, One, Table}
use Rattle.lef_tech.specs.declared.layer.RoutingLayer.{RoutingLayer}
use Rattle.lef_tech.specs.declared.layer.CutLayer.{CutLayer}
use Rattle.via_arrays.specs.declared.parts.CutArray.{CutArray}
use Rattle.em_rules.specs.Density.{IsTableDensity}

-- The density that a layer states for a width or an area of n / d: one for all, or that of its table.
abbrev pub IsDensity : Density → ℕ → ℕ → ℕ → Type 0
IsDensity Unlimited n d density = ⊥
IsDensity (One stated) n d density = density ≡ stated
IsDensity (Table points) n d density = IsTableDensity points n d density

-- The limit is the density at n / d times an extent of size / unit, rounded down to a whole femtoampere.
pub record IsLimit (stated : Density) (n d size unit limit : ℕ) : Type 0 where
  pub density : ℕ
  pub is_density : IsDensity stated n d density
  pub is : limit ≡ density * size / unit

-- The limit of a wire of so many units of width: the density at its width, which is w·10^6 / units pm, times its width.
-- There is none where the layer states no density.
abbrev pub IsWireLimit : RoutingLayer → ℤ → ℕ → Option ℕ → Type 0
IsWireLimit layer width units None = layer.density ≡ Unlimited
IsWireLimit layer width units (Some limit) =
    let w = unsigned_abs width in IsLimit layer.density (w * 10 ^ 6) units w units limit

-- The area of one cut of an array, in square units.
abbrev pub cut_area : CutArray → ℕ
cut_area array = unsigned_abs array.cut_x * unsigned_abs array.cut_y

-- The limit of an array: the density at the area of one cut, which is a·10^12 / units² in 10^-12 µm², times that area,
-- times the number of cuts. There is none where the layer states no density.
abbrev pub IsCutLimit : CutLayer → CutArray → ℕ → Option ℕ → Type 0
IsCutLimit layer array units None = layer.density ≡ Unlimited
IsCutLimit layer array units (Some limit) =
    let a = cut_area array in
    IsLimit layer.density (a * 10 ^ 12) (units * units) (a * (array.columns * array.rows)) (units * units) limit

-- A width from 1 to 2^32.
abbrev pub IsWidth : ℤ → Type 0
IsWidth width = (pos 1 ≤ℤ width) × (width ≤ℤ pos (2 ^ 32))

-- The cuts of an array in a row, side by side, are from 1 to 2^32 units long, and so are those in a column.
pub record HasCuts (array : CutArray) : Type 0 where
  pub row : IsWidth (pos array.columns *ℤ array.cut_x)
  pub column : IsWidth (pos array.rows *ℤ array.cut_y)
