-- The text of a value, and rounding to fewer places.
use Rattle.std.specs.Prelude.{ℕ, ◌-◌, ◌/◌, ◌%◌, ◌^◌, List, [], ◌++◌, length, replicate, decimal, codes, ℤ, pos, ◌*ℤ◌, ◌≤ℤ◌, int_lt, unsigned_abs, ◌==◌, if◌then◌else◌}

-- A minus, where the value is below 0.
abbrev pub minus_text : ℤ → List ℕ
minus_text value = if int_lt value (pos 0) then codes "-" else []

-- The digits of n, with zeros (48) before them up to so many digits.
abbrev pub padded : ℕ → ℕ → List ℕ
padded count n = replicate (count - length (decimal n)) 48 ++ decimal n

-- A point and exactly so many digits after it, or nothing where there are no places.
abbrev pub places_text : ℕ → ℕ → List ℕ
places_text n places = if places == 0 then [] else (codes "." ++ padded places (n % 10 ^ places))

-- The text of so many units of 10^-places: a minus where it is below 0, the whole part, and the places after the point.
abbrev pub printed : ℤ → ℕ → List ℕ
printed value places = minus_text value ++ (decimal (unsigned_abs value / 10 ^ places) ++ places_text
    (unsigned_abs value) places)

-- q is the greatest whole number of units that is not above the value.
pub record IsRoundedDown (value : ℤ) (unit : ℕ) (q : ℤ) : Type 0 where
  pub reached : (pos unit *ℤ q) ≤ℤ value
  pub greatest : (r : ℤ) → (pos unit *ℤ r) ≤ℤ value → r ≤ℤ q

-- q is the least whole number of units that is not below the value.
pub record IsRoundedUp (value : ℤ) (unit : ℕ) (q : ℤ) : Type 0 where
  pub reaches : value ≤ℤ (pos unit *ℤ q)
  pub least : (r : ℤ) → value ≤ℤ (pos unit *ℤ r) → q ≤ℤ r
