-- The parts of lines of wiring, inside this crate.
use Rattle.std.specs.Prelude.{ℕ, Bool, true, false, ℤ, List, ◌∷◌, ◌++◌, codes}
use Rattle.std.specs.Fmt.{signed_decimal}
use Rattle.def_writer.specs.Wiring.{point}

-- How a line of wiring begins.
abbrev pub start_of : Bool → List ℕ
start_of true = codes "+ ROUTED "
start_of false = codes "NEW "

-- The words of a piece, from its parts.
abbrev pub wire_words : List ℕ → ℤ → List ℕ → ℤ × ℤ → ℤ × ℤ → List (List ℕ)
wire_words layer width shape from to =
    layer ∷ signed_decimal width ∷ codes "+" ∷ codes "SHAPE" ∷ shape ∷ (point from ++ point to)

-- The words of an array of a stack but for its via.
abbrev pub place_words : List ℕ → ℤ × ℤ → List (List ℕ)
place_words layer at = layer ∷ codes "0" ∷ codes "+" ∷ codes "SHAPE" ∷ codes "STRIPE" ∷ point at
