-- How one more unit counts.
use Rattle.std.proofs.Common.{◌≡◌, ◌+◌, ◌≤◌, List, [], ◌∷◌, ◌++◌, length, arith}
use Rattle.reading.specs.Word.{Token}
use Rattle.statements.specs.Record.{count_in, count_of}

pub count-more : (units : List (List Token)) (unit : List Token) → count_of (units ++ unit ∷ []) ≡ count_of units + count_in unit
count-more [] unit = omega arith
count-more (x ∷ units) unit = omega (arith, count-more units unit)

-- A unit is one statement at most.
pub count-one : (unit : List Token) → count_in unit ≤ 1
count-one (a ∷ b ∷ c ∷ d ∷ []) = omega arith
count-one unit = omega arith

pub count-few : (units : List (List Token)) → count_of units ≤ length units
count-few [] = omega arith
count-few (unit ∷ units) = omega (arith, count-one unit, count-few units)
