-- Heads and what follows them: a layer and its statements, an entry and its parts, a row and its words.
use Rattle.std.specs.Prelude.{Bool, List, [], ◌∷◌, ◌++◌, if◌then◌else◌}

-- A head with the units after it, up to the next head.
pub record Block (W : Type 0) : Type 0 where
  pub head : List W
  pub body : List (List W)

-- The units before the first head.
abbrev pub before_head : {W : Type 0} → (List W → Bool) → List (List W) → List (List W)
before_head is_head [] = []
before_head is_head (unit ∷ units) = if is_head unit then [] else (unit ∷ before_head is_head units)

-- The blocks of units: each head with what follows it. What stands before the first head is in none.
abbrev pub blocks : {W : Type 0} → (List W → Bool) → List (List W) → List (Block W)
blocks is_head [] = []
blocks is_head (unit ∷ units) =
    if is_head unit then (record { head = unit; body = before_head is_head units } ∷ blocks is_head units)
    else blocks is_head units

-- The blocks with one more unit in the body of the last one, if there is one.
abbrev pub with_unit : {W : Type 0} → List (Block W) → List W → List (Block W)
with_unit [] unit = []
with_unit (block ∷ []) unit = record { head = block.head; body = block.body ++ unit ∷ [] } ∷ []
with_unit (block ∷ next ∷ others) unit = block ∷ with_unit (next ∷ others) unit
