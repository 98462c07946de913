-- Lists of entries in the order of the lines that say them.
use Rattle.std.specs.Prelude.{List, [], ◌∷◌}

-- Each entry is what the line in its place says, and there are as many entries as lines.
abbrev pub InTurn : {L E : Type 0} → (L → E → Type 0) → List L → List E → Type 0
InTurn says [] [] = Unit {0}
InTurn says (line ∷ lines) (entry ∷ entries) = says line entry × InTurn says lines entries
InTurn says _ _ = ⊥
