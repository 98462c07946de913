-- What the lines of a certificate say.
use Rattle.std.specs.Prelude.{◌≡◌, ℕ, ℤ, List, [], ◌∷◌, length, map, Ok}
use Rattle.certificate_file.specs.declared.lists.Lists.{Lists}
use Rattle.certificate_file.specs.Rule.{rows}
use Rattle.certificate_file.specs.Voltage.{IsVoltage}
use Rattle.entry_list.specs.InTurn.{InTurn}
use Rattle.reading.specs.Word.{Token}

-- The name on a line.
abbrev pub name_on : List Token → List ℕ
name_on (name ∷ words) = name.text
name_on [] = []

-- `NAME HIGH LOW`: the high voltage of the node.
abbrev pub SaysHigh : List Token → ℤ → Type 0
SaysHigh (name ∷ high ∷ low ∷ stop ∷ []) voltage = IsVoltage high.text (Ok voltage)
SaysHigh _ voltage = ⊥

-- `NAME HIGH LOW`: its low voltage.
abbrev pub SaysLow : List Token → ℤ → Type 0
SaysLow (name ∷ high ∷ low ∷ stop ∷ []) voltage = IsVoltage low.text (Ok voltage)
SaysLow _ voltage = ⊥

-- The two lists of the lines: each node has its line, in their order, and each list has what these lines say.
pub record IsLists (names : List (List ℕ)) (lines : List (List Token)) (lists : Lists) : Type 0 where
  pub named : map name_on (rows (length names) lines) ≡ names
  pub high : InTurn SaysHigh (rows (length names) lines) lists.high
  pub low : InTurn SaysLow (rows (length names) lines) lists.low

-- A high and a low list.
abbrev pub lists_of : List ℤ → List ℤ → Lists
lists_of high low = record { high = high; low = low }
