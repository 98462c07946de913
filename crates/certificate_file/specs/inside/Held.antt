-- What the words of a line say, and what the reader holds after whole lines.
use Rattle.std.specs.Prelude.{◌≡◌, ◌≤◌, ◌-◌, ◌∷◌, [], ℕ, zero, suc, ℤ, pos, List, Ok, length, map, take, vec_capacity}
use Rattle.entry_list.specs.InTurn.{InTurn}
use Rattle.reading.specs.Word.{Token}
use Rattle.reading.specs.declared.word.Heard.{Heard}
use Rattle.certificate_file.specs.declared.held.Held.{Held}
use Rattle.certificate_file.specs.Rule.{rows}
use Rattle.certificate_file.specs.Record.{name_on, SaysHigh, SaysLow}
use Rattle.certificate_file.specs.Fault.{IsRow}
use Rattle.certificate_file.specs.Voltage.{IsVoltage}

-- The voltage is that of the text, on the line of a node.
abbrev pub SaysVoltage : List (List ℕ) → ℕ → List ℕ → ℤ → Type 0
SaysVoltage names lines text voltage = IsRow (length names) lines → IsVoltage text (Ok voltage)

-- What the last of a line's words so far says, after so many lines.
abbrev pub says : List (List ℕ) → ℕ → List Token → ℤ → Type 0
says names lines (name ∷ high ∷ []) voltage = SaysVoltage names lines high.text voltage
says names lines (name ∷ high ∷ low ∷ []) voltage = SaysVoltage names lines low.text voltage
says names lines _ voltage = Unit {0}

-- What the word says that has n words of its line before it, and 0 where there is none.
abbrev pub value_at : List (Heard ℤ) → ℕ → ℤ
value_at [] n = pos 0
value_at (heard ∷ unit) zero = heard.value
value_at (heard ∷ unit) (suc n) = value_at unit n

-- How many lines there were, and what those of the nodes say; there is room for the voltages of each node.
pub record Holds (names : List (List ℕ)) (lines : List (List Token)) (held : Held) : Type 0 where
  pub count : held.lines ≡ length lines
  pub named : map name_on (rows (length names) lines) ≡ take (length lines - 1) names
  pub high : InTurn SaysHigh (rows (length names) lines) held.high.items
  pub low : InTurn SaysLow (rows (length names) lines) held.low.items
  pub high_room : length names ≤ vec_capacity held.high
  pub low_room : length names ≤ vec_capacity held.low
