-- The faults of a certificate: a line with another name than that of its node, a number that is refused.
use Rattle.std.specs.Prelude.{◌≡◌, ◌≢◌, ◌<◌, ◌≤◌, ◌-◌, ℕ, List, [], ◌∷◌, length, slice_index_or, Err}
use Rattle.fixed_decimal.specs.declared.error.DecimalError.{DecimalError}
use Rattle.certificate_file.specs.declared.error.CertKind.{CertKind}
use Rattle.certificate_file.specs.declared.error.CertKind.TheVariants.{WrongNode, Number}
use Rattle.certificate_file.specs.Voltage.{IsVoltage}
use Rattle.reading.specs.declared.refusal.Found.{Found}
use Rattle.reading.specs.Word.{Token}

-- After so many lines, of which the first is that of the form, comes the line of a node.
abbrev pub IsRow : ℕ → ℕ → Type 0
IsRow nodes lines = (0 < lines) × (lines ≤ nodes)

-- The name of the node whose line comes after so many lines.
abbrev pub name_of_row : List (List ℕ) → ℕ → List ℕ
name_of_row names lines = slice_index_or names (lines - 1) []

-- The line has another name than that of the node in its place.
abbrev pub NameFault : List (List ℕ) → ℕ → List ℕ → CertKind → Type 0
NameFault names lines name kind = (kind ≡ WrongNode) × IsRow (length names) lines × (name ≢ name_of_row names lines)

-- The high or the low voltage of a node's line is refused.
abbrev pub VoltageFault : List (List ℕ) → ℕ → List ℕ → CertKind → Type 0
VoltageFault names lines text kind =
    (error : DecimalError) × (kind ≡ Number error) × IsRow (length names) lines × IsVoltage text (Err error)

-- The fault that the last of a line's words so far shows, at that word, after so many lines.
abbrev pub fault_after : List (List ℕ) → ℕ → List Token → Found CertKind → Type 0
fault_after names lines (name ∷ []) found = (found.at ≡ 0) × NameFault names lines name.text found.kind
fault_after names lines (name ∷ high ∷ []) found = (found.at ≡ 1) × VoltageFault names lines high.text found.kind
fault_after names lines (name ∷ high ∷ low ∷ []) found = (found.at ≡ 2) × VoltageFault names lines low.text found.kind
fault_after names lines _ found = ⊥
