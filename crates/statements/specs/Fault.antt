-- The fault of a statement: a number that is no whole number.
use Rattle.std.specs.Prelude.{◌≡◌, ℕ, Bool, false, not, ◌&&◌, nat_eq, List, [], ◌∷◌, length}
use Rattle.std.specs.List.{list_all}
use Rattle.std.specs.Char.{is_ascii_digit}
use Rattle.reading.specs.declared.refusal.Found.{Found}
use Rattle.reading.specs.Word.{Token}
use Rattle.statements.specs.declared.fault.Kind.{Kind}
use Rattle.statements.specs.declared.fault.Kind.TheVariants.{NotWhole}

-- One digit or more, and nothing else.
abbrev pub is_whole : List ℕ → Bool
is_whole text = not (nat_eq (length text) 0) && list_all is_ascii_digit text

-- The number of a statement has to be digits.
abbrev pub fault_of : List Token → Found Kind → Type 0
fault_of (keyword ∷ name ∷ number ∷ []) a = (is_whole number.text ≡ false) × (a ≡ record { at = 2; kind = NotWhole })
fault_of words a = ⊥
