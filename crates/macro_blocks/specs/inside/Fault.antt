-- Words that show no fault, for the contracts of the reader's own functions.
use Rattle.std.specs.Prelude.{List, Option, Some, None, Result, Ok, Err}
use Rattle.macro_blocks.specs.declared.error.Shown.{Shown}
use Rattle.macro_blocks.specs.declared.section.Section.{Section}
use Rattle.macro_blocks.specs.declared.standing.Standing.{Standing}
use Rattle.macro_blocks.specs.declared.value.Value.{Value}
use Rattle.macro_blocks.specs.Fault.{fault_in}
use Rattle.reading.specs.declared.refusal.Found.{Found}
use Rattle.reading.specs.Word.{Token}

-- The last of the unit's words so far shows no fault.
abbrev pub IsFineIn : Section → Standing → List Token → List Token → Type 0
IsFineIn section standing numbers part = (found : Found Shown) → fault_in section standing numbers part found → ⊥

-- The value, where no fault is shown.
abbrev pub value_or : Value → Option Shown → Result Value Shown
value_or value None = Ok value
value_or value (Some shown) = Err shown
