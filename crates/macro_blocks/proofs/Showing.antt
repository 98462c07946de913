-- What the last word of a unit tells, by what the reader holds.
use Rattle.std.proofs.Common.{◌≡◌, ◌≤◌, List, [], ◌∷◌, length, Result, subst, arith}
use Rattle.macro_blocks.specs.declared.error.Shown.{Shown}
use Rattle.macro_blocks.specs.declared.held.Held.{Held}
use Rattle.macro_blocks.specs.declared.section.Section.{Section}
use Rattle.macro_blocks.specs.declared.standing.Standing.{Standing}
use Rattle.macro_blocks.specs.declared.value.Value.{Value}
use Rattle.macro_blocks.specs.Format.{format}
use Rattle.macro_blocks.specs.Record.{heard_of}
use Rattle.macro_blocks.specs.Standing.{section_in}
use Rattle.macro_blocks.specs.inside.Held.{Holds}
use Rattle.macro_blocks.specs.inside.Value.{says}
use Rattle.reading.specs.Fault.{FindsValue}
use Rattle.reading.specs.Reading.{IsFine}
use Rattle.reading.specs.Word.{Token}

-- What is found where the reader stands is found where the units lead.
pub there : (shows : Section → Standing → Shown → Type 0) (tells : Section → Value → Type 0) (units : List (List Token)) (held : Held) → Holds units held →
    (section : Section) → section ≡ section_in held.standing → (told : Result Value Shown) → FindsValue (shows section held.standing) (tells section) told →
    FindsValue (shows (section_in (heard_of units).standing) (heard_of units).standing) (tells (section_in (heard_of units).standing)) told
there shows tells units held h section is told found =
    subst (λ (z : Standing). FindsValue (shows (section_in z) z) (tells (section_in z)) told) h.standing
    (subst (λ (z : Section). FindsValue (shows z held.standing) (tells z) told) is found)

-- A longer unit shows no fault and says nothing.
pub long_fine : (units : List (List Token)) (part : List Token) → 7 ≤ length part → IsFine format units part
long_fine units [] h = λ a k. k
long_fine units (a ∷ []) h = absurd (omega arith)
long_fine units (a ∷ b ∷ []) h = absurd (omega arith)
long_fine units (a ∷ b ∷ c ∷ []) h = absurd (omega arith)
long_fine units (a ∷ b ∷ c ∷ d ∷ []) h = absurd (omega arith)
long_fine units (a ∷ b ∷ c ∷ d ∷ e ∷ []) h = absurd (omega arith)
long_fine units (a ∷ b ∷ c ∷ d ∷ e ∷ f ∷ []) h = absurd (omega arith)
long_fine units (a ∷ b ∷ c ∷ d ∷ e ∷ f ∷ g ∷ part) h = λ found k. k

pub long_said : (units : List (List Token)) (part : List Token) (value : Value) → 7 ≤ length part → says units part value
long_said units [] value h = tt
long_said units (a ∷ []) value h = absurd (omega arith)
long_said units (a ∷ b ∷ []) value h = absurd (omega arith)
long_said units (a ∷ b ∷ c ∷ []) value h = absurd (omega arith)
long_said units (a ∷ b ∷ c ∷ d ∷ []) value h = absurd (omega arith)
long_said units (a ∷ b ∷ c ∷ d ∷ e ∷ []) value h = absurd (omega arith)
long_said units (a ∷ b ∷ c ∷ d ∷ e ∷ f ∷ []) value h = absurd (omega arith)
long_said units (a ∷ b ∷ c ∷ d ∷ e ∷ f ∷ g ∷ part) value h = tt
