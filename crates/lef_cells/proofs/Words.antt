-- The words of a unit, and what those of units of few words say.
use Rattle.std.proofs.Common.{◌≡◌, ◌≤◌, List, [], ◌∷◌, length, refl, arith}
use Rattle.lef_cells.specs.declared.sort.Sort.TheVariants.{Site}
use Rattle.lef_cells.specs.declared.value.Value.{Value}
use Rattle.lef_cells.specs.declared.value.Value.TheVariants.{First}
use Rattle.lef_cells.specs.Format.{format}
use Rattle.lef_cells.specs.inside.Value.{says}
use Rattle.reading.specs.declared.word.Heard.{Heard}
use Rattle.reading.specs.declared.word.Form.TheVariants.{Bare}
use Rattle.reading.specs.Reading.{IsFine}
use Rattle.reading.specs.Word.{Token}

-- The default of a slice's accesses.
abbrev pub no_word : Heard Value
no_word = record { word = record { text = record { ref_ptr = (0, 0); now = [] }; place = record { line = 0; word = 0 }; form = Bare }; value = First Site }

pub one_fine : (units : List (List Token)) (w : Token) → IsFine format units (w ∷ [])
one_fine units w = λ a k. k

-- Three words, and more than four, show no fault and say nothing.
pub others_fine : (units : List (List Token)) (part : List Token) → 3 ≤ length part → (length part ≡ 4 → ⊥) → IsFine format units part
others_fine units [] h k = absurd (omega arith)
others_fine units (a ∷ []) h k = absurd (omega arith)
others_fine units (a ∷ b ∷ []) h k = absurd (omega arith)
others_fine units (a ∷ b ∷ c ∷ []) h k = λ found f. f
others_fine units (a ∷ b ∷ c ∷ d ∷ []) h k = absurd (k refl)
others_fine units (a ∷ b ∷ c ∷ d ∷ e ∷ part) h k = λ found f. f

pub others_said : (part : List Token) (value : Value) → 3 ≤ length part → (length part ≡ 4 → ⊥) → says part value
others_said [] value h k = absurd (omega arith)
others_said (a ∷ []) value h k = absurd (omega arith)
others_said (a ∷ b ∷ []) value h k = absurd (omega arith)
others_said (a ∷ b ∷ c ∷ []) value h k = tt
others_said (a ∷ b ∷ c ∷ d ∷ []) value h k = absurd (k refl)
others_said (a ∷ b ∷ c ∷ d ∷ e ∷ part) value h k = tt
