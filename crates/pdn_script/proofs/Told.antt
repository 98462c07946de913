-- What a unit says, by the function that says it.
use Rattle.std.proofs.Common.{◌≡◌, ℕ, Bool, true, false, ◌||◌, List, [], ◌∷◌, length, map, Option, None, Some, Result, Ok, Err, IfOk, refl, sym, ◌∙◌, ap, subst, arith}
use Rattle.std.specs.declared.alloc.AllocError.{AllocError}
use Rattle.pdn_script.specs.declared.known.Known.{Known}
use Rattle.pdn_script.specs.declared.statement.Statement.{Statement}
use Rattle.pdn_script.specs.declared.value.Value.{Value}
use Rattle.pdn_script.specs.Format.{format}
use Rattle.pdn_script.specs.Known.{known_of}
use Rattle.pdn_script.specs.Record.{SaysFirst, SaysUnless, Says}
use Rattle.pdn_script.specs.Sort.{is_end}
use Rattle.pdn_script.specs.inside.Value.{says, IsWhole}
use Rattle.pdn_script.proofs.Kept.{whole}
use Rattle.reading.specs.declared.word.Heard.{Heard}
use Rattle.reading.specs.Grammar.{AreHeard, IsTaken}
use Rattle.reading.specs.Laws.{heard-as}
use Rattle.reading.specs.Word.{Token, heard_token}
use Rattle.script_options.specs.Command.{command_named}

pub nothing_says : (known : Known) (unit : List (Heard Value)) → length unit ≡ 0 → Says known (map heard_token unit) None
nothing_says known [] h = refl
nothing_says known (w ∷ words) h = absurd (omega arith)

-- A unit that is passed over, or an end alone.
pub passed_says : (known : Known) (unit : List (Heard Value)) (first : Heard Value) (words : List (Heard Value)) → unit ≡ first ∷ words → (known.passing || is_end (heard_token first)) ≡ true →
    Says known (map heard_token unit) None
passed_says known unit first words e b =
    subst (λ z. Says known (map heard_token z) None) (sym e)
    (subst (λ z. SaysUnless z known (heard_token first) (map heard_token words) None) (sym b) refl)

abbrev pub Saying : Known → List (Heard Value) → Option Statement → Type 0
Saying known unit told = (units : List (List Token)) → known ≡ known_of units → IsTaken format units (map heard_token unit) → AreHeard (says units) [] unit → Says known (map heard_token unit) told

one_says : (known : Known) (unit : List (Heard Value)) (first : Heard Value) (words : List (Heard Value)) → unit ≡ first ∷ words → known.passing ≡ false → is_end (heard_token first) ≡ false →
    (told : Option Statement) → (IsWhole known (command_named (heard_token first).text) words → SaysFirst known (heard_token first) (map heard_token words) told) → Saying known unit told
one_says known unit first words e passing begins told h = λ units k taken heard.
    let f = heard_token first in
    let w = whole units first words (subst (λ z. IsTaken format units (map heard_token z)) e taken) (heard-as (says units) unit (first ∷ words) e heard) (ap (λ (z : Known). z.passing) (sym k) ∙ passing) begins in
    subst (λ z. Says known (map heard_token z) told) (sym e)
    (subst (λ z. SaysUnless (z || is_end f) known f (map heard_token words) told) (sym passing)
    (subst (λ z. SaysUnless z known f (map heard_token words) told) (sym begins)
    (h (subst (λ z. IsWhole z (command_named f.text) words) (sym k) w))))

-- A command.
pub command_tells : (known : Known) (unit : List (Heard Value)) (first : Heard Value) (words : List (Heard Value)) → unit ≡ first ∷ words → known.passing ≡ false → is_end (heard_token first) ≡ false →
    (r : Result (Option Statement) AllocError) →
    IfOk r (λ told. IsWhole known (command_named (heard_token first).text) words → SaysFirst known (heard_token first) (map heard_token words) told) → IfOk r (Saying known unit)
command_tells known unit first words e passing begins (Ok told) h = one_says known unit first words e passing begins told h
command_tells known unit first words e passing begins (Err x) h = tt

pub neither_holds : (a b : Bool) → (a || b) ≡ false → (a ≡ false) × (b ≡ false)
neither_holds true b h = absurd (let t : true ≡ false = h in cc)
neither_holds false b h = (refl, h)
