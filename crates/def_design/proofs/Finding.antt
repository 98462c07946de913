-- What is found of a word that may stand once, and of what is missing.
use Rattle.std.proofs.Common.{◌≡◌, ℕ, ◌+◌, Bool, true, List, [], ◌∷◌, length, ℤ, Result, Ok, Option, Some, None, refl, sym, ◌∙◌, ap, subst, arith, to_z, of_z}
use Rattle.std.specs.Prelude.{is_some}
use Rattle.std.specs.Int.{w64}
use Rattle.def_design.specs.declared.error.DefKind.{DefKind}
use Rattle.def_design.specs.declared.error.DefKind.TheVariants.{Twice}
use Rattle.def_design.specs.declared.number.Quantity.TheVariants.{Any}
use Rattle.def_design.specs.declared.question.Question.{Question}
use Rattle.def_design.specs.declared.question.Question.TheVariants as questions
use Rattle.def_design.specs.declared.top.Top.{Top}
use Rattle.def_design.specs.Fault.{AgainFault, missing, missing_of, MissingFault, LastFault, fault}
use Rattle.def_design.specs.Format.{format}
use Rattle.def_design.specs.inside.Held.{HoldsTop}
use Rattle.def_design.specs.inside.Value.{SaysNothing, SaysAsked, Says}
use Rattle.def_design.specs.Question.{question_of}
use Rattle.def_design.specs.Record.{Stated, SaysName, SaysUnits, SaysDie}
use Rattle.def_design.specs.Unit.{is_design, is_units, is_die}
use Rattle.def_design.proofs.Numbers.{read_as}
use Rattle.def_statements.specs.declared.sort.Sort.{Sort}
use Rattle.def_statements.specs.Standing.{section_of}
use Rattle.def_statements.specs.Unit.{last_text, last_sort}
use Rattle.lef_statements.specs.First.{first_with}
use Rattle.reading.specs.Fault.{FindsValue}
use Rattle.reading.specs.Reading.{IsFine}
use Rattle.reading.specs.Word.{Token}

-- A value is held exactly where a unit states it.
stated_some : {E : Type 0} (says : List Token → E → Type 0) (o : Option (List Token)) (value : Option E) → Stated says o value → is_some value ≡ is_some o
stated_some says None None h = refl
stated_some says None (Some v) h = absurd h
stated_some says (Some unit) None h = absurd h
stated_some says (Some unit) (Some v) h = refl

pub again_found : {E : Type 0} (is : List Token → Bool) (says : List Token → E → Type 0) (units : List (List Token)) (value : Option E) (there : Bool) (r : Result ℤ DefKind) →
    there ≡ is_some value → Stated says (first_with is units) value → FindsValue (λ kind. (kind ≡ Twice) × (there ≡ true)) SaysNothing r → FindsValue (AgainFault is units) SaysNothing r
again_found is says units value there r told h f =
    subst (λ z. FindsValue (λ kind. (kind ≡ Twice) × (z ≡ true)) SaysNothing r) (told ∙ stated_some says (first_with is units) value h) f

pub missing_found : (units : List (List Token)) (top : Top) (design microns die : Bool) (r : Result ℤ DefKind) → design ≡ is_some top.name → microns ≡ is_some top.units → die ≡ is_some top.die →
    HoldsTop units top → FindsValue (MissingFault (missing design microns die)) SaysNothing r → FindsValue (MissingFault (missing_of units)) SaysNothing r
missing_found units top design microns die r a b c h f =
    subst (λ z. FindsValue (MissingFault z) SaysNothing r)
    (ap (λ z. missing z microns die) (a ∙ stated_some SaysName (first_with is_design units) top.name h.name)
    ∙ ap (λ z. missing (is_some (first_with is_design units)) z die) (b ∙ stated_some SaysUnits (first_with is_units units) top.units h.units)
    ∙ ap (λ z. missing (is_some (first_with is_design units)) (is_some (first_with is_units units)) z) (c ∙ stated_some SaysDie (first_with is_die units) top.die h.die)) f

-- What is asked holds of a number as the machine keeps it.
asked_kept : (asked : Question) (text : List ℕ) (v : ℤ) → SaysAsked asked text v → SaysAsked asked text (to_z w64 (of_z w64 v))
asked_kept (questions.Number quantity) text v h = read_as quantity text text v refl h
asked_kept questions.Apart text v h = read_as Any text text v refl h
asked_kept asked text v h = h

-- What is found of the last word of a unit is what its words tell.
pub fine_told : (wiring : Bool) (units : List (List Token)) (unit : List Token) (asked : Question) (sort : Sort) (v : ℤ) → asked ≡ question_of (section_of units) unit → sort ≡ last_sort unit →
    FindsValue (LastFault wiring units unit asked) (SaysAsked asked (last_text unit)) (Ok v) →
    IsFine (format wiring) units unit × Says units unit (record { sort = sort; number = to_z w64 (of_z w64 v) })
fine_told wiring units [] asked sort v is same f = (λ a k. k, record { sort = same; number = subst (λ z. SaysAsked z (last_text []) (to_z w64 (of_z w64 v))) is (asked_kept asked (last_text []) v f.1) })
fine_told wiring units (first ∷ words) asked sort v is same f = (
  λ a k. f.0 a.kind (subst (λ z. LastFault wiring units (first ∷ words) z a.kind) (sym is) k.1),
  record { sort = same; number = subst (λ z. SaysAsked z (last_text (first ∷ words)) (to_z w64 (of_z w64 v))) is (asked_kept asked (last_text (first ∷ words)) v f.1) },
)

pub fault_told : (wiring : Bool) (units : List (List Token)) (unit : List Token) (asked : Question) (at : ℕ) (kind : DefKind) → at + 1 ≡ length unit → asked ≡ question_of (section_of units) unit →
    LastFault wiring units unit asked kind → fault wiring units unit (record { at = at; kind = kind })
fault_told wiring units [] asked at kind last is f = absurd (omega (arith, last))
fault_told wiring units (first ∷ words) asked at kind last is f = (omega (arith, last), subst (λ z. LastFault wiring units (first ∷ words) z kind) is f)
