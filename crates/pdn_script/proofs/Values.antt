-- What the value of an option says, or why it is refused.
use Rattle.std.proofs.Common.{◌≡◌, ◌↔◌, ℕ, inl, inr, List, Option, None, Some, Result, Ok, Err, IfOk, refl, sym, ◌∙◌, ap, subst}
use Rattle.number_place.specs.declared.place.Refused.{Refused}
use Rattle.pdn_script.specs.declared.error.ScriptKind.{ScriptKind}
use Rattle.pdn_script.specs.declared.known.Known.{Known}
use Rattle.pdn_script.specs.declared.value.Value.{Value}
use Rattle.pdn_script.specs.declared.value.Value.TheVariants.{Number}
use Rattle.pdn_script.specs.Fault.{refused_kind, name_kind, ValueKind, AtRole, plain_kind}
use Rattle.pdn_script.specs.Given.{option_of, if_valued}
use Rattle.pdn_script.specs.inside.Value.{waits_of, SaysValue, SaysRole}
use Rattle.reading.specs.Fault.{FindsValue}
use Rattle.reading.specs.Word.{Token}
use Rattle.script_options.specs.declared.command.Command.{Command}
use Rattle.script_options.specs.declared.option.ScriptOption.{ScriptOption}
use Rattle.script_options.specs.declared.table.ValueForm.{ValueForm}
use Rattle.script_options.specs.Table.{form_of}
use Rattle.script_options.specs.Value.{Refuses, Suits, SaysNumber}

-- What reading the value of a form tells.
abbrev pub IsTold : ScriptOption → List ℕ → Result ℕ Refused → Type 0
IsTold option text r = (refused : Refused) → (r ≡ Err refused) ↔ Refuses (form_of option) text refused

pub told_as : (option : ScriptOption) (text : List ℕ) (form : ValueForm) (r q : Result ℕ Refused) → form ≡ form_of option → r ≡ q →
    ((refused : Refused) → (r ≡ Err refused) ↔ Refuses form text refused) → IsTold option text q
told_as option text form r q f e h = subst (IsTold option text) e (subst (λ z. (refused : Refused) → (r ≡ Err refused) ↔ Refuses z text refused) f h)

pub suits_as : (option : ScriptOption) (text : List ℕ) (form : ValueForm) (r : Result ℕ Refused) (n : ℕ) → form ≡ form_of option → r ≡ Ok n → IfOk r (λ value. Suits form text) →
    Suits (form_of option) text
suits_as option text form r n f e h = subst (λ z. Suits z text) f (subst (λ z. IfOk z (λ value. Suits form text)) e h)

pub says_as : (option : ScriptOption) (text : List ℕ) (form : ValueForm) (r : Result ℕ Refused) (n : ℕ) → form ≡ form_of option → r ≡ Ok n → IfOk r (SaysNumber form text) →
    SaysNumber (form_of option) text n
says_as option text form r n f e h = subst (λ z. SaysNumber z text n) f (subst (λ z. IfOk z (SaysNumber form text)) e h)

ok_err : (n : ℕ) (refused : Refused) → ◌≡◌ {A = Result ℕ Refused} (Ok n) (Err refused) → ⊥
ok_err n refused h = cc

none_some : (kind : ScriptKind) → ◌≡◌ {A = Option ScriptKind} None (Some kind) → ⊥
none_some kind h = cc

pub form_refused : (known : Known) (command : Command) (before : List Token) (option : ScriptOption) (text : List ℕ) (refused : Refused) (kind : ScriptKind) → IsTold option text (Err refused) →
    kind ≡ refused_kind refused → ValueKind known command before option text kind
form_refused known command before option text refused kind told e = inl (refused, (told refused).0 refl, e)

pub name_refused : (known : Known) (command : Command) (before : List Token) (option : ScriptOption) (text : List ℕ) (n : ℕ) (kind : ScriptKind) → IsTold option text (Ok n) →
    name_kind known command before option text ≡ Some kind → ValueKind known command before option text kind
name_refused known command before option text n kind told e = inr ((λ refused h. ok_err n refused ((told refused).1 h)), e)

pub value_fine : (known : Known) (command : Command) (before : List Token) (option : ScriptOption) (text : List ℕ) (n : ℕ) → IsTold option text (Ok n) → Suits (form_of option) text →
    SaysNumber (form_of option) text n → name_kind known command before option text ≡ None →
    FindsValue (ValueKind known command before option text) (SaysValue known command before option text) (Ok (Number n))
value_fine known command before option text n told suits says e = (
  (λ kind v. elim v [ inl l ↦ ok_err n l.0 ((told l.0).1 l.1) | inr r ↦ none_some kind (sym e ∙ r.1) ]),
  record { ends = refl; suits = suits; number = says; named = e },
)

pub plain_fine : (known : Known) (command : Command) (before : List Token) (last : Token) (value : Value) → plain_kind known command before last ≡ None → waits_of value ≡ if_valued (option_of last) →
    FindsValue (AtRole known command before last None) (SaysRole known command before None last) (Ok value)
plain_fine known command before last value e says = ((λ kind k. none_some kind (sym e ∙ k)), says)
