-- What a word says, and the fault that it shows.
use Rattle.std.proofs.Common.{◌≡◌, ℕ, ◌+◌, ◌<◌, inl, inr, List, [], ◌∷◌, ◌++◌, length, map, Option, None, Some, Result, Ok, Err, refl, sym, ◌∙◌, ap, subst, arith, length-append, append_assoc}
use Rattle.std.proofs.lemmas.List.{append-nil, length-map}
use Rattle.pdn_script.specs.declared.error.ScriptKind.{ScriptKind}
use Rattle.pdn_script.specs.declared.known.Known.{Known}
use Rattle.pdn_script.specs.declared.value.Value.{Value}
use Rattle.pdn_script.specs.Fault.{AtRole, AtLast, LastKind, late_role, late_in, ShowsNone, NoneFewer}
use Rattle.pdn_script.specs.Format.{format}
use Rattle.pdn_script.specs.Given.{if_valued, waits_after, waiting_from, waiting}
use Rattle.pdn_script.specs.Known.{known_of}
use Rattle.pdn_script.specs.inside.Value.{command_of, waits_of, SaysRole, SaysAfter, SaysLast, says, AreSaid, last_waits}
use Rattle.pdn_script.proofs.Words.{last_there, front_there, late_at_end, kind_at_end, waiting_joined, cons_is, without_last}
use Rattle.reading.specs.declared.refusal.Found.{Found}
use Rattle.reading.specs.declared.word.Heard.{Heard}
use Rattle.reading.specs.Fault.{FindsValue, told_at}
use Rattle.reading.specs.Grammar.{AreHeard, Tells}
use Rattle.reading.specs.Laws.{heard-as}
use Rattle.reading.specs.Word.{Token, heard_token}
use Rattle.script_options.specs.declared.command.Command.{Command}
use Rattle.script_options.specs.declared.option.ScriptOption.{ScriptOption}
use Rattle.script_options.specs.Command.{command_named}

-- ## what the words before say

pub said_more : (known : Known) (first : Token) (before : List Token) (w : Token) (v : Value) →
    SaysLast known (first ∷ (before ++ w ∷ [])) v ≡ SaysRole known (command_named first.text) before (waiting before) w v
said_more known first before w v =
    ap (λ z. SaysAfter known first (before ++ w ∷ []) z v) (last_there before w)
    ∙ ap (λ z. SaysRole known (command_named first.text) z (waiting z) w v) (front_there before w)

pub are_said : (units : List (List Token)) (first : Token) (before : List Token) (words : List (Heard Value)) → AreHeard (says units) (first ∷ before) words →
    AreSaid (known_of units) (command_named first.text) before words
are_said units first before [] h = tt
are_said units first before (w ∷ words) h = (
  subst (λ z. z) (said_more (known_of units) first before (heard_token w) w.value) h.0.1,
  are_said units first (before ++ heard_token w ∷ []) words h.1,
)

step_said : (known : Known) (command : Command) (before : List Token) (waits : Option ScriptOption) (w : Token) (v : Value) → SaysRole known command before waits w v →
    waits_after waits w ≡ waits_of v
step_said known command before None w v h = sym h
step_said known command before (Some option) w v h = sym h.ends

waits_there : (known : Known) (command : Command) (before : List Token) (w : Heard Value) (words : List (Heard Value)) → AreSaid known command before (w ∷ words) →
    waiting_from (waiting before) (map heard_token (w ∷ words)) ≡ last_waits (w ∷ words)
waits_there known command before w [] h = step_said known command before (waiting before) (heard_token w) w.value h.0
waits_there known command before w (x ∷ words) h =
    ap (λ z. waiting_from z (map heard_token (x ∷ words))) (sym (waiting_joined None before (heard_token w ∷ [])))
    ∙ waits_there known command (before ++ heard_token w ∷ []) x words h.1

pub waits_said : (known : Known) (command : Command) (words : List (Heard Value)) → AreSaid known command [] words → last_waits words ≡ waiting (map heard_token words)
waits_said known command [] h = refl
waits_said known command (w ∷ words) h = sym (waits_there known command [] w words h)

pub last_said : (words before : List (Heard Value)) (last : Heard Value) → words ≡ before ++ last ∷ [] → last_waits words ≡ waits_of last.value
last_said words before last e = ap last_waits e ∙ there before
  where
    there : (before : List (Heard Value)) → last_waits (before ++ last ∷ []) ≡ waits_of last.value
    there [] = refl
    there (w ∷ []) = refl
    there (w ∷ x ∷ before) = there (x ∷ before)

-- ## fewer words show no fault

pub nothing_shown : (known : Known) → ShowsNone known []
nothing_shown known = (refl, λ kind h. h)

pub fewer : (units : List (List Token)) (done : List Token) (words : List (Heard Value)) → ShowsNone (known_of units) done → AreHeard (says units) done words →
    (front more : List Token) → map heard_token words ≡ front ++ more → ShowsNone (known_of units) (done ++ front)
fewer units done words none heard [] more e = subst (ShowsNone (known_of units)) (sym (append-nil done)) none
fewer units done [] none heard (x ∷ front) more e = absurd (let t : ◌≡◌ {A = List Token} [] (x ∷ (front ++ more)) = e in cc)
fewer units done (w ∷ words) none heard (x ∷ front) more e =
    let t = cons_is (heard_token w) x (map heard_token words) (front ++ more) e in
    subst (ShowsNone (known_of units)) (append_assoc done (heard_token w ∷ []) front ∙ ap (λ z. done ++ z ∷ front) t.0)
    (fewer units (done ++ heard_token w ∷ []) words heard.0.0 heard.1 front more t.1)

none_fewer : (units : List (List Token)) (before : List (Heard Value)) (w : Token) → AreHeard (says units) [] before →
    NoneFewer (known_of units) (map heard_token before ++ w ∷ [])
none_fewer units before w heard = λ front more e some.
    let r = without_last (map heard_token before) front more w e some in
    fewer units [] before (nothing_shown (known_of units)) heard front r.0 r.1

-- ## the word that comes

none_is : (a : Found ScriptKind) → ◌≡◌ {A = Option (Found ScriptKind)} None (Some a) → ⊥
none_is a h = cc

told_by : (units : List (List Token)) (part : List Token) (n : ℕ) (shows : ScriptKind → Type 0) (tells : Value → Type 0) (r : Result Value ScriptKind) → n + 1 ≡ length part →
    late_in (known_of units) part ≡ None → LastKind (known_of units) part ≡ shows → ((v : Value) → tells v → SaysLast (known_of units) part v) →
    FindsValue shows tells r → Tells format (says units) units part (told_at n r)
told_by units part n shows tells (Ok v) len late same said h = (
  (λ a f. elim f [ inl l ↦ none_is a (sym late ∙ l.0) | inr r ↦ h.0 a.kind (subst (λ z. z a.kind) same r.2) ]),
  ((late, λ kind k. h.0 kind (subst (λ z. z kind) same k)), said v h.1),
)
told_by units part n shows tells (Err kind) len late same said h = inr (late, len, subst (λ z. z kind) (sym same) h)

pub no_words_before : (words : List (Heard Value)) → length words ≡ 0 → words ≡ []
no_words_before [] h = refl
no_words_before (w ∷ words) h = absurd (omega arith)

-- The first word of a unit.
pub first_told : (units : List (List Token)) (known : Known) → known ≡ known_of units → (before : List (Heard Value)) → before ≡ [] → (w : Token) (r : Result Value ScriptKind) →
    FindsValue (AtLast known w []) (SaysAfter known w [] None) r → Tells format (says units) units (map heard_token before ++ w ∷ []) (told_at 0 r)
first_told units known k before none w r h =
    subst (λ z. Tells format (says units) units (map heard_token z ++ w ∷ []) (told_at 0 r)) (sym none)
    (told_by units (w ∷ []) 0 (AtLast (known_of units) w []) (SaysAfter (known_of units) w [] None) r refl refl refl (λ v s. s)
    (subst (λ z. FindsValue (AtLast z w []) (SaysAfter z w [] None) r) k h))

-- What is held of the words before a later word: what is known, the command, and what waits.
pub record Context (units : List (List Token)) (first : Heard Value) (words : List (Heard Value)) (known : Known) (command : Command) (waits : Option ScriptOption) : Type 0 where
  pub same_known : known ≡ known_of units
  pub same_command : command ≡ command_named (heard_token first).text
  pub same_waits : waits ≡ waiting (map heard_token words)

pub context : (units : List (List Token)) (first : Heard Value) (words : List (Heard Value)) (known : Known) (command : Command) (waits : Option ScriptOption) →
    AreHeard (says units) [] (first ∷ words) → known ≡ known_of units → command ≡ command_of first.value → waits ≡ last_waits words → Context units first words known command waits
context units first words known command waits heard k c s = record {
  same_known = k;
  same_command = c ∙ heard.0.1;
  same_waits = s ∙ waits_said (known_of units) (command_named (heard_token first).text) words (are_said units (heard_token first) [] words heard.1);
}

part : Heard Value → List (Heard Value) → Token → List Token
part first words w = heard_token first ∷ (map heard_token words ++ w ∷ [])

late_there : (units : List (List Token)) (first : Heard Value) (words : List (Heard Value)) (w : Token) (known : Known) (command : Command) (waits : Option ScriptOption) →
    Context units first words known command waits → late_in (known_of units) (map heard_token (first ∷ words) ++ w ∷ []) ≡ late_role known command (map heard_token words) w waits
late_there units first words w known command waits x =
    late_at_end (known_of units) (heard_token first) (map heard_token words) w
    ∙ ap (λ z. late_role (known_of units) z (map heard_token words) w (waiting (map heard_token words))) (sym x.same_command)
    ∙ ap (λ z. late_role (known_of units) command (map heard_token words) w z) (sym x.same_waits)
    ∙ ap (λ z. late_role z command (map heard_token words) w waits) (sym x.same_known)

kind_there : (units : List (List Token)) (first : Heard Value) (words : List (Heard Value)) (w : Token) (known : Known) (command : Command) (waits : Option ScriptOption) →
    Context units first words known command waits → LastKind (known_of units) (map heard_token (first ∷ words) ++ w ∷ []) ≡ AtRole known command (map heard_token words) w waits
kind_there units first words w known command waits x =
    kind_at_end (known_of units) (heard_token first) (map heard_token words) w
    ∙ ap (λ z. AtRole (known_of units) z (map heard_token words) w (waiting (map heard_token words))) (sym x.same_command)
    ∙ ap (λ z. AtRole (known_of units) command (map heard_token words) w z) (sym x.same_waits)
    ∙ ap (λ z. AtRole z command (map heard_token words) w waits) (sym x.same_known)

says_there : (units : List (List Token)) (first : Heard Value) (words : List (Heard Value)) (w : Token) (known : Known) (command : Command) (waits : Option ScriptOption) (v : Value) →
    Context units first words known command waits → SaysRole known command (map heard_token words) waits w v → SaysLast (known_of units) (map heard_token (first ∷ words) ++ w ∷ []) v
says_there units first words w known command waits v x h =
    subst (λ z. z) (sym (said_more (known_of units) (heard_token first) (map heard_token words) w v))
    (subst (λ z. SaysRole (known_of units) z (map heard_token words) (waiting (map heard_token words)) w v) x.same_command
    (subst (λ z. SaysRole (known_of units) command (map heard_token words) z w v) x.same_waits
    (subst (λ z. SaysRole z command (map heard_token words) waits w v) x.same_known h)))

-- A later word that shows a fault at an earlier one.
pub late_told : (units : List (List Token)) (before : List (Heard Value)) (first : Heard Value) (words : List (Heard Value)) → before ≡ first ∷ words → AreHeard (says units) [] before → (w : Token) →
    (known : Known) (command : Command) (waits : Option ScriptOption) → known ≡ known_of units → command ≡ command_of first.value → waits ≡ last_waits words →
    (found : Found ScriptKind) → Some found ≡ late_role known command (map heard_token words) w waits → Tells format (says units) units (map heard_token before ++ w ∷ []) (Err found)
late_told units before first words e heard w known command waits k c s found h =
    let now = heard-as (says units) before (first ∷ words) e heard in
    subst (λ z. Tells format (says units) units (map heard_token z ++ w ∷ []) (Err found)) (sym e)
    (inl (late_there units first words w known command waits (context units first words known command waits now k c s) ∙ sym h, none_fewer units (first ∷ words) w now))

-- A later word that shows none.
pub word_told : (units : List (List Token)) (before : List (Heard Value)) (first : Heard Value) (words : List (Heard Value)) → before ≡ first ∷ words → AreHeard (says units) [] before → (w : Token) →
    (known : Known) (command : Command) (waits : Option ScriptOption) → known ≡ known_of units → command ≡ command_of first.value → waits ≡ last_waits words →
    None ≡ late_role known command (map heard_token words) w waits → (r : Result Value ScriptKind) →
    FindsValue (AtRole known command (map heard_token words) w waits) (SaysRole known command (map heard_token words) waits w) r →
    Tells format (says units) units (map heard_token before ++ w ∷ []) (told_at (length before) r)
word_told units before first words e heard w known command waits k c s none r h =
    let now = heard-as (says units) before (first ∷ words) e heard in
    let x = context units first words known command waits now k c s in
    subst (λ z. Tells format (says units) units (map heard_token z ++ w ∷ []) (told_at (length z) r)) (sym e)
    (told_by units (map heard_token (first ∷ words) ++ w ∷ []) (length (first ∷ words))
    (AtRole known command (map heard_token words) w waits) (SaysRole known command (map heard_token words) waits w) r
    (omega (arith, length-map words heard_token, length-append (map heard_token words) (w ∷ [])))
    (late_there units first words w known command waits x ∙ sym none)
    (kind_there units first words w known command waits x)
    (λ v. says_there units first words w known command waits v x) h)
