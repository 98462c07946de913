-- A whole command that shows no fault: its words, its values, and what it does not lack.
use Rattle.std.proofs.Common.{◌≡◌, ℕ, inl, inr, ◌⊎◌, Bool, true, false, cond, ◌||◌, not, List, [], ◌∷◌, ◌++◌, map, Option, None, Some, refl, sym, ◌∙◌, ap, subst}
use Rattle.std.proofs.lemmas.List.{append-nil}
use Rattle.std.specs.List.{AllByRecursion}
use Rattle.pdn_script.specs.declared.error.ScriptKind.{ScriptKind}
use Rattle.pdn_script.specs.declared.known.Known.{Known}
use Rattle.pdn_script.specs.declared.section.Section.TheVariants.{Commands}
use Rattle.pdn_script.specs.declared.value.Value.{Value}
use Rattle.pdn_script.specs.declared.error.ScriptKind.TheVariants as kinds
use Rattle.pdn_script.specs.Fault.{first_command, option_kind, name_kind, end_kind, end_late, plain_kind, AtRole, late_role, first_kind, ShowsNone}
use Rattle.pdn_script.specs.Given.{option_of, if_valued, waits_after, waiting_from, waiting, is_waiting, is_named, value_from, value, stands_from, stands}
use Rattle.pdn_script.specs.Known.{known_of}
use Rattle.pdn_script.specs.Rule.{option, is_valued, is_word, is_alone, is_passed, is_end_sort, pattern}
use Rattle.pdn_script.specs.Sort.{takes_value, passed_or_other, sort_of, sort_with, ends_with, is_end}
use Rattle.pdn_script.specs.declared.sort.Sort.TheVariants.{Valued}
use Rattle.pdn_script.specs.inside.Value.{number_of, SaysValue, SaysRole, says, AreSaid, number_from, number_in}
use Rattle.pdn_script.proofs.Words.{late_at_end, kind_at_end, waiting_joined, cons_is}
use Rattle.pdn_script.proofs.Options.{same_is}
use Rattle.pdn_script.proofs.Hearing.{are_said, fewer, nothing_shown}
use Rattle.reading.specs.declared.refusal.Found.{Found}
use Rattle.reading.specs.declared.word.Form.{Form}
use Rattle.reading.specs.declared.word.Form.TheVariants.{Bare, Quoted, Braced, Break, Semicolon, End}
use Rattle.reading.specs.declared.word.Heard.{Heard}
use Rattle.reading.specs.Grammar.{AreHeard}
use Rattle.reading.specs.Pattern.{Matches, joined}
use Rattle.reading.specs.Word.{Token, heard_token}
use Rattle.script_options.specs.declared.command.Command.{Command}
use Rattle.script_options.specs.declared.command.Command.TheVariants.{PassedOver}
use Rattle.script_options.specs.declared.option.ScriptOption.{ScriptOption}
use Rattle.script_options.specs.Command.{command_named}
use Rattle.script_options.specs.Option.{option_named, same_option}
use Rattle.script_options.specs.Table.{form_of}
use Rattle.script_options.specs.Value.{Suits, SaysNumber}

no : false ≡ true → ⊥
no h = cc

-- ## sorts

not_valued : (command : Command) → is_valued (passed_or_other command) ≡ true → ⊥
not_valued PassedOver h = no h
not_valued command h = no h

no_end : (command : Command) → is_end_sort (passed_or_other command) ≡ true → ⊥
no_end PassedOver h = no h
no_end command h = no h

is_passed_over : (command : Command) → is_passed (passed_or_other command) ≡ true → command ≡ PassedOver
is_passed_over PassedOver h = refl
is_passed_over command h = absurd (no h)

valued_text : (b : Bool) (command : Command) → is_valued (cond b Valued (passed_or_other command)) ≡ true → b ≡ true
valued_text true command h = refl
valued_text false command h = absurd (not_valued command h)

alone_text : (b : Bool) (command : Command) → is_alone (cond b Valued (passed_or_other command)) ≡ true → b ≡ false
alone_text true command h = absurd (no h)
alone_text false command h = refl

no_end_text : (b : Bool) (command : Command) → is_end_sort (cond b Valued (passed_or_other command)) ≡ true → ⊥
no_end_text true command h = no h
no_end_text false command h = no_end command h

passed_text : (b : Bool) (command : Command) → is_passed (cond b Valued (passed_or_other command)) ≡ true → command ≡ PassedOver
passed_text true command h = absurd (no h)
passed_text false command h = is_passed_over command h

valued : (form : Form) (text : List ℕ) → is_valued (sort_with form text) ≡ true → takes_value (option_named text) ≡ true
valued Break text h = absurd (no h)
valued Semicolon text h = absurd (no h)
valued End text h = absurd (no h)
valued form text h = valued_text (takes_value (option_named text)) (command_named text) h

alone : (form : Form) (text : List ℕ) → is_alone (sort_with form text) ≡ true → takes_value (option_named text) ≡ false
alone Break text h = absurd (no h)
alone Semicolon text h = absurd (no h)
alone End text h = absurd (no h)
alone form text h = alone_text (takes_value (option_named text)) (command_named text) h

ending : (form : Form) (text : List ℕ) → is_end_sort (sort_with form text) ≡ true → ends_with form ≡ true
ending Break text h = refl
ending Semicolon text h = refl
ending End text h = refl
ending form text h = absurd (no_end_text (takes_value (option_named text)) (command_named text) h)

passed : (form : Form) (text : List ℕ) → is_passed (sort_with form text) ≡ true → command_named text ≡ PassedOver
passed Break text h = absurd (no h)
passed Semicolon text h = absurd (no h)
passed End text h = absurd (no h)
passed form text h = passed_text (takes_value (option_named text)) (command_named text) h

-- ## the words of a command

valued_waits : (w x : Token) → takes_value (option_of w) ≡ true → waiting (w ∷ x ∷ []) ≡ None
valued_waits w x h = ap (λ z. waits_after (cond z (Some (option_of w)) None) x) h

alone_waits : (w : Token) → takes_value (option_of w) ≡ false → waiting (w ∷ []) ≡ None
alone_waits w h = ap (λ z. cond z (Some (option_of w)) None) h

option_waits : (words : List Token) → Matches sort_of option words → waiting words ≡ None
option_waits words (inl h) =
    let first = h.2 in
    let next = h.3 in
    let e : words ≡ first.0 ∷ next.0 ∷ [] = h.4 ∙ ap (λ z. z ++ h.1) first.2 ∙ ap (λ z. first.0 ∷ z) next.2 in
    ap waiting e ∙ valued_waits first.0 next.0 (valued first.0.form first.0.text first.1)
option_waits words (inr h) = ap waiting h.2 ∙ alone_waits h.0 (alone h.0.form h.0.text h.1)

options_wait : (parts : List (List Token)) → AllByRecursion (Matches sort_of option) parts → waiting (joined parts) ≡ None
options_wait [] h = refl
options_wait (part ∷ parts) h = waiting_joined None part (joined parts) ∙ ap (λ z. waiting_from z (joined parts)) (option_waits part h.0) ∙ options_wait parts h.1

-- The words after the first one, of which the last ends the command where no option waits.
pub record Ended (words : List Token) : Type 0 where
  pub before : List Token
  pub last : Token
  pub split : words ≡ before ++ last ∷ []
  pub waits : waiting before ≡ None
  pub over : is_end last ≡ true

one_word : (first w : Token) (words : List Token) → first ∷ words ≡ w ∷ [] → first ≡ w
one_word first w words e = (cons_is first w words [] e).0

pub ended : (first : Token) (words : List Token) → Matches sort_of (pattern Commands) (first ∷ words) → is_end first ≡ false → (command_named first.text ≡ PassedOver) ⊎ Ended words
ended first words (inl h) e = inl (passed first.form first.text (subst (λ z. is_passed (sort_of z) ≡ true) (sym (one_word first h.0 words h.2)) h.1))
ended first words (inr (inr h)) e =
    absurd (no (sym e ∙ ending first.form first.text (subst (λ z. is_end_sort (sort_of z) ≡ true) (sym (one_word first h.0 words h.2)) h.1)))
ended first words (inr (inl h)) e =
    let rest = h.3 in
    let many = rest.2 in
    let stop = rest.3 in
    let t = cons_is first h.2.0 words h.1 (h.4 ∙ ap (λ z. z ++ h.1) h.2.2) in
    inr (record {
      before = joined many.0;
      last = stop.0;
      split = t.1 ∙ rest.4 ∙ ap (λ z. z ++ rest.1) many.2 ∙ ap (λ z. joined many.0 ++ z) stop.2;
      waits = options_wait many.0 many.1;
      over = ending stop.0.form stop.0.text stop.1;
    })

-- ## what the end of a command shows

no_kind : (o : Option ScriptKind) → ((kind : ScriptKind) → o ≡ Some kind → ⊥) → o ≡ None
no_kind None h = refl
no_kind (Some kind) h = absurd (h kind refl)

-- The command shows no fault: neither its first word, nor its end.
pub record Fine (known : Known) (command : Command) (before : List Token) : Type 0 where
  pub first : first_command known command ≡ None
  pub end : end_kind known command before ≡ None
  pub late : end_late known command before ≡ None

no_role : (known : Known) (command : Command) (before : List Token) (last : Token) (waits : Option ScriptOption) → waits ≡ None → is_end last ≡ true →
    ((kind : ScriptKind) → AtRole known command before last waits kind → ⊥) → end_kind known command before ≡ None
no_role known command before last (Some o) none e h = absurd (let t : ◌≡◌ {A = Option ScriptOption} (Some o) None = none in cc)
no_role known command before last None none e h =
    subst (λ z. cond z (end_kind known command before) (option_kind command before (option_of last)) ≡ None) e (no_kind (plain_kind known command before last) h)

no_late : (known : Known) (command : Command) (before : List Token) (last : Token) (waits : Option ScriptOption) → waits ≡ None → is_end last ≡ true →
    late_role known command before last waits ≡ None → end_late known command before ≡ None
no_late known command before last (Some o) none e h = absurd (let t : ◌≡◌ {A = Option ScriptOption} (Some o) None = none in cc)
no_late known command before last None none e h = subst (λ z. cond z (end_late known command before) None ≡ None) e h

first_by : (passing ends over : Bool) (o : Option ScriptKind) → passing ≡ false → ends ≡ false → cond (passing || ends) None (cond over (Some kinds.AfterPdngen) o) ≡ None → o ≡ None
first_by true ends over o p e h = absurd (no (sym p))
first_by false true over o p e h = absurd (no (sym e))
first_by false false true o p e h = absurd (let t : ◌≡◌ {A = Option ScriptKind} (Some kinds.AfterPdngen) None = h in cc)
first_by false false false o p e h = h

first_fine : (known : Known) (first : Token) → known.passing ≡ false → is_end first ≡ false → first_kind known first ≡ None → first_command known (command_named first.text) ≡ None
first_fine known first passing e h = first_by known.passing (is_end first) known.ended (first_command known (command_named first.text)) passing e h

pub fine : (units : List (List Token)) (first : Heard Value) (words : List (Heard Value)) → AreHeard (says units) [] (first ∷ words) → (known_of units).passing ≡ false →
    is_end (heard_token first) ≡ false → (e : Ended (map heard_token words)) → Fine (known_of units) (command_named (heard_token first).text) e.before
fine units first words heard passing begins e =
    let known = known_of units in
    let f = heard_token first in
    let command = command_named f.text in
    let all = fewer units [] (first ∷ words) (nothing_shown known) heard (map heard_token (first ∷ words)) [] (sym (append-nil (map heard_token (first ∷ words)))) in
    let one = heard.0.0 in
    let whole = subst (λ z. ShowsNone known (f ∷ z)) e.split all in
    record {
      first = first_fine known f passing begins (no_kind (first_kind known f) one.1);
      end = no_role known command e.before e.last (waiting e.before) e.waits e.over
          (λ kind k. whole.1 kind (subst (λ z. z kind) (sym (kind_at_end known f e.before e.last)) k));
      late = no_late known command e.before e.last (waiting e.before) e.waits e.over (sym (late_at_end known f e.before e.last) ∙ whole.0);
    }

-- ## values

-- A value that is stated: it suits its option, its number is said, and its name is not refused.
pub record Stated (known : Known) (command : Command) (option : ScriptOption) (text : List ℕ) (number : Option ℕ) : Type 0 where
  pub value : ℕ
  pub is : number ≡ Some value
  pub suits : Suits (form_of option) text
  pub says : SaysNumber (form_of option) text value
  pub before : List Token
  pub named : name_kind known command before option text ≡ None

text_is : (a b : List ℕ) → ◌≡◌ {A = Option (List ℕ)} (Some a) (Some b) → a ≡ b
text_is a b h = cc

no_text : (a : List ℕ) → ◌≡◌ {A = Option (List ℕ)} None (Some a) → ⊥
no_text a h = cc

here : (known : Known) (command : Command) (before : List Token) (option other : ScriptOption) (w text : List ℕ) (value : Value) (later : Option (List ℕ)) (number : Option ℕ) (b : Bool) →
    same_option other option ≡ b → SaysValue known command before other w value → (later ≡ Some text → Stated known command option text number) → cond b (Some w) later ≡ Some text →
    Stated known command option text (cond b (Some (number_of value)) number)
here known command before option other w text value later number true same s rest h =
    let o = same_is other option same in
    let t = text_is w text h in
    record {
      value = number_of value;
      is = refl;
      suits = subst (λ z. Suits (form_of z) text) o (subst (λ z. Suits (form_of other) z) t s.suits);
      says = subst (λ z. SaysNumber (form_of z) text (number_of value)) o (subst (λ z. SaysNumber (form_of other) z (number_of value)) t s.number);
      before = before;
      named = subst (λ z. name_kind known command before z text ≡ None) o (subst (λ z. name_kind known command before other z ≡ None) t s.named);
    }
here known command before option other w text value later number false same s rest h = rest h

step : (known : Known) (command : Command) (before : List Token) (waits : Option ScriptOption) (option : ScriptOption) (w : Heard Value) (words : List (Heard Value)) (text : List ℕ) →
    SaysRole known command before waits (heard_token w) w.value →
    (value_from option (waits_after waits (heard_token w)) (map heard_token words) ≡ Some text →
    Stated known command option text (number_from option (waits_after waits (heard_token w)) words)) →
    value_from option waits (map heard_token (w ∷ words)) ≡ Some text → Stated known command option text (number_from option waits (w ∷ words))
step known command before None option w words text s rest h = rest h
step known command before (Some other) option w words text s rest h =
    here known command before option other (heard_token w).text text w.value (value_from option None (map heard_token words)) (number_from option None words)
    (same_option other option) refl s rest h

stated_from : (known : Known) (command : Command) (before : List Token) (words : List (Heard Value)) (option : ScriptOption) (text : List ℕ) → AreSaid known command before words →
    value_from option (waiting before) (map heard_token words) ≡ Some text → Stated known command option text (number_from option (waiting before) words)
stated_from known command before [] option text s h = absurd (no_text text h)
stated_from known command before (w ∷ words) option text s h =
    let moves = waiting_joined None before (heard_token w ∷ []) in
    step known command before (waiting before) option w words text s.0
    (λ k. subst (λ z. Stated known command option text (number_from option z words)) moves
    (stated_from known command (before ++ heard_token w ∷ []) words option text s.1
    (subst (λ z. value_from option z (map heard_token words) ≡ Some text) (sym moves) k))) h

-- What is said of a value that the words of a command give.
pub stated : (known : Known) (command : Command) (words : List (Heard Value)) (option : ScriptOption) (text : List ℕ) → AreSaid known command [] words →
    value option (map heard_token words) ≡ Some text → Stated known command option text (number_in option words)
stated known command words option text s h = stated_from known command [] words option text s h

-- ## values before the end

none_waits : (o : ScriptOption) → ◌≡◌ {A = Option ScriptOption} (Some o) None → ⊥
none_waits o h = cc

value_front_from : (option : ScriptOption) (waits : Option ScriptOption) (before : List Token) (last : Token) → waiting_from waits before ≡ None →
    value_from option waits (before ++ last ∷ []) ≡ value_from option waits before
value_front_from option None [] last h = refl
value_front_from option (Some o) [] last h = absurd (none_waits o h)
value_front_from option waits (w ∷ before) last h =
    ap (λ z. cond (is_waiting option waits) (Some w.text) z) (value_front_from option (waits_after waits w) before last h)

pub value_front : (option : ScriptOption) (words : List Token) (e : Ended words) → value option words ≡ value option e.before
value_front option words e = ap (value option) e.split ∙ value_front_from option None e.before e.last e.waits

some_either : (b : Bool) (t : List ℕ) (later : Option (List ℕ)) → (text : List ℕ) × (later ≡ Some text) → (text : List ℕ) × (cond b (Some t) later ≡ Some text)
some_either true t later h = (t, refl)
some_either false t later h = h

-- After its name the value of the option stands.
value_next : (option other : ScriptOption) (words : List Token) → same_option other option ≡ true → waiting_from (Some other) words ≡ None →
    (text : List ℕ) × (value_from option (Some other) words ≡ Some text)
value_next option other [] same h = absurd (none_waits other h)
value_next option other (w ∷ words) same h = (w.text, ap (λ z. cond z (Some w.text) (value_from option None words)) same)

name_cases : (b : Bool) (option other : ScriptOption) (words : List Token) → same_option other option ≡ b → takes_value option ≡ true → waiting_from (if_valued other) words ≡ None →
    (b || stands_from option (if_valued other) words) ≡ true →
    (stands_from option (if_valued other) words ≡ true → (text : List ℕ) × (value_from option (if_valued other) words ≡ Some text)) →
    (text : List ℕ) × (value_from option (if_valued other) words ≡ Some text)
name_cases true option other words same takes h stands rest =
    let o = same_is other option same in
    let waits : if_valued other ≡ Some other = ap (λ z. cond z (Some other) None) (ap takes_value o ∙ takes) in
    subst (λ z. (text : List ℕ) × (value_from option z words ≡ Some text)) (sym waits)
    (value_next option other words same (subst (λ z. waiting_from z words ≡ None) waits h))
name_cases false option other words same takes h stands rest = rest stands

given_from : (option : ScriptOption) (waits : Option ScriptOption) (words : List Token) → takes_value option ≡ true → waiting_from waits words ≡ None → stands_from option waits words ≡ true →
    (text : List ℕ) × (value_from option waits words ≡ Some text)
given_from option waits [] takes h stands = absurd (no stands)
given_from option (Some other) (w ∷ words) takes h stands =
    some_either (same_option other option) w.text (value_from option None words) (given_from option None words takes h stands)
given_from option None (w ∷ words) takes h stands =
    name_cases (same_option (option_of w) option) option (option_of w) words refl takes h stands (given_from option (if_valued (option_of w)) words takes h)

-- An option that stands in a whole command has its value.
pub given : (option : ScriptOption) (words : List Token) (e : Ended words) → takes_value option ≡ true → stands option e.before ≡ true → (text : List ℕ) × (value option words ≡ Some text)
given option words e takes there =
    let g = given_from option None e.before takes e.waits there in
    (g.0, value_front option words e ∙ g.1)
