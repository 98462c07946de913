-- The numbers of a record, by what the words of its command say.
use Rattle.std.proofs.Common.{◌≡◌, ℕ, ◌<◌, ◌≤◌, ◌^◌, Bool, true, false, cond, List, [], ◌∷◌, map, Option, None, Some, refl, sym, ◌∙◌, ap, subst, arith}
use Rattle.std.specs.Prelude.{min}
use Rattle.std.specs.Option.{unwrap_or}
use Rattle.pdn_script.specs.declared.known.Known.{Known}
use Rattle.pdn_script.specs.declared.value.Value.{Value}
use Rattle.pdn_script.specs.Field.{IsNumber, IsMaybeNumber, IsNumberOrZero, AreNumbers, AreMaybeNumbers}
use Rattle.pdn_script.specs.Given.{is_waiting, waits_after, value_from, value}
use Rattle.pdn_script.specs.inside.Value.{AreSaid, IsGiven, HaveNumbers, number_of, number_from, number_in, count_in}
use Rattle.pdn_script.proofs.Whole.{Stated, stated}
use Rattle.reading.specs.declared.word.Heard.{Heard}
use Rattle.reading.specs.Word.{Token, heard_token}
use Rattle.script_options.specs.declared.command.Command.{Command}
use Rattle.script_options.specs.declared.number.Quantity.{Quantity}
use Rattle.script_options.specs.declared.number.Quantity.TheVariants.{Length, Width, Count}
use Rattle.script_options.specs.declared.option.ScriptOption.{ScriptOption}
use Rattle.script_options.specs.declared.table.Counts.{Counts}
use Rattle.script_options.specs.declared.table.ValueForm.TheVariants.{Number, Numbers}
use Rattle.script_options.specs.Number.{IsNumberIn}
use Rattle.script_options.specs.Table.{form_of}
use Rattle.script_options.specs.Value.{Suits, SaysNumber}

no_some : (t : List ℕ) → ◌≡◌ {A = Option (List ℕ)} (Some t) None → ⊥
no_some t h = cc

none_by : (b : Bool) (t : List ℕ) (n : ℕ) (later : Option (List ℕ)) (number : Option ℕ) → cond b (Some t) later ≡ None → (later ≡ None → number ≡ None) → cond b (Some n) number ≡ None
none_by true t n later number h rest = absurd (no_some t h)
none_by false t n later number h rest = rest h

-- No value says no number.
none_from : (option : ScriptOption) (waits : Option ScriptOption) (words : List (Heard Value)) → value_from option waits (map heard_token words) ≡ None → number_from option waits words ≡ None
none_from option waits [] h = refl
none_from option waits (w ∷ words) h =
    none_by (is_waiting option waits) (heard_token w).text (number_of w.value) (value_from option (waits_after waits (heard_token w)) (map heard_token words))
    (number_from option (waits_after waits (heard_token w)) words) h (none_from option (waits_after waits (heard_token w)) words)

-- The number of a value that is stated.
number_stated : (known : Known) (command : Command) (words : List (Heard Value)) (option : ScriptOption) (q : Quantity) → AreSaid known command [] words → form_of option ≡ Number q →
    (text : List ℕ) → value option (map heard_token words) ≡ Some text → (n : ℕ) × (number_in option words ≡ Some n) × IsNumberIn q text n
number_stated known command words option q said form text e =
    let s = stated known command words option text said e in
    (s.value, s.is, subst (λ z. SaysNumber z text s.value) form s.says)

maybe_by : (known : Known) (command : Command) (words : List (Heard Value)) (option : ScriptOption) (q : Quantity) → AreSaid known command [] words → form_of option ≡ Number q →
    (v : Option (List ℕ)) → value option (map heard_token words) ≡ v → IsMaybeNumber q v (number_in option words)
maybe_by known command words option q said form None e = subst (IsMaybeNumber q None) (sym (none_from option None words e)) tt
maybe_by known command words option q said form (Some text) e =
    let n = number_stated known command words option q said form text e in subst (IsMaybeNumber q (Some text)) (sym n.1) n.2

pub maybe_said : (known : Known) (command : Command) (words : List (Heard Value)) (option : ScriptOption) (q : Quantity) → AreSaid known command [] words → form_of option ≡ Number q →
    (number : Option ℕ) → number ≡ number_in option words → IsMaybeNumber q (value option (map heard_token words)) number
maybe_said known command words option q said form number e =
    subst (IsMaybeNumber q (value option (map heard_token words))) (sym e) (maybe_by known command words option q said form _ refl)

pub number_said : (known : Known) (command : Command) (words : List (Heard Value)) (option : ScriptOption) (q : Quantity) → AreSaid known command [] words → form_of option ≡ Number q →
    IsGiven option (map heard_token words) → (given : Option ℕ) (number : ℕ) → given ≡ number_in option words → number ≡ unwrap_or given 0 → IsNumber q (value option (map heard_token words)) number
number_said known command words option q said form g given number e f =
    let n = number_stated known command words option q said form g.0 g.1 in
    let is : number ≡ n.0 = f ∙ ap (λ (z : Option ℕ). unwrap_or z 0) (e ∙ n.1) in
    subst (λ z. IsNumber q z number) (sym g.1) (subst (IsNumberIn q g.0) (sym is) n.2)

or_zero_by : (known : Known) (command : Command) (words : List (Heard Value)) (option : ScriptOption) → AreSaid known command [] words → form_of option ≡ Number Length →
    (v : Option (List ℕ)) → value option (map heard_token words) ≡ v → IsNumberOrZero v (unwrap_or (number_in option words) 0)
or_zero_by known command words option said form None e = ap (λ (z : Option ℕ). unwrap_or z 0) (none_from option None words e)
or_zero_by known command words option said form (Some text) e =
    let n = number_stated known command words option Length said form text e in
    subst (IsNumberIn Length text) (sym (ap (λ (z : Option ℕ). unwrap_or z 0) n.1)) n.2

pub or_zero_said : (known : Known) (command : Command) (words : List (Heard Value)) (option : ScriptOption) → AreSaid known command [] words → form_of option ≡ Number Length →
    (given : Option ℕ) (number : ℕ) → given ≡ number_in option words → number ≡ unwrap_or given 0 → IsNumberOrZero (value option (map heard_token words)) number
or_zero_said known command words option said form given number e f =
    subst (IsNumberOrZero (value option (map heard_token words))) (sym (f ∙ ap (λ (z : Option ℕ). unwrap_or z 0) e)) (or_zero_by known command words option said form _ refl)

-- ## counts

abbrev pub CountsLimited : Type 0
CountsLimited = (text : List ℕ) (value : ℕ) → IsNumberIn Count text value → (0 < value) × (value ≤ 10 ^ 6)

least : (n : ℕ) → n ≤ 10 ^ 6 → min n (10 ^ 6) ≡ n
least n h = omega (arith, h)

count_by : CountsLimited → (v : Option (List ℕ)) (number : Option ℕ) → IsMaybeNumber Count v number → IsMaybeNumber Count v (count_in number)
count_by l None None h = tt
count_by l (Some text) (Some number) h = subst (IsNumberIn Count text) (sym (least number (l text number h).1)) h
count_by l None (Some number) h = absurd h
count_by l (Some text) None h = absurd h

pub count_said : CountsLimited → (known : Known) (command : Command) (words : List (Heard Value)) (option : ScriptOption) → AreSaid known command [] words → form_of option ≡ Number Count →
    (number count : Option ℕ) → number ≡ number_in option words → count ≡ count_in number → IsMaybeNumber Count (value option (map heard_token words)) count
count_said l known command words option said form number count e f =
    subst (IsMaybeNumber Count (value option (map heard_token words))) (sym f) (count_by l _ number (maybe_said known command words option Count said form number e))

-- ## lists

have_by : (known : Known) (command : Command) (words : List (Heard Value)) (option : ScriptOption) (q : Quantity) (counts : Counts) → AreSaid known command [] words → form_of option ≡ Numbers q counts →
    (v : Option (List ℕ)) → value option (map heard_token words) ≡ v → HaveNumbers q v
have_by known command words option q counts said form None e = tt
have_by known command words option q counts said form (Some text) e =
    let s : Suits (Numbers q counts) text = subst (λ z. Suits z text) form (stated known command words option text said e).suits in s.1

pub numbers_said : (known : Known) (command : Command) (words : List (Heard Value)) (option : ScriptOption) (q : Quantity) (counts : Counts) → AreSaid known command [] words →
    form_of option ≡ Numbers q counts → (v : Option (List ℕ)) (numbers : List ℕ) → v ≡ value option (map heard_token words) → (HaveNumbers q v → AreNumbers q v numbers) →
    AreNumbers q (value option (map heard_token words)) numbers
numbers_said known command words option q counts said form v numbers e h =
    subst (λ z. AreNumbers q z numbers) e (h (have_by known command words option q counts said form v (sym e)))

pub lengths_said : (known : Known) (command : Command) (words : List (Heard Value)) (option : ScriptOption) (counts : Counts) → AreSaid known command [] words →
    form_of option ≡ Numbers Length counts → (v numbers : Option (List ℕ)) → v ≡ value option (map heard_token words) → (HaveNumbers Length v → AreMaybeNumbers v numbers) →
    AreMaybeNumbers (value option (map heard_token words)) numbers
lengths_said known command words option counts said form v numbers e h =
    subst (λ z. AreMaybeNumbers z numbers) e (h (have_by known command words option Length counts said form v (sym e)))
