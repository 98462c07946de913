-- The words of a command: all but the last, fewer, and what the last one waits for.
use Rattle.std.proofs.Common.{◌≡◌, ℕ, ◌+◌, ◌<◌, inl, inr, List, [], ◌∷◌, ◌++◌, length, Option, None, Some, refl, sym, ◌∙◌, ap, arith, length-append}
use Rattle.pdn_script.specs.declared.known.Known.{Known}
use Rattle.pdn_script.specs.Fault.{front_of, AtWord, AtLastOf, AtLast, late_word, late_last_of, late_last}
use Rattle.pdn_script.specs.Given.{waits_after, waiting_from}
use Rattle.reading.specs.Word.{Token, last_of}
use Rattle.script_options.specs.declared.option.ScriptOption.{ScriptOption}
use Rattle.script_options.specs.Command.{command_named}

pub last_there : (before : List Token) (last : Token) → last_of (before ++ last ∷ []) ≡ Some last
last_there [] last = refl
last_there (w ∷ []) last = refl
last_there (w ∷ x ∷ before) last = last_there (x ∷ before) last

pub front_there : (before : List Token) (last : Token) → front_of (before ++ last ∷ []) ≡ before
front_there [] last = refl
front_there (w ∷ []) last = refl
front_there (w ∷ x ∷ before) last = ap (λ z. w ∷ z) (front_there (x ∷ before) last)

-- The last word decides.
pub late_at_end : (known : Known) (first : Token) (before : List Token) (last : Token) →
    late_last known first (before ++ last ∷ []) ≡ late_word known (command_named first.text) before last
late_at_end known first before last =
    ap (late_last_of known first (before ++ last ∷ [])) (last_there before last)
    ∙ ap (λ z. late_word known (command_named first.text) z last) (front_there before last)

pub kind_at_end : (known : Known) (first : Token) (before : List Token) (last : Token) →
    AtLast known first (before ++ last ∷ []) ≡ AtWord known (command_named first.text) before last
kind_at_end known first before last =
    ap (AtLastOf known first (before ++ last ∷ [])) (last_there before last)
    ∙ ap (λ z. AtWord known (command_named first.text) z last) (front_there before last)

-- What waits after some words and more of them.
pub waiting_joined : (waits : Option ScriptOption) (before more : List Token) → waiting_from waits (before ++ more) ≡ waiting_from (waiting_from waits before) more
waiting_joined waits [] more = refl
waiting_joined waits (w ∷ before) more = waiting_joined (waits_after waits w) before more

-- ## fewer words

no_words : (x : Token) (xs : List Token) → ◌≡◌ {A = List Token} [] (x ∷ xs) → ⊥
no_words x xs h = cc

pub cons_is : (x y : Token) (xs ys : List Token) → ◌≡◌ {A = List Token} (x ∷ xs) (y ∷ ys) → (x ≡ y) × (xs ≡ ys)
cons_is x y xs ys h = (cc, cc)

-- The first of some words, which are not all of them, are the first ones without the last word.
pub without_last : (words front more : List Token) (last : Token) → words ++ last ∷ [] ≡ front ++ more → 0 < length more →
    (rest : List Token) × (words ≡ front ++ rest)
without_last words [] more last e some = (words, refl)
without_last [] (x ∷ front) more last e some =
    let t = cons_is last x [] (front ++ more) e in
    absurd (omega (arith, some, ap length t.1, length-append front more))
without_last (w ∷ words) (x ∷ front) more last e some =
    let t = cons_is w x (words ++ last ∷ []) (front ++ more) e in
    let r = without_last words front more last t.1 some in
    (r.0, ap (λ z. z ∷ words) t.0 ∙ ap (λ z. x ∷ z) r.1)
