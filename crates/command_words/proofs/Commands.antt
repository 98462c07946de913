-- The commands that words are.
use Rattle.std.proofs.Common.{◌≡◌, ◌≢◌, ℕ, ◌+◌, ◌<◌, ◌≤◌, ◌^◌, List, [], ◌∷◌, length, take, get_or, Contains, Bool, true, false, ◌&&◌, codes, Some, Result, Ok, Err, refl, sym, ◌∙◌, ap, subst, arith}
use Rattle.std.specs.List.{list_all}
use Rattle.std.specs.Str.Parse.{digits_value}
use Rattle.std.specs.Prelude.{ℤ, pos, negsuc}
use Rattle.number_place.specs.declared.place.NumberPlace.{NumberPlace}
use Rattle.number_place.specs.declared.place.Refused.{Refused}
use Rattle.number_place.specs.Place.{IsNumberAt, HasSign}
use Rattle.std.proofs.Common.{Fits, to_z, of_z}
use Rattle.std.specs.Prelude.{◌<ℤ◌, unsigned_abs}
use Rattle.std.specs.Int.{w128}
use Rattle.std.specs.Int.Signed.{pos-nat_abs}
use Rattle.std.proofs.Math.IntN.{nat_abs}
use Rattle.std.specs.Int.Signed.{non_neg}
use Rattle.std.proofs.Math.Dec.{T}
use Rattle.std.proofs.lemmas.Int.{ints, to_z-of_z, fits_signed_from_abs}
use Rattle.command_words.specs.declared.command.Command.{Command}
use Rattle.command_words.specs.declared.command.Command.TheVariants.{Build, Solve, Check, Step, Signoff, Generate}
use Rattle.command_words.specs.declared.command.WordsError.{WordsError}
use Rattle.command_words.specs.Setting.{SetsEach, values_of}
use Rattle.command_words.specs.Words.{build_options, solve_options, check_options, step_options, signoff_options, generate_options, AreApart, IsNumber, IsTime, seconds, IsStep, IsGenerate, IsCommand, IsUsage}
use Rattle.command_words.specs.inside.Split.{texts, IsBuildOf, IsSolveOf, IsStepOf, IsSignoffOf, IsGenerateOf}
use Rattle.command_words.proofs.Spelling.{settings_once, others_are, option_more, first_word, text_at, plain}
use Rattle.command_words.specs.inside.Parsed.{has_no_equals}
use Rattle.std.specs.Borrow.{Bor}
use Rattle.std.specs.Prelude.{IsTrue, ◌↔◌, ◌-◌, drop}
use Rattle.std.specs.Result.{OkIff}
use Rattle.std.specs.Char.{is_ascii_digit, IsAsciiDigit}
use Rattle.std.specs.Str.{bytes_eq}
use Rattle.std.proofs.lemmas.Slice.Eq.{bytes_eq-Decides}
use Rattle.std.proofs.lemmas.Str.{digit_value_digit}
use Rattle.std.proofs.lemmas.Str.Parse.{digit_from_value, parse_digits, numerals_by_value, tells_digits}
use Rattle.std.proofs.lemmas.List.{length-map, length-take, get_or-take, get_or-map, take-map}
use Rattle.std.proofs.lemmas.List.Quantifiers.{all_pairs_push}
use Rattle.std.proofs.lemmas.List.Elements.{Contains-get_or}
use Rattle.std.specs.Str.Parse.{AllDigits, ParsesUnsigned}
use Rattle.command_words.proofs.Truth.{two}

pub each_once : (options words a b : List (List ℕ)) → list_all has_no_equals options ≡ true → SetsEach options words a → SetsEach options words b → a ≡ b
each_once options words a b h x y =
    let same = settings_once options words x.settings y.settings (plain options h) x.are y.are in
    let t : Some a ≡ Some b = sym x.values_are ∙ ap (λ z. values_of z options) same ∙ y.values_are in
    cc

-- ## words of no command

tails : (a b : List ℕ) (xs ys : List (List ℕ)) → a ∷ xs ≡ b ∷ ys → (a ≡ b) × (xs ≡ ys)
tails a b xs ys e = ((let t : a ∷ xs ≡ b ∷ ys = e in cc), (let t : a ∷ xs ≡ b ∷ ys = e in cc))

pub error_is : (a b : WordsError) → ◌≡◌ {A = Result Command WordsError} (Err a) (Err b) → a ≡ b
error_is a b h = cc

abbrev first_byte : List ℕ → ℕ
first_byte [] = 0
first_byte (byte ∷ bytes) = byte

build_solve : codes "build" ≡ codes "solve" → ⊥
build_solve e = let t : 98 ≡ first_byte (codes "solve") = ap first_byte e in absurd (omega arith)

build_check : codes "build" ≡ codes "check" → ⊥
build_check e = let t : 98 ≡ first_byte (codes "check") = ap first_byte e in absurd (omega arith)

build_generate : codes "build" ≡ codes "generate" → ⊥
build_generate e = let t : 98 ≡ first_byte (codes "generate") = ap first_byte e in absurd (omega arith)

solve_check : codes "solve" ≡ codes "check" → ⊥
solve_check e = let t : 115 ≡ first_byte (codes "check") = ap first_byte e in absurd (omega arith)

solve_generate : codes "solve" ≡ codes "generate" → ⊥
solve_generate e = let t : 115 ≡ first_byte (codes "generate") = ap first_byte e in absurd (omega arith)

abbrev second_byte : List ℕ → ℕ
second_byte (first ∷ second ∷ bytes) = second
second_byte bytes = 0

build_step : codes "build" ≡ codes "step" → ⊥
build_step e = let t : 98 ≡ first_byte (codes "step") = ap first_byte e in absurd (omega arith)

solve_step : codes "solve" ≡ codes "step" → ⊥
solve_step e = let t : 111 ≡ second_byte (codes "step") = ap second_byte e in absurd (omega arith)

check_step : codes "check" ≡ codes "step" → ⊥
check_step e = let t : 99 ≡ first_byte (codes "step") = ap first_byte e in absurd (omega arith)

generate_step : codes "generate" ≡ codes "step" → ⊥
generate_step e = let t : 103 ≡ first_byte (codes "step") = ap first_byte e in absurd (omega arith)

build_signoff : codes "build" ≡ codes "signoff" → ⊥
build_signoff e = let t : 98 ≡ first_byte (codes "signoff") = ap first_byte e in absurd (omega arith)

solve_signoff : codes "solve" ≡ codes "signoff" → ⊥
solve_signoff e = let t : 111 ≡ second_byte (codes "signoff") = ap second_byte e in absurd (omega arith)

check_signoff : codes "check" ≡ codes "signoff" → ⊥
check_signoff e = let t : 99 ≡ first_byte (codes "signoff") = ap first_byte e in absurd (omega arith)

generate_signoff : codes "generate" ≡ codes "signoff" → ⊥
generate_signoff e = let t : 103 ≡ first_byte (codes "signoff") = ap first_byte e in absurd (omega arith)

step_signoff : codes "step" ≡ codes "signoff" → ⊥
step_signoff e = let t : 116 ≡ second_byte (codes "signoff") = ap second_byte e in absurd (omega arith)

check_generate : codes "check" ≡ codes "generate" → ⊥
check_generate e = let t : 99 ≡ first_byte (codes "generate") = ap first_byte e in absurd (omega arith)

pub no_check : (words : List (List ℕ)) → ((values : List (List ℕ)) → SetsEach check_options words values → ⊥) → IsUsage (codes "check" ∷ words)
no_check words none (Check netlist certificate) h = none (netlist ∷ certificate ∷ []) (subst (λ z. SetsEach check_options z (netlist ∷ certificate ∷ [])) (sym (tails _ _ words h.0 h.1).1) h.2)
no_check words none (Build a b c d e f g i j) h = build_check (sym (tails _ _ words h.0 h.1).0)
no_check words none (Solve a b c) h = solve_check (sym (tails _ _ words h.0 h.1).0)
no_check words none (Generate a b c d e f g) h = check_generate (tails _ _ words h.0 h.1).0
no_check words none (Step a b t s c d) h = check_step (tails _ _ words h.0 h.1).0
no_check words none (Signoff a b c d e f g i) h = check_signoff (tails _ _ words h.0 h.1).0

pub no_solve : (words : List (List ℕ)) → ((netlist certificate report : List ℕ) → SetsEach solve_options words (netlist ∷ certificate ∷ report ∷ []) → AreApart (certificate ∷ report ∷ []) → ⊥) → IsUsage (codes "solve" ∷ words)
no_solve words none (Solve netlist certificate report) h =
    none netlist certificate report (subst (λ z. SetsEach solve_options z (netlist ∷ certificate ∷ report ∷ [])) (sym (tails _ _ words h.0 h.1).1) h.2) h.3
no_solve words none (Build a b c d e f g i j) h = build_solve (sym (tails _ _ words h.0 h.1).0)
no_solve words none (Check a b) h = solve_check (tails _ _ words h.0 h.1).0
no_solve words none (Generate a b c d e f g) h = solve_generate (tails _ _ words h.0 h.1).0
no_solve words none (Step a b t s c d) h = solve_step (tails _ _ words h.0 h.1).0
no_solve words none (Signoff a b c d e f g i) h = solve_signoff (tails _ _ words h.0 h.1).0

pub no_build : (words : List (List ℕ)) → ((a b c d e f g i j : List ℕ) → SetsEach build_options words (a ∷ b ∷ c ∷ d ∷ e ∷ f ∷ g ∷ i ∷ j ∷ []) → AreApart (f ∷ g ∷ i ∷ j ∷ []) → ⊥) → IsUsage (codes "build" ∷ words)
no_build words none (Build a b c d e f g i j) h =
    none a b c d e f g i j (subst (λ z. SetsEach build_options z (a ∷ b ∷ c ∷ d ∷ e ∷ f ∷ g ∷ i ∷ j ∷ [])) (sym (tails _ _ words h.0 h.1).1) h.2) h.3
no_build words none (Solve a b c) h = build_solve (tails _ _ words h.0 h.1).0
no_build words none (Check a b) h = build_check (tails _ _ words h.0 h.1).0
no_build words none (Generate a b c d e f g) h = build_generate (tails _ _ words h.0 h.1).0
no_build words none (Step a b t s c d) h = build_step (tails _ _ words h.0 h.1).0
no_build words none (Signoff a b c d e f g i) h = build_signoff (tails _ _ words h.0 h.1).0

pub no_generate : (words : List (List ℕ)) → ((files : List (List ℕ)) (number side : ℕ) → IsGenerate words files number side → ⊥) → IsUsage (codes "generate" ∷ words)
no_generate words none (Generate n s c d e f g) h = none (c ∷ d ∷ e ∷ f ∷ g ∷ []) n s (subst (λ z. IsGenerate z (c ∷ d ∷ e ∷ f ∷ g ∷ []) n s) (sym (tails _ _ words h.0 h.1).1) h.2)
no_generate words none (Build a b c d e f g i j) h = build_generate (sym (tails _ _ words h.0 h.1).0)
no_generate words none (Solve a b c) h = solve_generate (sym (tails _ _ words h.0 h.1).0)
no_generate words none (Check a b) h = check_generate (sym (tails _ _ words h.0 h.1).0)
no_generate words none (Step a b t s c d) h = generate_step (tails _ _ words h.0 h.1).0
no_generate words none (Signoff a b c d e f g i) h = generate_signoff (tails _ _ words h.0 h.1).0

pub no_step : (words : List (List ℕ)) → ((a b c d : List ℕ) (time steps : ℕ) → IsStep words a b c d time steps → ⊥) → IsUsage (codes "step" ∷ words)
no_step words none (Step a b t s c d) h = none a b c d t s (subst (λ z. IsStep z a b c d t s) (sym (tails _ _ words h.0 h.1).1) h.2)
no_step words none (Build a b c d e f g i j) h = build_step (sym (tails _ _ words h.0 h.1).0)
no_step words none (Solve a b c) h = solve_step (sym (tails _ _ words h.0 h.1).0)
no_step words none (Check a b) h = check_step (sym (tails _ _ words h.0 h.1).0)
no_step words none (Generate a b c d e f g) h = generate_step (sym (tails _ _ words h.0 h.1).0)
no_step words none (Signoff a b c d e f g i) h = step_signoff (tails _ _ words h.0 h.1).0

pub no_signoff : (words : List (List ℕ)) → ((a b c d e f g i : List ℕ) → SetsEach signoff_options words (a ∷ b ∷ c ∷ d ∷ e ∷ f ∷ g ∷ i ∷ []) → AreApart (f ∷ g ∷ i ∷ []) → ⊥) → IsUsage (codes "signoff" ∷ words)
no_signoff words none (Signoff a b c d e f g i) h =
    none a b c d e f g i (subst (λ z. SetsEach signoff_options z (a ∷ b ∷ c ∷ d ∷ e ∷ f ∷ g ∷ i ∷ [])) (sym (tails _ _ words h.0 h.1).1) h.2) h.3
no_signoff words none (Build a b c d e f g i j) h = build_signoff (sym (tails _ _ words h.0 h.1).0)
no_signoff words none (Solve a b c) h = solve_signoff (sym (tails _ _ words h.0 h.1).0)
no_signoff words none (Check a b) h = check_signoff (sym (tails _ _ words h.0 h.1).0)
no_signoff words none (Generate a b c d e f g) h = generate_signoff (sym (tails _ _ words h.0 h.1).0)
no_signoff words none (Step a b t s c d) h = step_signoff (sym (tails _ _ words h.0 h.1).0)

-- ## one command

-- A text has one answer in a place for a number.
abbrev pub HasOne : Type 0
HasOne = (place : NumberPlace) (text : List ℕ) (r s : Result ℤ Refused) → IsNumberAt place text r → IsNumberAt place text s → r ≡ s

value_is : (v w : ℤ) → ◌≡◌ {A = Result ℤ Refused} (Ok v) (Ok w) → v ≡ w
value_is v w h = cc

abbrev whole : ℤ → ℕ
whole (pos n) = n
whole (negsuc n) = 0

one_time : HasOne → (text : List ℕ) (a b : ℕ) → IsTime text a → IsTime text b → a ≡ b
one_time one text a b h k = ap whole (value_is (pos a) (pos b) (one seconds text (Ok (pos a)) (Ok (pos b)) h k))

pub one_command : HasOne → (words : List (List ℕ)) (x y : Command) → IsCommand words x → IsCommand words y → x ≡ y
one_command one words (Build a b c d e f g i j) (Build a' b' c' d' e' f' g' i' j') h k =
    let same = each_once build_options h.0 _ _ refl h.2 (subst (λ z. SetsEach build_options z (a' ∷ b' ∷ c' ∷ d' ∷ e' ∷ f' ∷ g' ∷ i' ∷ j' ∷ [])) (sym (tails _ _ h.0 k.0 (sym h.1 ∙ k.1)).1) k.2) in
    let t : a ∷ b ∷ c ∷ d ∷ e ∷ f ∷ g ∷ i ∷ j ∷ [] ≡ a' ∷ b' ∷ c' ∷ d' ∷ e' ∷ f' ∷ g' ∷ i' ∷ j' ∷ [] = same in
    cc
one_command one words (Solve a b c) (Solve a' b' c') h k =
    let same = each_once solve_options h.0 _ _ refl h.2 (subst (λ z. SetsEach solve_options z (a' ∷ b' ∷ c' ∷ [])) (sym (tails _ _ h.0 k.0 (sym h.1 ∙ k.1)).1) k.2) in
    let t : a ∷ b ∷ c ∷ [] ≡ a' ∷ b' ∷ c' ∷ [] = same in
    cc
one_command one words (Check a b) (Check a' b') h k =
    let same = each_once check_options h.0 _ _ refl h.2 (subst (λ z. SetsEach check_options z (a' ∷ b' ∷ [])) (sym (tails _ _ h.0 k.0 (sym h.1 ∙ k.1)).1) k.2) in
    let t : a ∷ b ∷ [] ≡ a' ∷ b' ∷ [] = same in
    cc
one_command one words (Generate n s c d e f g) (Generate n' s' c' d' e' f' g') h k =
    let x = h.2 in
    let y = subst (λ z. IsGenerate z (c' ∷ d' ∷ e' ∷ f' ∷ g' ∷ []) n' s') (sym (tails _ _ h.0 k.0 (sym h.1 ∙ k.1)).1) k.2 in
    let t : x.number_text ∷ x.side_text ∷ c ∷ d ∷ e ∷ f ∷ g ∷ [] ≡ y.number_text ∷ y.side_text ∷ c' ∷ d' ∷ e' ∷ f' ∷ g' ∷ [] = each_once generate_options h.0 _ _ refl x.each y.each in
    let first : x.number_text ≡ y.number_text = cc in
    let second : x.side_text ≡ y.side_text = cc in
    let number : n ≡ n' = sym x.number_is.1 ∙ ap (λ z. digits_value 10 z) first ∙ y.number_is.1 in
    let side : s ≡ s' = sym x.side_is.1 ∙ ap (λ z. digits_value 10 z) second ∙ y.side_is.1 in
    cc
one_command one words (Build a b c d e f g i j) (Solve a' b' c') h k = absurd (build_solve (tails _ _ h.0 k.0 (sym h.1 ∙ k.1)).0)
one_command one words (Build a b c d e f g i j) (Check a' b') h k = absurd (build_check (tails _ _ h.0 k.0 (sym h.1 ∙ k.1)).0)
one_command one words (Build a b c d e f g i j) (Generate a' b' c' d' e' f' g') h k = absurd (build_generate (tails _ _ h.0 k.0 (sym h.1 ∙ k.1)).0)
one_command one words (Solve a b c) (Build a' b' c' d' e' f' g' i' j') h k = absurd (build_solve (sym (tails _ _ h.0 k.0 (sym h.1 ∙ k.1)).0))
one_command one words (Solve a b c) (Check a' b') h k = absurd (solve_check (tails _ _ h.0 k.0 (sym h.1 ∙ k.1)).0)
one_command one words (Solve a b c) (Generate a' b' c' d' e' f' g') h k = absurd (solve_generate (tails _ _ h.0 k.0 (sym h.1 ∙ k.1)).0)
one_command one words (Check a b) (Build a' b' c' d' e' f' g' i' j') h k = absurd (build_check (sym (tails _ _ h.0 k.0 (sym h.1 ∙ k.1)).0))
one_command one words (Check a b) (Solve a' b' c') h k = absurd (solve_check (sym (tails _ _ h.0 k.0 (sym h.1 ∙ k.1)).0))
one_command one words (Check a b) (Generate a' b' c' d' e' f' g') h k = absurd (check_generate (tails _ _ h.0 k.0 (sym h.1 ∙ k.1)).0)
one_command one words (Generate a b c d e f g) (Build a' b' c' d' e' f' g' i' j') h k = absurd (build_generate (sym (tails _ _ h.0 k.0 (sym h.1 ∙ k.1)).0))
one_command one words (Generate a b c d e f g) (Solve a' b' c') h k = absurd (solve_generate (sym (tails _ _ h.0 k.0 (sym h.1 ∙ k.1)).0))
one_command one words (Generate a b c d e f g) (Check a' b') h k = absurd (check_generate (sym (tails _ _ h.0 k.0 (sym h.1 ∙ k.1)).0))
one_command one words (Step a b t s c d) (Step a' b' t' s' c' d') h k =
    let x = h.2 in
    let y = subst (λ z. IsStep z a' b' c' d' t' s') (sym (tails _ _ h.0 k.0 (sym h.1 ∙ k.1)).1) k.2 in
    let e : x.time_text ∷ x.steps_text ∷ a ∷ b ∷ c ∷ d ∷ [] ≡ y.time_text ∷ y.steps_text ∷ a' ∷ b' ∷ c' ∷ d' ∷ [] = each_once step_options h.0 _ _ refl x.each y.each in
    let first : x.time_text ≡ y.time_text = cc in
    let second : x.steps_text ≡ y.steps_text = cc in
    let time : t ≡ t' = one_time one y.time_text t t' (subst (λ z. IsTime z t) first x.time_is) y.time_is in
    let steps : s ≡ s' = sym x.steps_is.1 ∙ ap (λ z. digits_value 10 z) second ∙ y.steps_is.1 in
    cc
one_command one words (Build a b c d e f g i j) (Step a' b' t' s' c' d') h k = absurd (build_step (tails _ _ h.0 k.0 (sym h.1 ∙ k.1)).0)
one_command one words (Solve a b c) (Step a' b' t' s' c' d') h k = absurd (solve_step (tails _ _ h.0 k.0 (sym h.1 ∙ k.1)).0)
one_command one words (Check a b) (Step a' b' t' s' c' d') h k = absurd (check_step (tails _ _ h.0 k.0 (sym h.1 ∙ k.1)).0)
one_command one words (Generate a b c d e f g) (Step a' b' t' s' c' d') h k = absurd (generate_step (tails _ _ h.0 k.0 (sym h.1 ∙ k.1)).0)
one_command one words (Step a b t s c d) (Build a' b' c' d' e' f' g' i' j') h k = absurd (build_step (sym (tails _ _ h.0 k.0 (sym h.1 ∙ k.1)).0))
one_command one words (Step a b t s c d) (Solve a' b' c') h k = absurd (solve_step (sym (tails _ _ h.0 k.0 (sym h.1 ∙ k.1)).0))
one_command one words (Step a b t s c d) (Check a' b') h k = absurd (check_step (sym (tails _ _ h.0 k.0 (sym h.1 ∙ k.1)).0))
one_command one words (Step a b t s c d) (Generate a' b' c' d' e' f' g') h k = absurd (generate_step (sym (tails _ _ h.0 k.0 (sym h.1 ∙ k.1)).0))
one_command one words (Signoff a b c d e f g i) (Signoff a' b' c' d' e' f' g' i') h k =
    let same = each_once signoff_options h.0 _ _ refl h.2 (subst (λ z. SetsEach signoff_options z (a' ∷ b' ∷ c' ∷ d' ∷ e' ∷ f' ∷ g' ∷ i' ∷ [])) (sym (tails _ _ h.0 k.0 (sym h.1 ∙ k.1)).1) k.2) in
    let t : a ∷ b ∷ c ∷ d ∷ e ∷ f ∷ g ∷ i ∷ [] ≡ a' ∷ b' ∷ c' ∷ d' ∷ e' ∷ f' ∷ g' ∷ i' ∷ [] = same in
    cc
one_command one words (Build a b c d e f g i j) (Signoff a' b' c' d' e' f' g' i') h k = absurd (build_signoff (tails _ _ h.0 k.0 (sym h.1 ∙ k.1)).0)
one_command one words (Signoff a b c d e f g i) (Build a' b' c' d' e' f' g' i' j') h k = absurd (build_signoff (sym (tails _ _ h.0 k.0 (sym h.1 ∙ k.1)).0))
one_command one words (Solve a b c) (Signoff a' b' c' d' e' f' g' i') h k = absurd (solve_signoff (tails _ _ h.0 k.0 (sym h.1 ∙ k.1)).0)
one_command one words (Signoff a b c d e f g i) (Solve a' b' c') h k = absurd (solve_signoff (sym (tails _ _ h.0 k.0 (sym h.1 ∙ k.1)).0))
one_command one words (Check a b) (Signoff a' b' c' d' e' f' g' i') h k = absurd (check_signoff (tails _ _ h.0 k.0 (sym h.1 ∙ k.1)).0)
one_command one words (Signoff a b c d e f g i) (Check a' b') h k = absurd (check_signoff (sym (tails _ _ h.0 k.0 (sym h.1 ∙ k.1)).0))
one_command one words (Generate a b c d e f g) (Signoff a' b' c' d' e' f' g' i') h k = absurd (generate_signoff (tails _ _ h.0 k.0 (sym h.1 ∙ k.1)).0)
one_command one words (Signoff a b c d e f g i) (Generate a' b' c' d' e' f' g') h k = absurd (generate_signoff (sym (tails _ _ h.0 k.0 (sym h.1 ∙ k.1)).0))
one_command one words (Step a b t s c d) (Signoff a' b' c' d' e' f' g' i') h k = absurd (step_signoff (tails _ _ h.0 k.0 (sym h.1 ∙ k.1)).0)
one_command one words (Signoff a b c d e f g i) (Step a' b' t' s' c' d') h k = absurd (step_signoff (sym (tails _ _ h.0 k.0 (sym h.1 ∙ k.1)).0))

-- ## commands that are made of values

pub made_build : (words values : List (List ℕ)) (command : Command) → IsBuildOf values command → SetsEach build_options words values → AreApart (drop 5 values) → IsCommand (codes "build" ∷ words) command
made_build words values (Build a b c d e f g i j) made each apart =
    (words, refl, subst (λ z. SetsEach build_options words z) made each, subst (λ z. AreApart (drop 5 z)) made apart)
made_build words values (Solve a b c) made each apart = absurd made
made_build words values (Check a b) made each apart = absurd made
made_build words values (Generate a b c d e f g) made each apart = absurd made
made_build words values (Step a b t s c d) made each apart = absurd made
made_build words values (Signoff a b c d e f g i) made each apart = absurd made

pub made_solve : (words values : List (List ℕ)) (command : Command) → IsSolveOf values command → SetsEach solve_options words values → AreApart (drop 1 values) → IsCommand (codes "solve" ∷ words) command
made_solve words values (Solve a b c) made each apart =
    (words, refl, subst (λ z. SetsEach solve_options words z) made each, subst (λ z. AreApart (drop 1 z)) made apart)
made_solve words values (Build a b c d e f g i j) made each apart = absurd made
made_solve words values (Check a b) made each apart = absurd made
made_solve words values (Generate a b c d e f g) made each apart = absurd made
made_solve words values (Step a b t s c d) made each apart = absurd made
made_solve words values (Signoff a b c d e f g i) made each apart = absurd made

pub made_generate : (words values : List (List ℕ)) (number side : ℕ) (command : Command) → IsGenerateOf values number side command → SetsEach generate_options words values → AreApart (drop 2 values) →
    IsNumber (get_or values 0 []) number → IsNumber (get_or values 1 []) side → number < 2 ^ 64 → 24 ≤ side → side ≤ 300 → IsCommand (codes "generate" ∷ words) command
made_generate words values number side (Generate n s c d e f g) made each apart first second fits least greatest = (
  words,
  refl,
  record {
    number_text = made.0;
    side_text = made.1;
    each = subst (λ z. SetsEach generate_options words z) made.2 each;
    number_is = subst (λ z. IsNumber (get_or z 0 []) n) made.2 (subst (λ z. IsNumber (get_or values 0 []) z) (sym made.3) first);
    side_is = subst (λ z. IsNumber (get_or z 1 []) s) made.2 (subst (λ z. IsNumber (get_or values 1 []) z) (sym made.4) second);
    number_fits = (let e = made.3 in omega arith);
    least_side = (let e = made.4 in omega arith);
    greatest_side = (let e = made.4 in omega arith);
    apart = subst (λ z. AreApart (drop 2 z)) made.2 apart;
  },
)
made_generate words values number side (Build a b c d e f g i j) made each apart first second fits least greatest = absurd made
made_generate words values number side (Solve a b c) made each apart first second fits least greatest = absurd made
made_generate words values number side (Check a b) made each apart first second fits least greatest = absurd made
made_generate words values number side (Step a b t s c d) made each apart first second fits least greatest = absurd made
made_generate words values number side (Signoff a b c d e f g i) made each apart first second fits least greatest = absurd made

pub made_step : (words values : List (List ℕ)) (time steps : ℕ) (command : Command) → IsStepOf values time steps command → SetsEach step_options words values → AreApart (drop 4 values) →
    IsTime (get_or values 0 []) time → IsNumber (get_or values 1 []) steps → 1 ≤ steps → steps ≤ 1000 → IsCommand (codes "step" ∷ words) command
made_step words values time steps (Step a b t s c d) made each apart first second least greatest = (
  words,
  refl,
  record {
    time_text = made.0;
    steps_text = made.1;
    each = subst (λ z. SetsEach step_options words z) made.2 each;
    time_is = subst (λ z. IsTime (get_or z 0 []) t) made.2 (subst (λ z. IsTime (get_or values 0 []) z) (sym made.3) first);
    steps_is = subst (λ z. IsNumber (get_or z 1 []) s) made.2 (subst (λ z. IsNumber (get_or values 1 []) z) (sym made.4) second);
    least_steps = (let e = made.4 in omega arith);
    greatest_steps = (let e = made.4 in omega arith);
    apart = subst (λ z. AreApart (drop 4 z)) made.2 apart;
  },
)
made_step words values time steps (Build a b c d e f g i j) made each apart first second least greatest = absurd made
made_step words values time steps (Solve a b c) made each apart first second least greatest = absurd made
made_step words values time steps (Check a b) made each apart first second least greatest = absurd made
made_step words values time steps (Generate a b c d e f g) made each apart first second least greatest = absurd made
made_step words values time steps (Signoff a b c d e f g i) made each apart first second least greatest = absurd made

pub made_signoff : (words values : List (List ℕ)) (command : Command) → IsSignoffOf values command → SetsEach signoff_options words values → AreApart (drop 5 values) → IsCommand (codes "signoff" ∷ words) command
made_signoff words values (Signoff a b c d e f g i) made each apart =
    (words, refl, subst (λ z. SetsEach signoff_options words z) made each, subst (λ z. AreApart (drop 5 z)) made apart)
made_signoff words values (Build a b c d e f g i j) made each apart = absurd made
made_signoff words values (Solve a b c) made each apart = absurd made
made_signoff words values (Check a b) made each apart = absurd made
made_signoff words values (Generate a b c d e f g) made each apart = absurd made
made_signoff words values (Step a b t s c d) made each apart = absurd made

-- ## values that are not apart

pub not_apart : (options words : List (List ℕ)) (items : List (Bor (List ℕ))) (n : ℕ) (values : List (List ℕ)) (is : Bool) → list_all has_no_equals options ≡ true → SetsEach options words (texts items) →
    SetsEach options words values → IsTrue is ↔ AreApart (texts (take (length items - n) (drop n items))) → is ≡ false → AreApart (drop n values) → ⊥
not_apart options words items n values is h a b tells refused apart =
    let same : texts items ≡ values = each_once options words (texts items) values h a b in
    let there : AreApart (texts (take (length items - n) (drop n items))) = subst AreApart (sym (others_are items n)) (subst (λ z. AreApart (drop n z)) (sym same) apart) in
    let t : false ≡ true = sym refused ∙ tells.1 there in
    absurd (cc)

pub is_apart : (items : List (Bor (List ℕ))) (n : ℕ) (is : Bool) → IsTrue is ↔ AreApart (texts (take (length items - n) (drop n items))) → is ≡ true → AreApart (drop n (texts items))
is_apart items n is tells told = subst AreApart (others_are items n) (tells.0 told)

-- ## values by their places

abbrev pub no_word : Bor (List ℕ)
no_word = record { ref_ptr = (0, 0); now = [] }

t0 : (xs : List (Bor (List ℕ))) → length xs ≡ 0 → texts xs ≡ []
t0 [] h = refl
t0 (x ∷ xs) h = absurd (omega arith)

t1 : (xs : List (Bor (List ℕ))) (d : Bor (List ℕ)) → length xs ≡ 1 → texts xs ≡ (get_or xs 0 d).now ∷ []
t1 [] d h = absurd (omega arith)
t1 (x ∷ xs) d h = ap (λ z. x.now ∷ z) (t0 xs (omega arith))

t2 : (xs : List (Bor (List ℕ))) (d : Bor (List ℕ)) → length xs ≡ 2 → texts xs ≡ (get_or xs 0 d).now ∷ (get_or xs 1 d).now ∷ []
t2 [] d h = absurd (omega arith)
t2 (x ∷ xs) d h = ap (λ z. x.now ∷ z) (t1 xs d (omega arith))

pub t3 : (xs : List (Bor (List ℕ))) (d : Bor (List ℕ)) → length xs ≡ 3 → texts xs ≡ (get_or xs 0 d).now ∷ (get_or xs 1 d).now ∷ (get_or xs 2 d).now ∷ []
t3 [] d h = absurd (omega arith)
t3 (x ∷ xs) d h = ap (λ z. x.now ∷ z) (t2 xs d (omega arith))

t4 : (xs : List (Bor (List ℕ))) (d : Bor (List ℕ)) → length xs ≡ 4 → texts xs ≡ (get_or xs 0 d).now ∷ (get_or xs 1 d).now ∷ (get_or xs 2 d).now ∷ (get_or xs 3 d).now ∷ []
t4 [] d h = absurd (omega arith)
t4 (x ∷ xs) d h = ap (λ z. x.now ∷ z) (t3 xs d (omega arith))

t5 : (xs : List (Bor (List ℕ))) (d : Bor (List ℕ)) → length xs ≡ 5 → texts xs ≡ (get_or xs 0 d).now ∷ (get_or xs 1 d).now ∷ (get_or xs 2 d).now ∷ (get_or xs 3 d).now ∷ (get_or xs 4 d).now ∷ []
t5 [] d h = absurd (omega arith)
t5 (x ∷ xs) d h = ap (λ z. x.now ∷ z) (t4 xs d (omega arith))

pub t6 : (xs : List (Bor (List ℕ))) (d : Bor (List ℕ)) → length xs ≡ 6 →
    texts xs ≡ (get_or xs 0 d).now ∷ (get_or xs 1 d).now ∷ (get_or xs 2 d).now ∷ (get_or xs 3 d).now ∷ (get_or xs 4 d).now ∷ (get_or xs 5 d).now ∷ []
t6 [] d h = absurd (omega arith)
t6 (x ∷ xs) d h = ap (λ z. x.now ∷ z) (t5 xs d (omega arith))

pub t7 : (xs : List (Bor (List ℕ))) (d : Bor (List ℕ)) → length xs ≡ 7 →
    texts xs ≡ (get_or xs 0 d).now ∷ (get_or xs 1 d).now ∷ (get_or xs 2 d).now ∷ (get_or xs 3 d).now ∷ (get_or xs 4 d).now ∷ (get_or xs 5 d).now ∷ (get_or xs 6 d).now ∷ []
t7 [] d h = absurd (omega arith)
t7 (x ∷ xs) d h = ap (λ z. x.now ∷ z) (t6 xs d (omega arith))

pub t8 : (xs : List (Bor (List ℕ))) (d : Bor (List ℕ)) → length xs ≡ 8 →
    texts xs ≡ (get_or xs 0 d).now ∷ (get_or xs 1 d).now ∷ (get_or xs 2 d).now ∷ (get_or xs 3 d).now ∷ (get_or xs 4 d).now ∷ (get_or xs 5 d).now ∷ (get_or xs 6 d).now ∷ (get_or xs 7 d).now ∷ []
t8 [] d h = absurd (omega arith)
t8 (x ∷ xs) d h = ap (λ z. x.now ∷ z) (t7 xs d (omega arith))

pub t9 : (xs : List (Bor (List ℕ))) (d : Bor (List ℕ)) → length xs ≡ 9 →
    texts xs ≡ (get_or xs 0 d).now ∷ (get_or xs 1 d).now ∷ (get_or xs 2 d).now ∷ (get_or xs 3 d).now ∷ (get_or xs 4 d).now ∷ (get_or xs 5 d).now ∷ (get_or xs 6 d).now ∷ (get_or xs 7 d).now ∷ (get_or xs 8 d).now ∷ []
t9 [] d h = absurd (omega arith)
t9 (x ∷ xs) d h = ap (λ z. x.now ∷ z) (t8 xs d (omega arith))

-- ## apart

pub apart_not : (names : List (Bor (List ℕ))) (at : ℕ) (d : Bor (List ℕ)) → at < length names → Contains (texts (take at names)) (get_or names at d).now → AreApart (texts names) → ⊥
apart_not names at d h there apart =
    let x = (get_or names at d).now in
    let count = length-map names (λ word. word.now) in
    let front : texts (take at names) ≡ take at (texts names) = sym (take-map (λ word. word.now) at names) in
    let found : Contains (take at (texts names)) x = subst (λ z. Contains z x) front there in
    let below : found.0 < at = (let inside = found.1 in omega (arith, length-take at (texts names))) in
    apart found.0 at x below (omega arith)
    (sym (get_or-take at (texts names) found.0 x below) ∙ found.2 ∙ sym (get_or-map (λ word. word.now) names at d x h))

pub apart_more : (names : List (Bor (List ℕ))) (at : ℕ) (d : Bor (List ℕ)) → at < length names → AreApart (texts (take at names)) → (Contains (texts (take at names)) (get_or names at d).now → ⊥) →
    AreApart (texts (take (at + 1) names))
apart_more names at d h apart none =
    subst AreApart (sym (option_more names at d h))
    (all_pairs_push (λ a b. a ≢ b) (texts (take at names)) (get_or names at d).now apart
    (λ k e inside same. none (subst (λ z. Contains (texts (take at names)) z) same (Contains-get_or (texts (take at names)) k e inside))))

-- ## numbers

pub digits_are : (text : List ℕ) → list_all is_ascii_digit text ≡ true → AllDigits 10 text
digits_are [] h = tt
digits_are (c ∷ cs) h =
    let t = two (is_ascii_digit c) (list_all is_ascii_digit cs) h in
    let digit : IsAsciiDigit c = grind (arith, t.0) in
    let value = digit_value_digit c digit in
    (omega arith, digits_are cs t.1)

digit_is : (c : ℕ) → IsAsciiDigit c → is_ascii_digit c ≡ true
digit_is c h = grind arith

pub are_digits : (text : List ℕ) → AllDigits 10 text → list_all is_ascii_digit text ≡ true
are_digits [] h = refl
are_digits (c ∷ cs) h = ap (λ z. z && list_all is_ascii_digit cs) (digit_is c (digit_from_value c h.0)) ∙ are_digits cs h.1

pub parsed : {E : Type 0} (text : List ℕ) (r : Result ℕ E) → ParsesUnsigned 64 10 text r → AllDigits 10 text → OkIff r ((0 < length text) × (digits_value 10 text < 2 ^ 64)) (digits_value 10 text)
parsed text r h all = parse_digits (numerals_by_value _ tells_digits) 64 text r h all

-- ## the first word

pub named_first : (words : List (Bor (List ℕ))) (d : Bor (List ℕ)) (name : List ℕ) → 0 < length words → bytes_eq (get_or words 0 d).now name ≡ true →
    name ∷ texts (take (length words - 1) (drop 1 words)) ≡ texts words
named_first words d name some e =
    ap (λ z. name ∷ z) (others_are words 1) ∙ ap (λ z. z ∷ drop 1 (texts words)) (sym ((bytes_eq-Decides (get_or words 0 d).now name).0 e)) ∙ sym (first_word words d some)

-- ## numbers that are none

pub number_missing : (words : List (List ℕ)) (xs : List (Bor (List ℕ))) (d : Bor (List ℕ)) → SetsEach generate_options words (texts xs) → length xs ≡ 7 →
    ((n : ℕ) → IsNumber (get_or xs 0 d).now n → n < 2 ^ 64 → ⊥) → (files : List (List ℕ)) (number side : ℕ) → IsGenerate words files number side → ⊥
number_missing words xs d each count none files number side h =
    let same = each_once generate_options words (texts xs) (h.number_text ∷ h.side_text ∷ files) refl each h.each in
    let e : (get_or xs 0 d).now ≡ h.number_text = sym (text_at xs 0 d (omega arith)) ∙ ap (λ z. get_or z 0 []) same in
    none number (subst (λ z. IsNumber z number) (sym e) h.number_is) h.number_fits

pub side_missing : (words : List (List ℕ)) (xs : List (Bor (List ℕ))) (d : Bor (List ℕ)) → SetsEach generate_options words (texts xs) → length xs ≡ 7 →
    ((n : ℕ) → IsNumber (get_or xs 1 d).now n → 24 ≤ n → n ≤ 300 → ⊥) → (files : List (List ℕ)) (number side : ℕ) → IsGenerate words files number side → ⊥
side_missing words xs d each count none files number side h =
    let same = each_once generate_options words (texts xs) (h.number_text ∷ h.side_text ∷ files) refl each h.each in
    let e : (get_or xs 1 d).now ≡ h.side_text = sym (text_at xs 1 d (omega arith)) ∙ ap (λ z. get_or z 1 []) same in
    none side (subst (λ z. IsNumber z side) (sym e) h.side_is) h.least_side h.greatest_side

pub number_at : (xs : List (Bor (List ℕ))) (i : ℕ) (d : Bor (List ℕ)) (n : ℕ) → i < length xs → IsNumber (get_or xs i d).now n → IsNumber (get_or (texts xs) i []) n
number_at xs i d n h is = subst (λ z. IsNumber z n) (sym (text_at xs i d h)) is

pub time_missing : (words : List (List ℕ)) (xs : List (Bor (List ℕ))) (d : Bor (List ℕ)) → SetsEach step_options words (texts xs) → length xs ≡ 6 →
    ((n : ℕ) → IsTime (get_or xs 0 d).now n → ⊥) → (a b e f : List ℕ) (time steps : ℕ) → IsStep words a b e f time steps → ⊥
time_missing words xs d each count none a b e f time steps h =
    let same = each_once step_options words (texts xs) (h.time_text ∷ h.steps_text ∷ a ∷ b ∷ e ∷ f ∷ []) refl each h.each in
    let is : (get_or xs 0 d).now ≡ h.time_text = sym (text_at xs 0 d (omega arith)) ∙ ap (λ z. get_or z 0 []) same in
    none time (subst (λ z. IsTime z time) (sym is) h.time_is)

pub steps_missing : (words : List (List ℕ)) (xs : List (Bor (List ℕ))) (d : Bor (List ℕ)) → SetsEach step_options words (texts xs) → length xs ≡ 6 →
    ((n : ℕ) → IsNumber (get_or xs 1 d).now n → 1 ≤ n → n ≤ 1000 → ⊥) → (a b e f : List ℕ) (time steps : ℕ) → IsStep words a b e f time steps → ⊥
steps_missing words xs d each count none a b e f time steps h =
    let same = each_once step_options words (texts xs) (h.time_text ∷ h.steps_text ∷ a ∷ b ∷ e ∷ f ∷ []) refl each h.each in
    let is : (get_or xs 1 d).now ≡ h.steps_text = sym (text_at xs 1 d (omega arith)) ∙ ap (λ z. get_or z 1 []) same in
    none steps (subst (λ z. IsNumber z steps) (sym is) h.steps_is) h.least_steps h.greatest_steps

pub time_at : (xs : List (Bor (List ℕ))) (i : ℕ) (d : Bor (List ℕ)) (n : ℕ) → i < length xs → IsTime (get_or xs i d).now n → IsTime (get_or (texts xs) i []) n
time_at xs i d n h is = subst (λ z. IsTime z n) (sym (text_at xs i d h)) is

refused_is : (r : Refused) (v : ℤ) → ◌≡◌ {A = Result ℤ Refused} (Err r) (Ok v) → ⊥
refused_is r v h = cc

pub no_time : (text : List ℕ) (r : Refused) (answer : Result ℤ Refused) (n : ℕ) → ((other : Result ℤ Refused) → IsNumberAt seconds text other → other ≡ answer) → answer ≡ Err r → IsTime text n → ⊥
no_time text r answer n only e h = refused_is r (pos n) (sym (only (Ok (pos n)) h ∙ e))

-- ## a time as the machine keeps it

-- The value is above 0 and at most 1 s.
abbrev pub IsPositive : ℤ → Type 0
IsPositive v = (pos 0 <ℤ v) × (unsigned_abs v ≤ 10 ^ 18)

pub is_positive : ((place : NumberPlace) (text : List ℕ) (v : ℤ) → IsNumberAt place text (Ok v) → unsigned_abs v ≤ place.limit) →
    ((place : NumberPlace) (text : List ℕ) (v : ℤ) → IsNumberAt place text (Ok v) → HasSign place.sign v) → (text : List ℕ) (v : ℤ) → IsNumberAt seconds text (Ok v) → IsPositive v
is_positive limited signed text v h = (signed seconds text v h, limited seconds text v h)

pub positive_kept : (v : ℤ) → IsPositive v → to_z w128 (of_z w128 v) ≡ v
positive_kept v h = to_z-of_z w128 v (fits_signed_from_abs w128 v (let within = h.1 in omega arith))

fits_by : (v : ℤ) → IsPositive v → T (non_neg v) × Fits w128 (nat_abs v)
fits_by (pos n) h = (tt, (let within : n ≤ 10 ^ 18 = h.1 in omega arith))
fits_by (negsuc n) h = absurd (let above : pos 0 <ℤ negsuc n = h.0 in omega (arith, ints))

pub positive_fits : (v : ℤ) → IsPositive v → T (non_neg (to_z w128 (of_z w128 v))) × Fits w128 (nat_abs (to_z w128 (of_z w128 v)))
positive_fits v h = subst (λ z. T (non_neg z) × Fits w128 (nat_abs z)) (sym (positive_kept v h)) (fits_by v h)

pub positive_same : (v : ℤ) → IsPositive v → pos (nat_abs (to_z w128 (of_z w128 v))) ≡ v
positive_same v h = ap (λ z. pos (nat_abs z)) (positive_kept v h) ∙ pos-nat_abs v (fits_by v h).0
