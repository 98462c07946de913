-- What the words of a whole unit say, by their places in it.
use Rattle.std.proofs.Common.{◌≡◌, ℕ, zero, suc, ◌-◌, ◌<◌, ◌≤◌, ◌==◌, ◌&&◌, Bool, List, [], ◌∷◌, ◌++◌, length, map, take, slice_get, Some, refl, sym, ◌∙◌, ap, subst, arith}
use Rattle.std.specs.Prelude.{◌||◌, nat_lt}
use Rattle.std.proofs.lemmas.List.{append_assoc, length-map, length-take-le, length-append}
use Rattle.def_design.specs.declared.error.DefKind.{DefKind}
use Rattle.def_design.specs.declared.number.Quantity.TheVariants.{Any}
use Rattle.def_design.specs.declared.question.Question.TheVariants as questions
use Rattle.def_design.specs.declared.value.Value.{Value}
use Rattle.def_design.specs.Fault.{LastFault, fault}
use Rattle.def_design.specs.Format.{format}
use Rattle.def_design.specs.Number.{IsNumber}
use Rattle.def_design.specs.Unit.{is_row, is_placed, excepts}
use Rattle.def_design.specs.Question.{asks_of, question_at, question_of}
use Rattle.def_design.specs.inside.Value.{asks_by, SaysAsked, says, said_sort, said_number, first_said, said_begins, said_row, said_placed, said_excepts}
use Rattle.def_statements.specs.declared.section.Section.{Section}
use Rattle.def_statements.specs.declared.section.Section.TheVariants as places
use Rattle.def_statements.specs.declared.sort.Sort.{Sort}
use Rattle.def_statements.specs.declared.sort.Sort.TheVariants as sorts
use Rattle.def_statements.specs.Sort.{the, sort_of}
use Rattle.def_statements.specs.Standing.{section_of}
use Rattle.def_statements.specs.Unit.{begins, text_or, sort_or, text_at, sort_at, last_text}
use Rattle.reading.specs.declared.word.Heard.{Heard}
use Rattle.reading.specs.Grammar.{AreHeard, NoneShows}
use Rattle.reading.specs.Reading.{IsFine}
use Rattle.reading.specs.Word.{Token, heard_token, last_of}

-- ## the first words of a unit

pub last_added : (xs : List Token) (x : Token) → last_of (xs ++ x ∷ []) ≡ Some x
last_added [] x = refl
last_added (y ∷ []) x = refl
last_added (y ∷ z ∷ xs) x = last_added (z ∷ xs) x

pub last_taken : (xs : List Token) (n : ℕ) → n < length xs → last_of (take (suc n) xs) ≡ slice_get xs n
last_taken [] n h = absurd (omega arith)
last_taken (x ∷ xs) zero h = refl
last_taken (x ∷ []) (suc n) h = absurd (omega arith)
last_taken (x ∷ y ∷ xs) (suc n) h = last_taken (y ∷ xs) n (omega arith)

first_taken : (xs : List Token) (n : ℕ) → sort_at 0 (take (suc n) xs) ≡ sort_at 0 xs
first_taken [] n = refl
first_taken (x ∷ xs) n = refl

pub at_taken : (xs : List Token) (n k : ℕ) → k ≤ n → slice_get (take (suc n) xs) k ≡ slice_get xs k
at_taken [] n k h = refl
at_taken (x ∷ xs) n zero h = refl
at_taken (x ∷ xs) zero (suc k) h = absurd (omega arith)
at_taken (x ∷ xs) (suc n) (suc k) h = at_taken xs n k (omega arith)

-- ## what is asked of a word

pub asks_same : (section : Section) (unit : List Token) → asks_of section unit ≡ asks_by section (sort_at 0 unit)
asks_same places.Top unit = refl
asks_same places.Components unit = refl
asks_same section unit = refl

asked_same : (section : Section) (unit : List Token) (n : ℕ) → n < length unit →
    question_of section (take (suc n) unit) ≡ question_at (asks_by section (sort_at 0 unit)) n
asked_same section unit n h =
    let count : length (take (suc n) unit) ≡ suc n = length-take-le (suc n) unit (omega arith) in
    let at : length (take (suc n) unit) - 1 ≡ n = omega (arith, count) in
    ap (λ z. question_at z (length (take (suc n) unit) - 1)) (asks_same section (take (suc n) unit) ∙ ap (λ z. asks_by section z) (first_taken unit n))
    ∙ ap (λ z. question_at (asks_by section (sort_at 0 unit)) z) at

-- ## sorts and numbers

pub sort_heard : (units : List (List Token)) (before : List Token) (unit : List (Heard Value)) (n : ℕ) → AreHeard (says units) before unit →
    said_sort n unit ≡ sort_at n (map heard_token unit)
sort_heard units before [] n h = refl
sort_heard units before (heard ∷ unit) zero h = h.0.sort ∙ ap sort_or (last_added before (heard_token heard))
sort_heard units before (heard ∷ unit) (suc n) h = sort_heard units (before ++ heard_token heard ∷ []) unit n h.1

number_here : (units : List (List Token)) (before : List Token) (unit : List (Heard Value)) (n : ℕ) → n < length unit → AreHeard (says units) before unit →
    SaysAsked (question_of (section_of units) (before ++ take (suc n) (map heard_token unit))) (last_text (before ++ take (suc n) (map heard_token unit))) (said_number n unit)
number_here units before [] n lt h = absurd (omega arith)
number_here units before (heard ∷ unit) zero lt h = h.0.number
number_here units before (heard ∷ unit) (suc n) lt h =
    subst (λ z. SaysAsked (question_of (section_of units) z) (last_text z) (said_number n unit))
    (append_assoc before (heard_token heard ∷ []) (take (suc n) (map heard_token unit)))
    (number_here units (before ++ heard_token heard ∷ []) unit n (omega arith) h.1)

-- The word that has n words before it says what is asked of it.
pub number_heard : (units : List (List Token)) (unit : List (Heard Value)) (n : ℕ) → n < length unit → AreHeard (says units) [] unit →
    SaysAsked (question_at (asks_by (section_of units) (sort_at 0 (map heard_token unit))) n) (text_at n (map heard_token unit)) (said_number n unit)
number_heard units unit n lt h =
    let words = map heard_token unit in
    let count = length-map unit heard_token in
    let near : n < length words = omega (arith, count) in
    subst (λ z. SaysAsked z (text_at n words) (said_number n unit)) (asked_same (section_of units) words n near)
    (subst (λ z. SaysAsked (question_of (section_of units) (take (suc n) words)) z (said_number n unit)) (ap text_or (last_taken words n near))
    (number_here units [] unit n lt h))

-- ## words that show no fault

fine_here : (wiring : Bool) (units : List (List Token)) (before unit : List Token) (n : ℕ) → n < length unit → NoneShows (format wiring) units before unit →
    IsFine (format wiring) units (before ++ take (suc n) unit)
fine_here wiring units before [] n lt h = absurd (omega arith)
fine_here wiring units before (word ∷ unit) zero lt h = h.0
fine_here wiring units before (word ∷ unit) (suc n) lt h =
    subst (λ z. IsFine (format wiring) units z) (append_assoc before (word ∷ []) (take (suc n) unit)) (fine_here wiring units (before ++ word ∷ []) unit n (omega arith) h.1)

shown : (wiring : Bool) (units : List (List Token)) (part : List Token) (kind : DefKind) → 0 < length part →
    LastFault wiring units part (question_of (section_of units) part) kind → fault wiring units part (record { at = length part - 1; kind = kind })
shown wiring units [] kind lt h = absurd (omega arith)
shown wiring units (first ∷ words) kind lt h = (omega arith, h)

-- The word that has n words before it shows no fault by what is asked of it.
pub none_shown : (wiring : Bool) (units : List (List Token)) (unit : List Token) (n : ℕ) → n < length unit → NoneShows (format wiring) units [] unit → (kind : DefKind) →
    LastFault wiring units (take (suc n) unit) (question_at (asks_by (section_of units) (sort_at 0 unit)) n) kind → ⊥
none_shown wiring units unit n lt h kind k =
    let count : length (take (suc n) unit) ≡ suc n = length-take-le (suc n) unit (omega arith) in
    fine_here wiring units [] unit n lt h (record { at = length (take (suc n) unit) - 1; kind = kind })
    (shown wiring units (take (suc n) unit) kind (omega (arith, count))
    (subst (λ z. LastFault wiring units (take (suc n) unit) z kind) (sym (asked_same (section_of units) unit n lt)) k))

-- ## the word that comes next

pub first_heard : (units : List (List Token)) (before : List (Heard Value)) (word : Token) (sort : Sort) → AreHeard (says units) [] before → sort ≡ sort_of word →
    first_said before sort ≡ sort_at 0 (map heard_token before ++ word ∷ [])
first_heard units [] word sort h e = e
first_heard units (heard ∷ before) word sort h e = h.0.sort

-- What is asked of the next word.
pub next_asked : (section : Section) (before : List (Heard Value)) (word : Token) (first : Sort) → first ≡ sort_at 0 (map heard_token before ++ word ∷ []) →
    question_at (asks_by section first) (length before) ≡ question_of section (map heard_token before ++ word ∷ [])
next_asked section before word first starts =
    let unit = map heard_token before ++ word ∷ [] in
    let count = length-append (map heard_token before) (word ∷ []) in
    let same = length-map before heard_token in
    let last : length before ≡ length unit - 1 = omega (arith, count, same) in
    ap (λ z. question_at (asks_by section z) (length before)) starts ∙ ap (λ z. question_at z (length before)) (sym (asks_same section unit)) ∙ ap (λ z. question_at (asks_of section unit) z) last

-- ## what the fault of the next word looks at

front_kept : (xs : List Token) (x : Token) (n : ℕ) → n < length xs → slice_get (xs ++ x ∷ []) n ≡ slice_get xs n
front_kept [] x n h = absurd (omega arith)
front_kept (y ∷ xs) x zero h = refl
front_kept (y ∷ xs) x (suc n) h = front_kept xs x n (omega arith)

-- A word before the next one that is asked for a coordinate is the number that it says.
pub coordinate_heard : (units : List (List Token)) (before : List (Heard Value)) (word : Token) (n : ℕ) → n < length before → AreHeard (says units) [] before →
    question_at (asks_by (section_of units) (sort_at 0 (map heard_token before ++ word ∷ []))) n ≡ questions.Number Any →
    IsNumber Any (text_at n (map heard_token before ++ word ∷ [])) (said_number n before)
coordinate_heard units [] word n lt h asked = absurd (omega arith)
coordinate_heard units (heard ∷ before) word n lt h asked =
    let words = map heard_token (heard ∷ before) in
    let same = length-map (heard ∷ before) heard_token in
    let near : n < length words = omega (arith, same) in
    subst (λ z. IsNumber Any z (said_number n (heard ∷ before))) (sym (ap text_or (front_kept words word n near)))
    (subst (λ z. SaysAsked z (text_at n words) (said_number n (heard ∷ before))) asked (number_heard units (heard ∷ before) n lt h))

-- ## kinds of units

pub begins_heard : (units : List (List Token)) (unit : List (Heard Value)) → AreHeard (says units) [] unit → (word : Sort) (words : ℕ) →
    said_begins word words unit ≡ begins word words (map heard_token unit)
begins_heard units unit h word words =
    ap (λ z. (z == words) && the word (said_sort 0 unit)) (sym (length-map unit heard_token))
    ∙ ap (λ z. (length (map heard_token unit) == words) && the word z) (sort_heard units [] unit 0 h)

pub row_heard : (units : List (List Token)) (unit : List (Heard Value)) → AreHeard (says units) [] unit → said_row unit ≡ is_row (map heard_token unit)
row_heard units unit h =
    ap (λ z. nat_lt 6 z && the sorts.Row (said_sort 0 unit)) (sym (length-map unit heard_token))
    ∙ ap (λ z. nat_lt 6 (length (map heard_token unit)) && the sorts.Row z) (sort_heard units [] unit 0 h)

pub placed_heard : (units : List (List Token)) (unit : List (Heard Value)) → AreHeard (says units) [] unit → said_placed unit ≡ is_placed (map heard_token unit)
placed_heard units unit h =
    ap (λ z. (z == 6) && (the sorts.Placed (said_sort 0 unit) || the sorts.Fixed (said_sort 0 unit))) (sym (length-map unit heard_token))
    ∙ ap (λ z. (length (map heard_token unit) == 6) && (the sorts.Placed z || the sorts.Fixed z)) (sort_heard units [] unit 0 h)

pub excepts_heard : (units : List (List Token)) (unit : List (Heard Value)) → AreHeard (says units) [] unit → said_excepts unit ≡ excepts (map heard_token unit)
excepts_heard units unit h =
    ap (λ z. (z == 1) && (the sorts.ExceptPgNet (said_sort 0 unit) || the sorts.Fills (said_sort 0 unit))) (sym (length-map unit heard_token))
    ∙ ap (λ z. (length (map heard_token unit) == 1) && (the sorts.ExceptPgNet z || the sorts.Fills z)) (sort_heard units [] unit 0 h)
