-- What is heard of the words of a card.
use Rattle.std.proofs.Common.{◌≡◌, ℕ, ◌<◌, ◌≤◌, ◌&&◌, ◌||◌, ℤ, ◌≤ℤ◌, pos, Bool, true, false, if◌then◌else◌, List, [], ◌∷◌, ◌++◌, map, length, get_or, take, drop, take_all, length-drop, ◌-◌, Option, None, Some, Result, Ok, Err, OnOk, refl, sym, ◌∙◌, ap, subst, arith}
use Rattle.std.specs.Prelude.{unsigned_abs, int_lt}
use Rattle.std.specs.Int.Signed.{lt_z}
use Rattle.std.proofs.lemmas.Int.{ints}
use Rattle.std.specs.declared.alloc.AllocError.{AllocError}
use Rattle.number_place.specs.declared.place.NumberPlace.{NumberPlace}
use Rattle.number_place.specs.declared.place.Refused.{Refused}
use Rattle.number_place.specs.Place.{IsNumberAt}
use Rattle.reading.specs.declared.refusal.Found.{Found}
use Rattle.reading.specs.declared.word.Form.TheVariants.{Bare}
use Rattle.reading.specs.declared.word.Heard.{Heard}
use Rattle.reading.specs.Fault.{FindsValue, told_at}
use Rattle.reading.specs.Grammar.{AreHeard, Tells}
use Rattle.reading.specs.Word.{Token, heard_token}
use Rattle.spice_cards.specs.declared.error.CardsKind.{CardsKind}
use Rattle.spice_cards.specs.declared.error.CardsKind.TheVariants as kinds
use Rattle.spice_cards.specs.declared.sort.Sort.{Sort}
use Rattle.spice_cards.specs.declared.sort.Sort.TheVariants as sorts
use Rattle.spice_cards.specs.declared.value.Value.{Value}
use Rattle.spice_cards.specs.declared.value.Value.TheVariants.{First, Dc, Small}
use Rattle.spice_cards.specs.Sort.{sort_of, the}
use Rattle.spice_cards.specs.declared.record.Cards.{Cards}
use Rattle.spice_cards.specs.Record.{IsRange}
use Rattle.spice_cards.specs.inside.Held.{AddsUnit}
use Rattle.spice_cards.specs.Card.{Card, is_ground, without_dc, value_at, resistor_with, source_with, load_with, capacitor_with, card_with, card_of}
use Rattle.spice_cards.specs.Fault.{is_zero, refused_kind, refused_by, floating_by, source_by, low_by, high_by, AnswerFault, EndFault, ResistorFault, SourceFault, LoadFault, CapacitorFault, CardFault, fault}
use Rattle.spice_cards.specs.Format.{format}
use Rattle.spice_cards.specs.Number.{volts, amperes}
use Rattle.spice_cards.specs.inside.Value.{letter_of, says_dc, small_of, IsWide, IsFloating, IsVolts, IsLow, IsHigh, SaysOhms, SaysVolts, SaysAmperes, SaysFarads, SaysDc, SaysAfterDc, SaysWord, says, has_none, heard_without_dc, heard_value_at}
use Rattle.spice_cards.proofs.Faults.{HasOne}
use Rattle.spice_cards.proofs.Ranges.{not_less}

-- The default of the accesses to a unit.
abbrev pub no_word : Heard Value
no_word = record { word = record { text = record { ref_ptr = (0, 0); now = [] }; place = record { line = 0; word = 0 }; form = Bare }; value = First sorts.Resistor }

-- ## numbers

-- There is only this answer.
abbrev pub IsOnly : NumberPlace → List ℕ → Result ℤ Refused → Type 0
IsOnly place text answer = (other : Result ℤ Refused) → IsNumberAt place text other → other ≡ answer

no_kind : (kind : CardsKind) → ◌≡◌ {A = Option CardsKind} None (Some kind) → ⊥
no_kind kind h = cc

-- An answer by which no kind is told shows no fault.
pub none_told : (place : NumberPlace) (by : Result ℤ Refused → Option CardsKind) (text : List ℕ) (answer : Result ℤ Refused) → IsOnly place text answer → by answer ≡ None →
    (kind : CardsKind) → AnswerFault place by text kind → ⊥
none_told place by text answer only none kind h = no_kind kind (sym none ∙ ap by (sym (only h.0 h.1)) ∙ h.2)

-- The same of an end of a range.
pub end_fine : HasOne → (by : Result ℤ Refused → Result ℤ Refused → Option CardsKind) (value text : List ℕ) (v w : ℤ) → IsNumberAt amperes value (Ok v) → IsNumberAt amperes text (Ok w) →
    by (Ok v) (Ok w) ≡ None → (kind : CardsKind) → EndFault by value text kind → ⊥
end_fine one by value text v w is_v is_w none kind h =
    no_kind kind (sym none ∙ ap (λ z. by z (Ok w)) (one amperes value (Ok v) h.0 is_v h.2) ∙ ap (λ z. by h.0 z) (one amperes text (Ok w) h.1 is_w h.3) ∙ h.4)

pub ok_is : (v w : ℤ) → ◌≡◌ {A = Result ℤ Refused} (Ok v) (Ok w) → v ≡ w
ok_is v w h = cc

-- ## DC

dc_more : (word : Token) (words : List (Heard Value)) (last : Token) (said : Value) → SaysDc (word ∷ (map heard_token words ++ last ∷ [])) said
dc_more word [] last said = tt
dc_more word (x ∷ words) last said = tt

pushed : (is : Bool) (x : Heard Value) (words : List (Heard Value)) (last : Token) →
    map heard_token (if is then words else x ∷ words) ++ last ∷ [] ≡ (if is then (map heard_token words ++ last ∷ []) else heard_token x ∷ (map heard_token words ++ last ∷ []))
pushed true x words last = refl
pushed false x words last = refl

-- The count of words and the words without `DC`, where one more word comes.
first_at : (words : List (Heard Value)) (last : Token) → AreHeard SaysDc [] words → (has_none words && the sorts.Dc (sort_of last)) ≡ false →
    heard_value_at words ≡ value_at (map heard_token words ++ last ∷ [])
first_at [] last h none = sym (ap (λ z. if z then 4 else 3) none)
first_at (x ∷ words) last h none = ap (λ z. if z then 4 else 3) h.0

words_at : (words : List (Heard Value)) (last : Token) → AreHeard SaysDc [] words → (has_none words && the sorts.Dc (sort_of last)) ≡ false →
    map heard_token (heard_without_dc words) ++ last ∷ [] ≡ without_dc (map heard_token words ++ last ∷ [])
words_at [] last h none = sym (ap (λ z. if z then [] else last ∷ []) none)
words_at (x ∷ words) last h none =
    pushed (says_dc x.value) x words last
    ∙ ap (λ z. if z then (map heard_token words ++ last ∷ []) else heard_token x ∷ (map heard_token words ++ last ∷ [])) h.0

dc_heard : (tells : List Token → Value → Type 0) (front : List Token) (words : List (Heard Value)) → AreHeard (SaysAfterDc tells) front words → AreHeard SaysDc front words
dc_heard tells front [] h = tt
dc_heard tells front (x ∷ words) h = (h.0.0, dc_heard tells (front ++ heard_token x ∷ []) words h.1)

not_dc : (tells : List Token → Value → Type 0) (words : List (Heard Value)) (last : Token) (said : Value) → ((word : Token) (v : Value) → tells (word ∷ []) v → says_dc v ≡ false) →
    (has_none words && the sorts.Dc (sort_of last)) ≡ false → tells (map heard_token (heard_without_dc words) ++ last ∷ []) said → SaysDc (map heard_token words ++ last ∷ []) said
not_dc tells [] last said plain none h = plain last said h ∙ sym none
not_dc tells (x ∷ words) last said plain none h = dc_more (heard_token x) words last said

-- What is found of a word, `DC` aside, is what is found of it.
pub found_after_dc : (shows : ℕ → List Token → Found CardsKind → Type 0) (tells : List Token → Value → Type 0) (words : List (Heard Value)) (last : Token) (result : Result Value (Found CardsKind)) →
    ((word : Token) (v : Value) → tells (word ∷ []) v → says_dc v ≡ false) → AreHeard (SaysAfterDc tells) [] words → (has_none words && the sorts.Dc (sort_of last)) ≡ false →
    FindsValue (shows (heard_value_at words) (map heard_token (heard_without_dc words) ++ last ∷ [])) (tells (map heard_token (heard_without_dc words) ++ last ∷ [])) result →
    FindsValue (shows (value_at (map heard_token words ++ last ∷ [])) (without_dc (map heard_token words ++ last ∷ []))) (SaysAfterDc tells (map heard_token words ++ last ∷ [])) result
found_after_dc shows tells words last (Ok said) plain heard none h =
    let dc = dc_heard tells [] words heard in
    let at = first_at words last dc none in
    let same = words_at words last dc none in (
      (λ found k. h.0 found (subst (λ z. shows z (map heard_token (heard_without_dc words) ++ last ∷ []) found) (sym at)
          (subst (λ z. shows (value_at (map heard_token words ++ last ∷ [])) z found) (sym same) k))),
      (not_dc tells words last said plain none h.1, subst (λ z. tells z said) same h.1),
    )
found_after_dc shows tells words last (Err found) plain heard none h =
    let dc = dc_heard tells [] words heard in
    subst (λ z. shows (value_at (map heard_token words ++ last ∷ [])) z found) (words_at words last dc none)
    (subst (λ z. shows z (map heard_token (heard_without_dc words) ++ last ∷ []) found) (first_at words last dc none) h)

both_true : (a b : Bool) → (a && b) ≡ true → (a ≡ true) × (b ≡ true)
both_true true true h = (refl, refl)
both_true true false h = (refl, h)
both_true false b h = absurd (let t : false ≡ true = h in cc)

dc_alone : (words : List (Heard Value)) → has_none words ≡ true → words ≡ []
dc_alone [] h = refl
dc_alone (x ∷ words) h = absurd (let t : false ≡ true = h in cc)

-- `DC` itself shows no fault.
dc_shows : (shows : ℕ → List Token → Found CardsKind → Type 0) (tells : List Token → Value → Type 0) (last : Token) (said : Value) → ((at : ℕ) (found : Found CardsKind) → shows at [] found → ⊥) → ((v : Value) → tells [] v) →
    says_dc said ≡ true → the sorts.Dc (sort_of last) ≡ true → FindsValue (shows (value_at (last ∷ [])) (without_dc (last ∷ []))) (SaysAfterDc tells (last ∷ [])) (Ok said)
dc_shows shows tells last said fine nothing is dc =
    let gone : without_dc (last ∷ []) ≡ [] = ap (λ z. if z then [] else last ∷ []) dc in (
      (λ found k. fine (value_at (last ∷ [])) found (subst (λ z. shows (value_at (last ∷ [])) z found) gone k)),
      (is ∙ sym dc, subst (λ z. tells z said) (sym gone) (nothing said)),
    )

pub dc_found : (shows : ℕ → List Token → Found CardsKind → Type 0) (tells : List Token → Value → Type 0) (words : List (Heard Value)) (last : Token) → ((at : ℕ) (found : Found CardsKind) → shows at [] found → ⊥) → ((v : Value) → tells [] v) →
    (has_none words && the sorts.Dc (sort_of last)) ≡ true →
    FindsValue (shows (value_at (map heard_token words ++ last ∷ [])) (without_dc (map heard_token words ++ last ∷ []))) (SaysAfterDc tells (map heard_token words ++ last ∷ [])) (Ok Dc)
dc_found shows tells words last fine nothing dc =
    let both = both_true (has_none words) (the sorts.Dc (sort_of last)) dc in
    subst (λ z. FindsValue (shows (value_at (map heard_token z ++ last ∷ [])) (without_dc (map heard_token z ++ last ∷ []))) (SaysAfterDc tells (map heard_token z ++ last ∷ [])) (Ok Dc)) (sym (dc_alone words both.0))
    (dc_shows shows tells last Dc fine nothing refl both.1)

after_dc : (tells : List Token → Value → Type 0) (dc : Token) (front : List Token) (words : List (Heard Value)) → the sorts.Dc (sort_of dc) ≡ true → AreHeard (SaysAfterDc tells) (dc ∷ front) words → AreHeard tells front words
after_dc tells dc front [] e h = tt
after_dc tells dc front (x ∷ words) e h =
    (subst (λ z. tells z x.value) (ap (λ z. if z then (front ++ heard_token x ∷ []) else dc ∷ (front ++ heard_token x ∷ [])) e) h.0.1, after_dc tells dc (front ++ heard_token x ∷ []) words e h.1)

after_none : (tells : List Token → Value → Type 0) (first : Token) (front : List Token) (words : List (Heard Value)) → the sorts.Dc (sort_of first) ≡ false → AreHeard (SaysAfterDc tells) (first ∷ front) words → AreHeard tells (first ∷ front) words
after_none tells first front [] e h = tt
after_none tells first front (x ∷ words) e h =
    (subst (λ z. tells z x.value) (ap (λ z. if z then (front ++ heard_token x ∷ []) else first ∷ (front ++ heard_token x ∷ [])) e) h.0.1, after_none tells first (front ++ heard_token x ∷ []) words e h.1)

heard_by : (tells : List Token → Value → Type 0) (x : Heard Value) (words : List (Heard Value)) (is : Bool) → the sorts.Dc (sort_of (heard_token x)) ≡ is → AreHeard (SaysAfterDc tells) [] (x ∷ words) →
    AreHeard tells [] (if is then words else x ∷ words)
heard_by tells x words true e h = after_dc tells (heard_token x) [] words e h.1
heard_by tells x words false e h =
    (subst (λ z. tells z x.value) (ap (λ z. if z then [] else heard_token x ∷ []) e) h.0.1, after_none tells (heard_token x) [] words e h.1)

-- What is heard of the words without `DC`.
pub heard_after_dc : (tells : List Token → Value → Type 0) (words : List (Heard Value)) → AreHeard (SaysAfterDc tells) [] words → AreHeard tells [] (heard_without_dc words)
heard_after_dc tells [] h = tt
heard_after_dc tells (x ∷ words) h = heard_by tells x words (says_dc x.value) (sym h.0.0) h

map_by : (is : Bool) (x : Heard Value) (words : List (Heard Value)) → map heard_token (if is then words else x ∷ words) ≡ (if is then map heard_token words else heard_token x ∷ map heard_token words)
map_by true x words = refl
map_by false x words = refl

-- They are those of the unit without `DC`.
pub same_after_dc : (tells : List Token → Value → Type 0) (words : List (Heard Value)) → AreHeard (SaysAfterDc tells) [] words → map heard_token (heard_without_dc words) ≡ without_dc (map heard_token words)
same_after_dc tells [] h = refl
same_after_dc tells (x ∷ words) h =
    map_by (says_dc x.value) x words ∙ ap (λ z. if z then map heard_token words else heard_token x ∷ map heard_token words) h.0.0

-- ## other numbers of words

pub no_ohms : (words : List (Heard Value)) (last : Token) (v : Value) → 1 ≤ length words → FindsValue (ResistorFault (map heard_token words ++ last ∷ [])) (SaysOhms (map heard_token words ++ last ∷ [])) (Ok v)
no_ohms [] last v h = absurd (omega arith)
no_ohms (x ∷ []) last v h = ((λ found k. k), tt)
no_ohms (x ∷ y ∷ words) last v h = ((λ found k. k), tt)

pub no_farads : (words : List (Heard Value)) (last : Token) (v : Value) → 1 ≤ length words → FindsValue (CapacitorFault (map heard_token words ++ last ∷ [])) (SaysFarads (map heard_token words ++ last ∷ [])) (Ok v)
no_farads [] last v h = absurd (omega arith)
no_farads (x ∷ []) last v h = ((λ found k. k), tt)
no_farads (x ∷ y ∷ words) last v h = ((λ found k. k), tt)

pub no_volts : (a b : List ℕ) (at : ℕ) (words : List (Heard Value)) (last : Token) (v : Value) → 1 ≤ length words →
    FindsValue (SourceFault a b at (map heard_token words ++ last ∷ [])) (SaysVolts a b (map heard_token words ++ last ∷ [])) (Ok v)
no_volts a b at [] last v h = absurd (omega arith)
no_volts a b at (x ∷ []) last v h = ((λ found k. k), tt)
no_volts a b at (x ∷ y ∷ words) last v h = ((λ found k. k), tt)

pub no_amperes : (at : ℕ) (words : List (Heard Value)) (last : Token) (v : Value) → (length words ≡ 0 → ⊥) → (length words ≡ 2 → ⊥) → (length words ≡ 3 → ⊥) →
    FindsValue (LoadFault at (map heard_token words ++ last ∷ [])) (SaysAmperes (map heard_token words ++ last ∷ [])) (Ok v)
no_amperes at [] last v none two three = absurd (none refl)
no_amperes at (x ∷ []) last v none two three = ((λ found k. k), tt)
no_amperes at (x ∷ y ∷ []) last v none two three = absurd (two refl)
no_amperes at (x ∷ y ∷ z ∷ []) last v none two three = absurd (three refl)
no_amperes at (x ∷ y ∷ z ∷ w ∷ []) last v none two three = ((λ found k. k), tt)
no_amperes at (x ∷ y ∷ z ∷ w ∷ u ∷ words) last v none two three = ((λ found k. k), tt)

-- The word after the nodes of a card of another letter says nothing.
other_word : (letter : Sort) (a b : List ℕ) (v : Value) → FindsValue (CardFault letter a b []) (SaysWord letter a b []) (Ok v)
other_word sorts.Resistor a b v = ((λ found k. k), tt)
other_word sorts.Source a b v = ((λ found k. k), (tt, tt))
other_word sorts.Load a b v = ((λ found k. k), (tt, tt))
other_word sorts.Capacitor a b v = ((λ found k. k), tt)
other_word letter a b v = ((λ found k. k), tt)

-- The nodes of a card say nothing.
pub node_told : (units : List (List Token)) (words : List (Heard Value)) (last : Token) (v : Value) → 1 ≤ length words → length words < 3 →
    Tells format says units (map heard_token words ++ last ∷ []) (Ok v)
node_told units [] last v h k = absurd (omega arith)
node_told units (x ∷ []) last v h k = ((λ found f. f), tt)
node_told units (x ∷ y ∷ []) last v h k = other_word (sort_of (heard_token x)) y.word.text.now last.text v
node_told units (x ∷ y ∷ z ∷ words) last v h k = absurd (omega arith)

-- What is found of a unit's words is what they tell.
pub found_told : (units : List (List Token)) (part : List Token) (result : Result Value (Found CardsKind)) → FindsValue (fault units part) (says part) result → Tells format says units part result
found_told units part (Ok v) h = h
found_told units part (Err found) h = h

-- What is told at a word, where all faults of the words stand there.
pub found_at : (shows : Found CardsKind → Type 0) (tells : Value → Type 0) (n : ℕ) (kinds : CardsKind → Type 0) (says_kind : Value → Type 0) (result : Result Value CardsKind) →
    ((found : Found CardsKind) → shows found → (found.at ≡ n) × kinds found.kind) → ((kind : CardsKind) → kinds kind → shows (record { at = n; kind = kind })) → ((v : Value) → says_kind v → tells v) →
    FindsValue kinds says_kind result → FindsValue shows tells (told_at n result)
found_at shows tells n kinds says_kind (Ok v) there back value h = ((λ found k. h.0 found.kind (there found k).1), value v h.1)
found_at shows tells n kinds says_kind (Err kind) there back value h = back kind h

-- The words after the nodes of a card.
pub heard_words : (first a b : Token) (front : List Token) (words : List (Heard Value)) → AreHeard says (first ∷ a ∷ b ∷ front) words → AreHeard (SaysWord (sort_of first) a.text b.text) front words
heard_words first a b front [] h = tt
heard_words first a b front (x ∷ words) h = (h.0, heard_words first a b (front ++ heard_token x ∷ []) words h.1)

-- ## units that are taken

pub on_ok : (A B : Type 0) (result : Result (Unit {0}) AllocError) → (A → B) → OnOk result A → OnOk result B
on_ok A B (Ok x) f h = f h
on_ok A B (Err e) f h = tt

pub none_adds : (found : Option Card) (cards : Cards) → found ≡ None → AddsUnit found cards cards
none_adds found cards e = subst (λ z. AddsUnit z cards cards) (sym e) refl

pub no_resistor : (a b : List ℕ) (words : List Token) → (length words ≡ 2 → ⊥) → resistor_with a b words ≡ None
no_resistor a b [] h = refl
no_resistor a b (x ∷ []) h = refl
no_resistor a b (x ∷ y ∷ []) h = absurd (h refl)
no_resistor a b (x ∷ y ∷ z ∷ words) h = refl

pub no_source : (a b : List ℕ) (words : List Token) → (length words ≡ 2 → ⊥) → source_with a b words ≡ None
no_source a b [] h = refl
no_source a b (x ∷ []) h = refl
no_source a b (x ∷ y ∷ []) h = absurd (h refl)
no_source a b (x ∷ y ∷ z ∷ words) h = refl

pub no_capacitor : (a b : List ℕ) (words : List Token) → (length words ≡ 2 → ⊥) → capacitor_with a b words ≡ None
no_capacitor a b [] h = refl
no_capacitor a b (x ∷ []) h = refl
no_capacitor a b (x ∷ y ∷ []) h = absurd (h refl)
no_capacitor a b (x ∷ y ∷ z ∷ words) h = refl

pub no_load : (a b : List ℕ) (words : List Token) → (length words ≡ 2 → ⊥) → (length words ≡ 5 → ⊥) → load_with a b words ≡ None
no_load a b [] two five = refl
no_load a b (x ∷ []) two five = refl
no_load a b (x ∷ y ∷ []) two five = absurd (two refl)
no_load a b (x ∷ y ∷ z ∷ []) two five = refl
no_load a b (x ∷ y ∷ z ∷ w ∷ []) two five = refl
no_load a b (x ∷ y ∷ z ∷ w ∷ u ∷ []) two five = absurd (five refl)
no_load a b (x ∷ y ∷ z ∷ w ∷ u ∷ t ∷ words) two five = refl

pub no_card : (words : List Token) → length words < 3 → card_of words ≡ None
no_card [] h = refl
no_card (x ∷ []) h = refl
no_card (x ∷ y ∷ []) h = refl
no_card (x ∷ y ∷ z ∷ words) h = absurd (omega arith)

-- ## sources between two nodes other than `0`

pub floats_zero : (v kept : ℤ) (zero : Bool) → kept ≡ v → zero ≡ is_zero kept → zero ≡ true → floating_by (Ok v) ≡ None
floats_zero v kept zero same e is = ap (λ z. if z then None else Some kinds.FloatingSource) (ap is_zero (sym same) ∙ sym e ∙ is)

pub floats : (v kept : ℤ) (zero : Bool) → kept ≡ v → zero ≡ is_zero kept → zero ≡ false → floating_by (Ok v) ≡ Some kinds.FloatingSource
floats v kept zero same e is = ap (λ z. if z then None else Some kinds.FloatingSource) (ap is_zero (sym same) ∙ sym e ∙ is)

abs_zero : (v : ℤ) → unsigned_abs v ≡ 0 → v ≡ pos 0
abs_zero v h = omega (arith, ints)

pub zero_is : (v : ℤ) → is_zero v ≡ true → v ≡ pos 0
zero_is v h = abs_zero v (grind (arith, h))

-- The answer by which a source's value is refused.
pub source_on : (a b : List ℕ) (by : Result ℤ Refused → Option CardsKind) (text : List ℕ) (told : Value → Type 0) (result : Result Value CardsKind) → ((answer : Result ℤ Refused) → source_by a b answer ≡ by answer) →
    ((v : Value) → told v → IsVolts a b text v) → FindsValue (AnswerFault volts by text) told result → FindsValue (AnswerFault volts (source_by a b) text) (IsVolts a b text) result
source_on a b by text told (Ok v) same tells h = ((λ kind k. h.0 kind (k.0, k.1, sym (same k.0) ∙ k.2)), tells v h.1)
source_on a b by text told (Err kind) same tells h = (h.0, h.1, same h.0 ∙ h.2)

grounded_by : (on : Bool) (answer : Result ℤ Refused) → on ≡ true → (if on then refused_by answer else floating_by answer) ≡ refused_by answer
grounded_by on answer h = ap (λ z. if z then refused_by answer else floating_by answer) h

not_grounded_by : (on : Bool) (answer : Result ℤ Refused) → on ≡ false → (if on then refused_by answer else floating_by answer) ≡ floating_by answer
not_grounded_by on answer h = ap (λ z. if z then refused_by answer else floating_by answer) h

-- A source with a node that is `0`.
pub grounded_found : (a b text : List ℕ) (result : Result Value CardsKind) → (is_ground a || is_ground b) ≡ true → FindsValue (AnswerFault volts refused_by text) (IsWide volts text) result →
    FindsValue (AnswerFault volts (source_by a b) text) (IsVolts a b text) result
grounded_found a b text result on h =
    source_on a b refused_by text (IsWide volts text) result (λ answer. grounded_by (is_ground a || is_ground b) answer on)
    (λ v is. (is, (λ off. absurd (let t : true ≡ false = sym on ∙ off in cc)))) h

-- A source between two others.
pub floating_found : (a b text : List ℕ) (result : Result Value CardsKind) → (is_ground a || is_ground b) ≡ false → FindsValue (AnswerFault volts floating_by text) (IsFloating text) result →
    FindsValue (AnswerFault volts (source_by a b) text) (IsVolts a b text) result
floating_found a b text result off h =
    source_on a b floating_by text (IsFloating text) result (λ answer. not_grounded_by (is_ground a || is_ground b) answer off)
    (λ v is. (is.0, (λ z. is.1))) h

-- ## ranges

below_same : (a b kept_a kept_b : ℤ) (is : Bool) → kept_a ≡ a → kept_b ≡ b → lt_z kept_a kept_b ≡ is → int_lt a b ≡ is
below_same a b kept_a kept_b is same_a same_b h = ap (λ z. int_lt z b) (sym same_a) ∙ ap (λ z. int_lt kept_a z) (sym same_b) ∙ h

outside_by : (a b kept_a kept_b : ℤ) (is : Bool) → kept_a ≡ a → kept_b ≡ b → lt_z kept_a kept_b ≡ is →
    (if int_lt a b then Some kinds.OutOfRange else None) ≡ (if is then Some kinds.OutOfRange else None)
outside_by a b kept_a kept_b is same_a same_b h = ap (λ z. if z then Some kinds.OutOfRange else None) (below_same a b kept_a kept_b is same_a same_b h)

-- The value that a load has is the one that was heard.
value_is : HasOne → (value : List ℕ) (v w : ℤ) → IsNumberAt amperes value (Ok v) → IsNumberAt amperes value (Ok w) → v ≡ w
value_is one value v w is_v is_w = ok_is v w (one amperes value (Ok v) (Ok w) is_v is_w)

pub low_found : HasOne → (value text : List ℕ) (v low kept : ℤ) → IsNumberAt amperes value (Ok v) → IsNumberAt amperes text (Ok low) → kept ≡ low → lt_z v kept ≡ false →
    FindsValue (EndFault low_by value text) (IsLow value text) (Ok (Small kept))
low_found one value text v low kept is_v is_low same less = (
  end_fine one low_by value text v low is_v is_low (outside_by v low v kept false refl same less),
  ((subst (λ z. IsNumberAt amperes text (Ok z)) (sym same) is_low, refl), (λ w is_w. subst (λ z. kept ≤ℤ z) (value_is one value v w is_v is_w) (not_less v kept v kept refl refl less))),
)

pub low_above : (value text : List ℕ) (v low kept : ℤ) → IsNumberAt amperes value (Ok v) → IsNumberAt amperes text (Ok low) → kept ≡ low → lt_z v kept ≡ true → EndFault low_by value text kinds.OutOfRange
low_above value text v low kept is_v is_low same less = (Ok v, Ok low, is_v, is_low, outside_by v low v kept true refl same less)

pub low_refused : (value text : List ℕ) (v : ℤ) (refused : Refused) → IsNumberAt amperes value (Ok v) → IsNumberAt amperes text (Err refused) → EndFault low_by value text (refused_kind refused)
low_refused value text v refused is_v is = (Ok v, Err refused, is_v, is, refl)

pub high_found : HasOne → (value text : List ℕ) (v high kept : ℤ) → IsNumberAt amperes value (Ok v) → IsNumberAt amperes text (Ok high) → kept ≡ high → lt_z kept v ≡ false →
    FindsValue (EndFault high_by value text) (IsHigh value text) (Ok (Small kept))
high_found one value text v high kept is_v is_high same less = (
  end_fine one high_by value text v high is_v is_high (outside_by high v kept v false same refl less),
  ((subst (λ z. IsNumberAt amperes text (Ok z)) (sym same) is_high, refl), (λ w is_w. subst (λ z. z ≤ℤ kept) (value_is one value v w is_v is_w) (not_less kept v kept v refl refl less))),
)

pub high_below : (value text : List ℕ) (v high kept : ℤ) → IsNumberAt amperes value (Ok v) → IsNumberAt amperes text (Ok high) → kept ≡ high → lt_z kept v ≡ true → EndFault high_by value text kinds.OutOfRange
high_below value text v high kept is_v is_high same less = (Ok v, Ok high, is_v, is_high, outside_by high v kept v true same refl less)

pub high_refused : (value text : List ℕ) (v : ℤ) (refused : Refused) → IsNumberAt amperes value (Ok v) → IsNumberAt amperes text (Err refused) → EndFault high_by value text (refused_kind refused)
high_refused value text v refused is_v is = (Ok v, Err refused, is_v, is, refl)

-- The range that was heard, as the machine keeps it.
pub range_heard : (value low high : List ℕ) (v : ℤ) (said_low said_high : Value) (kept_low kept_high : ℤ) → kept_low ≡ small_of said_low → kept_high ≡ small_of said_high → IsNumberAt amperes value (Ok v) →
    IsLow value low said_low → IsHigh value high said_high → IsRange (Some (record { low = low; high = high })) v kept_low kept_high
range_heard value low high v said_low said_high kept_low kept_high low_same high_same is is_low is_high = (
  subst (λ z. IsNumberAt amperes low (Ok z)) (sym low_same) is_low.0.0,
  subst (λ z. IsNumberAt amperes high (Ok z)) (sym high_same) is_high.0.0,
  subst (λ z. z ≤ℤ v) (sym low_same) (is_low.1 v is),
  subst (λ z. v ≤ℤ z) (sym high_same) (is_high.1 v is),
)

-- A card's first word, its nodes, and the words after them.
pub three_more : (xs : List (Heard Value)) → 3 ≤ length xs → xs ≡ get_or xs 0 no_word ∷ get_or xs 1 no_word ∷ get_or xs 2 no_word ∷ drop 3 xs
three_more [] h = absurd (omega arith)
three_more (x ∷ []) h = absurd (omega arith)
three_more (x ∷ y ∷ []) h = absurd (omega arith)
three_more (x ∷ y ∷ z ∷ xs) h = refl

-- All from the third word on, as a slice has it.
pub rest_is : (n : ℕ) (xs : List (Heard Value)) → take (length xs - n) (drop n xs) ≡ drop n xs
rest_is n xs = take_all (length xs - n) (drop n xs) (omega (arith, length-drop n xs))

-- A whole unit whose first word was heard as this letter.
pub unit_adds : (first a b : Heard Value) (words left : List (Heard Value)) (letter : Sort) (old new : Cards) → left ≡ words → letter ≡ letter_of first.value →
    AreHeard says [] (first ∷ a ∷ b ∷ words) → (AreHeard (SaysWord letter a.word.text.now b.word.text.now) [] left → AddsUnit (card_with letter a.word.text.now b.word.text.now (map heard_token left)) old new) →
    AddsUnit (card_of (map heard_token (first ∷ a ∷ b ∷ words))) old new
unit_adds first a b words left letter old new same is heard adds =
    let x = a.word.text.now in
    let y = b.word.text.now in
    let begun : letter ≡ sort_of (heard_token first) = is ∙ heard.0 in
    let said = heard_words (heard_token first) (heard_token a) (heard_token b) [] words heard.1.1.1 in
    subst (λ z. AddsUnit (card_with z x y (map heard_token words)) old new) begun
    (subst (λ z. AddsUnit (card_with letter x y (map heard_token z)) old new) same
    (adds (subst (λ z. AreHeard (SaysWord letter x y) [] z) (sym same) (subst (λ z. AreHeard (SaysWord z x y) [] words) (sym begun) said))))

-- What is found of a word after the nodes of a card whose first word was heard as this letter.
pub card_found : (units : List (List Token)) (first a b : Heard Value) (words left : List (Heard Value)) (letter : Sort) (last : Token) (result : Result Value (Found CardsKind)) → left ≡ words → letter ≡ letter_of first.value →
    AreHeard says [] (first ∷ a ∷ b ∷ words) →
    (AreHeard (SaysWord letter a.word.text.now b.word.text.now) [] left → FindsValue (CardFault letter a.word.text.now b.word.text.now (map heard_token left ++ last ∷ [])) (SaysWord letter a.word.text.now b.word.text.now (map heard_token left ++ last ∷ [])) result) →
    Tells format says units (map heard_token (first ∷ a ∷ b ∷ words) ++ last ∷ []) result
card_found units first a b words left letter last result same is heard finds =
    let x = a.word.text.now in
    let y = b.word.text.now in
    let begun : letter ≡ sort_of (heard_token first) = is ∙ heard.0 in
    let said = heard_words (heard_token first) (heard_token a) (heard_token b) [] words heard.1.1.1 in
    found_told units (map heard_token (first ∷ a ∷ b ∷ words) ++ last ∷ []) result
    (subst (λ z. FindsValue (CardFault z x y (map heard_token words ++ last ∷ [])) (SaysWord z x y (map heard_token words ++ last ∷ [])) result) begun
    (subst (λ z. FindsValue (CardFault letter x y (map heard_token z ++ last ∷ [])) (SaysWord letter x y (map heard_token z ++ last ∷ [])) result) same
    (finds (subst (λ z. AreHeard (SaysWord letter x y) [] z) (sym same) (subst (λ z. AreHeard (SaysWord z x y) [] words) (sym begun) said)))))
