-- One more line.
use Rattle.std.proofs.Common.{◌≡◌, ℕ, zero, suc, ◌<◌, ◌≤◌, ◌^◌, ℤ, ◌≤ℤ◌, Bool, true, false, List, [], ◌∷◌, ◌++◌, length, map, get_or, Contains, AllPairs, Option, Some, None, Result, Ok, Err, OnOk, inl, inr, refl, sym, ◌∙◌, ap, subst, arith}
use Rattle.std.specs.Prelude.{unsigned_abs}
use native.Mathlib.Decide.{dec_le}
use Rattle.std.proofs.lemmas.Int.{ints}
use Rattle.std.proofs.lemmas.List.{map_push}
use Rattle.std.proofs.lemmas.List.Quantifiers.{all_pairs_push}
use Rattle.std.specs.declared.alloc.AllocError.{AllocError}
use Rattle.entry_list.specs.Laws.{turn-added, turn-kept}
use Rattle.number_place.specs.Place.{IsNumberAt}
use Rattle.reading.specs.declared.word.Heard.{Heard}
use Rattle.reading.specs.declared.word.Form.TheVariants.{Bare}
use Rattle.reading.specs.Grammar.{AreHeard, IsTaken, NoneShows}
use Rattle.reading.specs.Pattern.{Pattern, One, Then, Or, Matches}
use Rattle.reading.specs.Reading.{IsFine}
use Rattle.reading.specs.Word.{Token, heard_token}
use Rattle.wave_file.specs.declared.error.WavesKind.TheVariants.{Falling, Twice}
use Rattle.wave_file.specs.declared.groups.Groups.{Groups}
use Rattle.wave_file.specs.declared.held.Held.{Held}
use Rattle.wave_file.specs.declared.record.Change.{Change}
use Rattle.wave_file.specs.declared.section.Section.TheVariants.{Lines}
use Rattle.wave_file.specs.declared.sort.Sort.{Sort}
use Rattle.wave_file.specs.declared.sort.Sort.TheVariants.{At}
use Rattle.wave_file.specs.declared.value.Value.{Value}
use Rattle.wave_file.specs.declared.value.Value.TheVariants.{Step}
use Rattle.wave_file.specs.Sort.{sort_of, the}
use Rattle.wave_file.specs.Rule.{is_line, step_on, name_on, is_word, is_number, is_end, word, number, end, pattern}
use Rattle.wave_file.specs.Number.{amperes, IsStep}
use Rattle.wave_file.specs.Record.{SaysChange}
use Rattle.wave_file.specs.Fault.{FallsBelow, IsTwice}
use Rattle.wave_file.specs.Format.{format}
use Rattle.wave_file.specs.inside.Held.{Holds, FindsChange, spot_of}
use Rattle.wave_file.specs.inside.Value.{SaysAmps, SaysHigh, step_of, node_of, amps_of, says}
use Rattle.wave_file.proofs.Lines.{last_change, falls_if, twice_if, placed, says_step, says_place}

-- ## units by the number of their words

abbrev pub no_word : Heard Value
no_word = record { word = record { text = record { ref_ptr = (0, 0); now = [] }; place = record { line = 0; word = 0 }; form = Bare }; value = Step 0 }

-- ## steps that do not fall

abbrev pub Rises : Change → Change → Type 0
Rises a b = a.step ≤ b.step

rest_rises : (x : Change) (xs : List Change) → AllPairs Rises (x ∷ xs) → AllPairs Rises xs
rest_rises x xs up i j d below within = up (suc i) (suc j) d (omega arith) (omega arith)

change_is : (x y : Change) → Some x ≡ Some y → x ≡ y
change_is x y e = cc

to_last : (xs : List Change) (x : Change) (i : ℕ) (d : Change) → i < length xs → AllPairs Rises xs → last_change xs ≡ Some x → Rises (get_or xs i d) x
to_last [] x i d within up e = absurd (omega arith)
to_last (y ∷ []) x zero d within up e = let same = ap (λ (z : Change). z.step) (change_is y x e) in omega arith
to_last (y ∷ []) x (suc i) d within up e = absurd (omega arith)
to_last (y ∷ z ∷ ys) x zero d within up e =
    let next : y.step ≤ z.step = up 0 1 d (omega arith) (omega arith) in
    let more : z.step ≤ x.step = to_last (z ∷ ys) x 0 d (omega arith) (rest_rises y (z ∷ ys) up) e in
    omega arith
to_last (y ∷ z ∷ ys) x (suc i) d within up e = to_last (z ∷ ys) x i d (omega arith) (rest_rises y (z ∷ ys) up) e

has_last : (xs : List Change) → last_change xs ≡ None → length xs ≡ 0
has_last [] e = refl
has_last (x ∷ []) e = absurd (let t : Some x ≡ None = e in cc)
has_last (x ∷ y ∷ xs) e = let none = has_last (y ∷ xs) e in absurd (omega arith)

rises_by : (names : List (List ℕ)) (units : List (List Token)) (held : Held) (text : List ℕ) (k : ℕ) (last : Option Change) → Holds names units held → IsStep text k → (FallsBelow units text → ⊥) →
    last_change held.changes.items ≡ last → (i : ℕ) (d : Change) → i < length held.changes.items → (get_or held.changes.items i d).step ≤ k
rises_by names units held text k None h is not e i d within = let none = has_last held.changes.items e in absurd (omega arith)
rises_by names units held text k (Some x) h is not e i d within =
    let up : (get_or held.changes.items i d).step ≤ x.step = to_last held.changes.items x i d within h.steps e in
    elim (dec_le x.step k) [
      | Prim.yes low ↦ omega arith
      | Prim.no high ↦ absurd (not (falls_if names units held text k x h e is (omega arith)))
    ]

-- ## a line that has shown no fault

-- Its step does not fall, and its name does not stand again.
pub record IsClean (names : List (List ℕ)) (units : List (List Token)) (line : List Token) : Type 0 where
  pub rises : FallsBelow units (step_on line) → ⊥
  pub once : Contains names (name_on line) → IsTwice units (step_on line) (name_on line) → ⊥

clean_words : (names : List (List ℕ)) (units : List (List Token)) (first step name : Token) (words : List Token) → NoneShows (format names) units [] (first ∷ step ∷ name ∷ words) → IsClean names units (first ∷ step ∷ name ∷ words)
clean_words names units first step name words fine = record {
  rises = λ falls. fine.1.0 (record { at = 1; kind = Falling }) (refl, inr (refl, falls));
  once = λ there twice. fine.1.1.0 (record { at = 2; kind = Twice }) (refl, inr (refl, there, twice));
}

clean : (names : List (List ℕ)) (units : List (List Token)) (line : List Token) → is_line line ≡ true → NoneShows (format names) units [] line → IsClean names units line
clean names units (first ∷ step ∷ name ∷ words) is fine = clean_words names units first step name words fine
clean names units [] is fine = absurd (let t : false ≡ true = is in cc)
clean names units (a ∷ []) is fine = absurd (let t : false ≡ true = is in cc)
clean names units (a ∷ b ∷ []) is fine = absurd (let t : false ≡ true = is in cc)

-- A line that says a change is taken with it.
pub line_taken : (names : List (List ℕ)) (units : List (List Token)) (line : List Token) (old new : Held) (change : Change) → is_line line ≡ true → SaysChange names line change →
    Holds names units old → IsTaken (format names) units line → new.groups ≡ old.groups → new.changes.items ≡ old.changes.items ++ change ∷ [] →
    ((Contains old.spots (spot_of change) → ⊥) → new.spots ≡ old.spots ++ spot_of change ∷ []) → Holds names (units ++ line ∷ []) new
line_taken names units line old new change is says h taken groups changes spots =
    let fine = clean names units line is taken.fine in
    let step = says_step names line change says in
    let place = says_place names line change says in
    let fresh = spots (λ there. fine.once (placed names (name_on line) change.node place) (twice_if names units old (step_on line) (name_on line) change.step change.node h step place there)) in
    record {
      groups = ap (λ (z : Groups). z.names) groups ∙ h.groups;
      changes = turn-added (SaysChange names) is_line units line old.changes.items new.changes.items change is h.changes says changes;
      steps = subst (AllPairs Rises) (sym changes) (all_pairs_push Rises old.changes.items change h.steps
          (λ k d below. rises_by names units old (step_on line) change.step (last_change old.changes.items) h step fine.rises refl k d below));
      spots = fresh ∙ ap (λ z. z ++ spot_of change ∷ []) h.spots ∙ sym (map_push spot_of old.changes.items change) ∙ ap (map spot_of) (sym changes);
    }

-- ## what a line says

no_word_left : (class : Sort → Bool) (a b : Token) (words : List Token) → Matches sort_of (One class) (a ∷ b ∷ words) → ⊥
no_word_left class a b words h = let e : a ∷ b ∷ words ≡ h.0 ∷ [] = h.2 in cc

peel : (class : Sort → Bool) (p : Pattern Sort) (a : Token) (words : List Token) → Matches sort_of (Then (One class) p) (a ∷ words) → (class (sort_of a) ≡ true) × Matches sort_of p words
peel class p a words h =
    let whole : a ∷ words ≡ h.2.0 ∷ h.1 = h.4 ∙ ap (λ z. z ++ h.1) h.2.2 in
    let first : h.2.0 ≡ a = cc in
    let rest : h.1 ≡ words = cc in
    (subst (λ z. class (sort_of z) ≡ true) first h.2.1, subst (λ z. Matches sort_of p z) rest h.3)

abbrev with_high : Pattern Sort
with_high = Or end (Then number end)

-- Of a whole line of six words the fifth stands in the place of a number.
fifth_number : (a b c d e f : Token) → Matches sort_of (pattern Lines) (a ∷ b ∷ c ∷ d ∷ e ∷ f ∷ []) → is_number (sort_of e) ≡ true
fifth_number a b c d e f (inl h) =
    let second = (peel (the At) (Then word (Then word (Then number with_high))) a (b ∷ c ∷ d ∷ e ∷ f ∷ []) h).1 in
    let third = (peel is_word (Then word (Then number with_high)) b (c ∷ d ∷ e ∷ f ∷ []) second).1 in
    let fourth = (peel is_word (Then number with_high) c (d ∷ e ∷ f ∷ []) third).1 in
    let rest : Matches sort_of with_high (e ∷ f ∷ []) = (peel is_number with_high d (e ∷ f ∷ []) fourth).1 in
    elim rest [ inl z ↦ absurd (no_word_left is_end e f [] z) | inr z ↦ (peel is_number end e (f ∷ []) z).0 ]
fifth_number a b c d e f (inr h) = absurd (no_word_left is_end a b (c ∷ d ∷ e ∷ f ∷ []) h)

same_most : (v : ℤ) → v ≤ℤ v
same_most v = omega (arith, ints)

-- What is found of a line with one current, and of one with two.
pub current_found : (names : List (List ℕ)) (a b c d e : Heard Value) (change : Change) → change.step ≡ step_of b.value → change.node ≡ node_of c.value →
    (unsigned_abs (amps_of d.value) ≤ 10 ^ 18 → change.low ≡ amps_of d.value) → change.high ≡ change.low → AreHeard (says names) [] (a ∷ b ∷ c ∷ d ∷ e ∷ []) →
    FindsChange names (heard_token a ∷ heard_token b ∷ heard_token c ∷ heard_token d ∷ heard_token e ∷ []) (Some change)
current_found names a b c d e change step node kept high heard =
    let amps : SaysAmps d.word.text.now d.value = heard.1.1.1.0 in
    let low = subst (λ z. IsNumberAt amperes d.word.text.now (Ok z)) (sym (kept amps.1.2.within)) amps in (
      refl,
      λ units t. (
        subst (IsStep b.word.text.now) (sym step) heard.1.0,
        heard.1.1.0 ∙ ap (λ z. Some z) (sym node),
        low,
        subst (λ z. IsNumberAt amperes d.word.text.now (Ok z)) (sym high) low,
        subst (λ z. change.low ≤ℤ z) (sym high) (same_most change.low),
      ),
    )

pub range_found : (names : List (List ℕ)) (a b c d e f : Heard Value) (change : Change) → change.step ≡ step_of b.value → change.node ≡ node_of c.value →
    (unsigned_abs (amps_of d.value) ≤ 10 ^ 18 → change.low ≡ amps_of d.value) → (unsigned_abs (amps_of e.value) ≤ 10 ^ 18 → change.high ≡ amps_of e.value) →
    AreHeard (says names) [] (a ∷ b ∷ c ∷ d ∷ e ∷ f ∷ []) →
    FindsChange names (heard_token a ∷ heard_token b ∷ heard_token c ∷ heard_token d ∷ heard_token e ∷ heard_token f ∷ []) (Some change)
range_found names a b c d e f change step node low_kept high_kept heard =
    let amps : SaysAmps d.word.text.now d.value = heard.1.1.1.0 in
    let low = subst (λ z. IsNumberAt amperes d.word.text.now (Ok z)) (sym (low_kept amps.1.2.within)) amps in
    let second : SaysHigh (heard_token d) (heard_token e) e.value = heard.1.1.1.1.0 in (
      refl,
      λ units t.
          let high = second (fifth_number (heard_token a) (heard_token b) (heard_token c) (heard_token d) (heard_token e) (heard_token f) t.matches) in
          let same = high_kept high.0.1.2.within in (
            subst (IsStep b.word.text.now) (sym step) heard.1.0,
            heard.1.1.0 ∙ ap (λ z. Some z) (sym node),
            low,
            subst (λ z. IsNumberAt amperes e.word.text.now (Ok z)) (sym same) high.0,
            subst (λ z. change.low ≤ℤ z) (sym same) (high.1 change.low low),
          ),
    )

pub not_line : (xs : List Token) → (length xs ≡ 5 → ⊥) → (length xs ≡ 6 → ⊥) → is_line xs ≡ false
not_line (a ∷ b ∷ c ∷ d ∷ e ∷ []) h k = absurd (h refl)
not_line (a ∷ b ∷ c ∷ d ∷ e ∷ f ∷ []) h k = absurd (k refl)
not_line xs h k = refl

-- A unit that is no line leaves what is held.
pub line_kept : (names : List (List ℕ)) (units : List (List Token)) (unit : List Token) (held : Held) → is_line unit ≡ false → Holds names units held → Holds names (units ++ unit ∷ []) held
line_kept names units unit held is h = record {
  groups = h.groups;
  changes = turn-kept (SaysChange names) is_line units unit held.changes.items is h.changes;
  steps = h.steps;
  spots = h.spots;
}

-- ## words that show no fault and say nothing

pub short_told : (names : List (List ℕ)) (units : List (List Token)) (part : List Token) (value : Value) → length part < 2 → IsFine (format names) units part × says names part value
short_told names units [] value h = ((λ a k. k), tt)
short_told names units (x ∷ []) value h = ((λ a k. k), tt)
short_told names units (x ∷ y ∷ part) value h = absurd (omega arith)

pub long_told : (names : List (List ℕ)) (units : List (List Token)) (part : List Token) (value : Value) → 6 ≤ length part → IsFine (format names) units part × says names part value
long_told names units (a ∷ b ∷ c ∷ d ∷ e ∷ f ∷ part) value h = ((λ x k. k), tt)
long_told names units [] value h = absurd (omega arith)
long_told names units (a ∷ []) value h = absurd (omega arith)
long_told names units (a ∷ b ∷ []) value h = absurd (omega arith)
long_told names units (a ∷ b ∷ c ∷ []) value h = absurd (omega arith)
long_told names units (a ∷ b ∷ c ∷ d ∷ []) value h = absurd (omega arith)
long_told names units (a ∷ b ∷ c ∷ d ∷ e ∷ []) value h = absurd (omega arith)

pub on_ok : {P Q : Type 0} (r : Result (Unit {0}) AllocError) → OnOk r P → (P → Q) → OnOk r Q
on_ok (Ok x) h f = f h
on_ok (Err e) h f = tt
