-- The loop over the words of a text.
use Rattle.std.proofs.Common.{◌≡◌, ℕ, zero, suc, ◌+◌, ◌^◌, ◌<◌, ◌≤◌, true, false, inl, inr, List, [], ◌∷◌, ◌++◌, length, take, Option, Some, None, Result, Ok, Err, refl, sym, ◌∙◌, ap, subst, append_assoc, arith, length-append}
use Rattle.std.proofs.lemmas.List.{append-nil}
use Rattle.outside.specs.declared.place.Place.{Place}
use Rattle.text_lex.specs.declared.word.LexError.{LexError}
use Rattle.reading.specs.declared.word.Form.TheVariants.{End}
use Rattle.reading.specs.declared.word.Word.{Word}
use Rattle.reading.specs.declared.stop.Step.{Step}
use Rattle.reading.specs.declared.stop.Step.TheVariants.{Open, Whole}
use Rattle.reading.specs.declared.stop.Stop.{Stop}
use Rattle.reading.specs.declared.stop.Stop.TheVariants as stops
use Rattle.reading.specs.declared.refusal.Found.{Found}
use Rattle.reading.specs.declared.refusal.Cause.TheVariants.{Lex, Fault}
use Rattle.reading.specs.declared.refusal.Refusal.{Refusal}
use Rattle.reading.specs.declared.refusal.Refusal.TheVariants as refusals
use Rattle.reading.specs.Pattern.{joined}
use Rattle.reading.specs.Reading.{Format, Text, Follows, IsOrderly, IsRefused, IsRead, IsEnding, GoesPast, EndsFirst}
use Rattle.reading.specs.Word.{Token, token, place_in, end_at, next_on_line, end_after, ended_text}
use Rattle.reading.specs.Source.{IsWhole, Steps}
use Rattle.reading.specs.Reader.{Faulty, Takes}
use Rattle.reading.specs.inside.Engine.{part_after, Names, ends_by, Finishes}
use Rattle.reading.specs.Outcome.{Refuses, IsReadAs, Gives}
use Rattle.reading.proofs.Ends.{take-front, begun-past, less-past, open-past, whole-past, sofar-other}
use Rattle.reading.proofs.Sofar.{Sofar, sofar-start, sofar-open, sofar-close, Next, Shows, refuse-syntax, refuse-fault, refuse-lex, read-whole}

-- Where the loop stands in the text: what it has left, and the words of the open unit.
pub record AtLoop {S K : Type 0} (f : Format Token S K) (stands : List (List Token) → List Token → Type 0) (text rest : Text Token) (part : List Token) : Type 0 where
  pub units : List (List Token)
  pub front : List Token
  pub is : text.words ≡ front ++ rest.words
  pub refused : rest.refused ≡ text.refused
  pub sofar : Sofar f text.words (length front) units part
  pub there : stands units part
  pub closed : (a : List Token) (w : Token) → front ≡ a ++ w ∷ [] → w.form ≡ End → part ≡ []

pub loop-start : {S K : Type 0} (f : Format Token S K) (stands : List (List Token) → List Token → Type 0) (text : Text Token) → stands [] [] → AtLoop f stands text text []
loop-start f stands text h = record {
  units = [];
  front = [];
  is = refl;
  refused = refl;
  sofar = sofar-start f text.words;
  there = h;
  closed = λ a w e end. refl;
}

take-next : {X : Type 0} (xs ys : List X) (x : X) → take (length xs + 1) (xs ++ x ∷ ys) ≡ xs ++ x ∷ []
take-next [] ys x = refl
take-next (z ∷ xs) ys x =
    let e : suc (length xs) + 1 ≡ suc (length xs + 1) = omega arith in
    ap (λ n. take n (z ∷ (xs ++ x ∷ ys))) e ∙ ap (λ y. z ∷ y) (take-next xs ys x)

size-next : {X : Type 0} (xs ys : List X) (x : X) → length xs < length (xs ++ x ∷ ys)
size-next xs ys x = omega (arith, length-append xs (x ∷ ys))

-- The next word of a text.
pub loop-next : {S K : Type 0} (f : Format Token S K) (stands : List (List Token) → List Token → Type 0) (text rest after : Text Token) (part : List Token) (word : Word) →
    (a : AtLoop f stands text rest part) → Steps rest (Ok (Some word)) after → Next text.words (length a.front) (token word)
loop-next f stands text rest after part word a s =
    let all : text.words ≡ a.front ++ token word ∷ after.words = a.is ∙ ap (λ z. a.front ++ z) s.0 in
    record {
      within = subst (λ z. length a.front < length z) (sym all) (size-next a.front after.words (token word));
      is = subst (λ z. take (length a.front + 1) z ≡ take (length a.front) z ++ token word ∷ []) (sym all)
          (take-next a.front after.words (token word) ∙ ap (λ z. z ++ token word ∷ []) (sym (take-front a.front (token word ∷ after.words))));
    }

same_last : {X : Type 0} (a b : List X) (x y : X) → a ++ x ∷ [] ≡ b ++ y ∷ [] → x ≡ y
same_last [] [] x y e = cc
same_last [] (b ∷ bs) x y e = absurd (let t : [] ≡ bs ++ y ∷ [] = cc in let n : 0 ≡ length (bs ++ y ∷ []) = ap length t in omega (arith, length-append bs (y ∷ [])))
same_last (a ∷ as_) [] x y e = absurd (let t : as_ ++ x ∷ [] ≡ [] = cc in let n : length (as_ ++ x ∷ []) ≡ 0 = ap length t in omega (arith, length-append as_ (x ∷ [])))
same_last (a ∷ as_) (b ∷ bs) x y e = same_last as_ bs x y cc

longer : {X : Type 0} (xs : List X) (x : X) → length xs + 1 ≡ length (xs ++ x ∷ [])
longer xs x = omega (arith, length-append xs (x ∷ []))

pub loop-more : {S K : Type 0} (f : Format Token S K) (old new : List (List Token) → List Token → Type 0) (text rest after : Text Token) (part : List Token) (word : Word) (step : Step) →
    (a : AtLoop f old text rest part) → Steps rest (Ok (Some word)) after → Takes f new a.units part (token word) (Ok step) →
    AtLoop f new text after (part_after step (part ++ token word ∷ []))
loop-more f old new text rest after part word Open a s k =
    let next = loop-next f old text rest after part word a s in
    record {
      units = a.units;
      front = a.front ++ token word ∷ [];
      is = a.is ∙ ap (λ z. a.front ++ z) s.0 ∙ sym (append_assoc a.front (token word ∷ []) after.words);
      refused = s.1 ∙ a.refused;
      sofar = subst (λ z. Sofar f text.words z a.units (part ++ token word ∷ [])) (longer a.front (token word))
          (sofar-open f text.words (length a.front) a.units part (token word) a.sofar next k.begins k.fine k.partly);
      there = k.there;
      closed = λ front v e end. absurd (k.not_end (ap (λ (z : Token). z.form) (same_last a.front front (token word) v e) ∙ end));
    }
loop-more f old new text rest after part word Whole a s k =
    let next = loop-next f old text rest after part word a s in
    record {
      units = a.units ++ (part ++ token word ∷ []) ∷ [];
      front = a.front ++ token word ∷ [];
      is = a.is ∙ ap (λ z. a.front ++ z) s.0 ∙ sym (append_assoc a.front (token word ∷ []) after.words);
      refused = s.1 ∙ a.refused;
      sofar = subst (λ z. Sofar f text.words z (a.units ++ (part ++ token word ∷ []) ∷ []) []) (longer a.front (token word))
          (sofar-close f text.words (length a.front) a.units part (token word) a.sofar next k.fine k.matches k.ends);
      there = k.there;
      closed = λ front v e end. refl;
    }

-- ## places

place-after : (xs ys : List Token) (r : Option LexError) (n : ℕ) → place_in (xs ++ ys) r (length xs + n) ≡ place_in ys r n
place-after [] ys r n = ap (λ z. place_in ys r z) (let e : 0 + n ≡ n = omega arith in e)
place-after (x ∷ xs) ys r n =
    let e : suc (length xs) + n ≡ suc (length xs + n) = omega arith in
    ap (λ z. place_in (x ∷ (xs ++ ys)) r z) e ∙ place-after xs ys r n

place-front : (xs ys : List Token) (r : Option LexError) (n : ℕ) (p : Place) → place_in xs None n ≡ Some p → place_in (xs ++ ys) r n ≡ Some p
place-front [] ys r n p h = absurd (let t : None ≡ Some p = h in cc)
place-front (x ∷ xs) ys r zero p h = h
place-front (x ∷ xs) ys r (suc n) p h = place-front xs ys r n p h

place-next : (xs ys : List Token) (w : Token) (r : Option LexError) → place_in (xs ++ w ∷ ys) r (length xs) ≡ Some w.place
place-next [] ys w r = refl
place-next (x ∷ xs) ys w r = place-next xs ys w r

place-refused : (xs : List Token) (e : LexError) → place_in xs (Some e) (length xs) ≡ Some e.place
place-refused [] e = refl
place-refused (x ∷ xs) e = place-refused xs e

-- The words so far, taken apart.
parted : {S K : Type 0} (f : Format Token S K) (stands : List (List Token) → List Token → Type 0) (text rest : Text Token) (part : List Token) →
    (a : AtLoop f stands text rest part) → a.front ≡ joined a.units ++ part
parted f stands text rest part a =
    sym (take-front a.front rest.words) ∙ ap (λ (z : List Token). take (length a.front) z) (sym a.is) ∙ a.sofar.is

-- ## refusals

-- The text is refused at a word between these two, of which the second is read last.
abbrev pub RefusedBetween : {S K : Type 0} → Format Token S K → Text Token → ℕ → ℕ → Refusal K → Type 0
RefusedBetween f text low high refusals.Want = Unit {0}
RefusedBetween f text low high (refusals.At place cause) =
    (n : ℕ) × (low ≤ n) × (n ≤ high) × IsRefused f text n cause × (place_in text.words text.refused n ≡ Some place)

loop-fault : {S K : Type 0} (f : Format Token S K) (old : List (List Token) → List Token → Type 0) (text rest after : Text Token) (part : List Token) (word : Word) (place : Place) (k : K) →
    IsOrderly f → (a : AtLoop f old text rest part) → Steps rest (Ok (Some word)) after → Faulty f a.units part (token word) place k →
    RefusedBetween f text (length (joined a.units)) (length a.front) (refusals.At place (Fault k))
loop-fault {K = K} f old text rest after part word place k orderly a s q =
    let next = loop-next f old text rest after part word a s in
    let found : Found K = record { at = q.at; kind = k } in
    let shows : Shows f a.units part (token word) found = record { begins = q.begins; is = q.is } in
    let all : text.words ≡ joined a.units ++ ((part ++ token word ∷ []) ++ after.words) =
    a.is ∙ ap (λ z. a.front ++ z) s.0 ∙ ap (λ z. z ++ token word ∷ after.words) (parted f old text rest part a)
    ∙ append_assoc (joined a.units) part (token word ∷ after.words) ∙ ap (λ z. joined a.units ++ z) (sym (append_assoc part (token word ∷ []) after.words)) in
    let near : q.at < length (part ++ token word ∷ []) = orderly.near a.units (part ++ token word ∷ []) found q.begins q.is in
    let count : length a.front ≡ length (joined a.units ++ part) = ap length (parted f old text rest part a) in (
      length (joined a.units) + q.at,
      omega arith,
      omega (arith, length-append (joined a.units) part, length-append part (token word ∷ [])),
      refuse-fault f text (length a.front) a.units part (token word) found orderly a.sofar next shows,
      ap (λ z. place_in z text.refused (length (joined a.units) + q.at)) all ∙ place-after (joined a.units) ((part ++ token word ∷ []) ++ after.words) text.refused q.at
          ∙ place-front (part ++ token word ∷ []) after.words text.refused q.at place q.place_is,
    )

pub loop-refuses : {S K : Type 0} (f : Format Token S K) (old new : List (List Token) → List Token → Type 0) (text rest after : Text Token) (part : List Token) (word : Word)
    (stop : Stop K) (place : Place) (r : Refusal K) → IsOrderly f → (a : AtLoop f old text rest part) → Steps rest (Ok (Some word)) after →
    Takes f new a.units part (token word) (Err stop) → place ≡ word.place → Names place stop r →
    RefusedBetween f text (length (joined a.units)) (length a.front) r
loop-refuses f old new text rest after part word stops.Want place r orderly a s k p e =
    subst (λ z. RefusedBetween f text (length (joined a.units)) (length a.front) z) (sym e) tt
loop-refuses f old new text rest after part word stops.Syntax place r orderly a s k p e =
    let next = loop-next f old text rest after part word a s in
    let count : length a.front ≡ length (joined a.units ++ part) = ap length (parted f old text rest part a) in
    subst (λ z. RefusedBetween f text (length (joined a.units)) (length a.front) z) (sym e) (
      length a.front,
      omega (arith, length-append (joined a.units) part),
      omega arith,
      refuse-syntax f text (length a.front) a.units part (token word) a.sofar next k,
      ap (λ z. place_in z text.refused (length a.front)) (a.is ∙ ap (λ z. a.front ++ z) s.0) ∙ place-next a.front after.words (token word) text.refused
          ∙ ap (λ (z : Place). Some z) (sym p),
    )
loop-refuses f old new text rest after part word (stops.Fault at kind) place r orderly a s k p e =
    subst (λ z. RefusedBetween f text (length (joined a.units)) (length a.front) z) (sym e) (loop-fault f old text rest after part word at kind orderly a s k)

whole-front : {S K : Type 0} (f : Format Token S K) (stands : List (List Token) → List Token → Type 0) (text rest : Text Token) (part : List Token) →
    (a : AtLoop f stands text rest part) → rest.words ≡ [] → text.words ≡ a.front
whole-front f stands text rest part a e = a.is ∙ ap (λ z. a.front ++ z) e ∙ append-nil a.front

whole-sofar : {S K : Type 0} (f : Format Token S K) (stands : List (List Token) → List Token → Type 0) (text rest : Text Token) (part : List Token) →
    (a : AtLoop f stands text rest part) → rest.words ≡ [] → Sofar f text.words (length text.words) a.units part
whole-sofar f stands text rest part a e =
    subst (λ z. Sofar f text.words z a.units part) (ap length (sym (whole-front f stands text rest part a e))) a.sofar

pub loop-lex : {S K : Type 0} (f : Format Token S K) (stands : List (List Token) → List Token → Type 0) (text rest after : Text Token) (part : List Token) (error : LexError) →
    (a : AtLoop f stands text rest part) → GoesPast f text (length a.front) → Steps rest (Err error) after → Refuses f text (refusals.At error.place (Lex error.kind))
loop-lex f stands text rest after part error a past s =
    let e : text.refused ≡ Some error = sym a.refused ∙ s.1 in (
      length text.words,
      text,
      inl (subst (λ z. GoesPast f text (length z)) (sym (whole-front f stands text rest part a s.0)) past, refl),
      refuse-lex f text a.units part error (whole-sofar f stands text rest part a s.0) e,
      ap (λ z. place_in text.words z (length text.words)) e ∙ place-refused text.words error,
    )

pub loop-end : {S K : Type 0} (f : Format Token S K) (stands : List (List Token) → List Token → Type 0) (text rest after : Text Token) (part : List Token) →
    IsWhole text → AtLoop f stands text rest part → Steps rest (Ok None) after → (units : List (List Token)) × IsRead f text units × stands units []
loop-end f stands text rest after part whole a s =
    let none : text.refused ≡ None = sym a.refused ∙ s.1 in
    let ended = whole none in
    let over : part ≡ [] = a.closed ended.0 ended.1 (sym (whole-front f stands text rest part a s.0) ∙ ended.2) ended.3 in
    let o = whole-sofar f stands text rest part a s.0 in
    (a.units, read-whole f text a.units (subst (λ z. Sofar f text.words (length text.words) a.units z) over o) none, subst (λ z. stands a.units z) over a.there)

-- ## the end

pub past-start : {S K : Type 0} (f : Format Token S K) (stands : List (List Token) → List Token → Type 0) (text : Text Token) (h : stands [] []) →
    f.ends [] ≡ false → GoesPast f text (length (loop-start f stands text h).front)
unfolding loop-start
past-start f stands text h begun = begun-past f begun text

-- After a word the text goes on, unless its units end it there.
pub past-more : {S K : Type 0} (f : Format Token S K) (old new : List (List Token) → List Token → Type 0) (text rest after : Text Token) (part : List Token) (word : Word) (step : Step) →
    (a : AtLoop f old text rest part) (s : Steps rest (Ok (Some word)) after) (k : Takes f new a.units part (token word) (Ok step)) →
    ((units : List (List Token)) (p : List Token) → new units p → ends_by step (f.ends units) ≡ false) → GoesPast f text (length a.front) →
    GoesPast f text (length (loop-more f old new text rest after part word step a s k).front)
unfolding loop-more
past-more f old new text rest after part word Open a s k none past =
    subst (λ z. GoesPast f text z) (longer a.front (token word))
    (open-past f text (length a.front) a.units part (token word) a.sofar (loop-next f old text rest after part word a s) past k.partly)
past-more f old new text rest after part word Whole a s k none past =
    subst (λ z. GoesPast f text z) (longer a.front (token word))
    (whole-past f text (length a.front) a.units part (token word) a.sofar (loop-next f old text rest after part word a s) past (none _ [] k.there))

-- The whole units have ended the text: their end is still to come.
pub record AtEnd {S K : Type 0} (f : Format Token S K) (stands : List (List Token) → List Token → Type 0) (text : Text Token) (end : Token) (part : List Token) : Type 0 where
  pub units : List (List Token)
  pub ending : IsEnding f text units
  pub first : EndsFirst f text units
  pub at : AtLoop f stands (ended_text (joined units)) (record { words = end ∷ []; refused = None }) part
  pub low : length (joined units) ≤ length (joined at.units)

end-after-last : (xs : List Token) (w : Token) → end_after (xs ++ w ∷ []) ≡ end_at (next_on_line w.place)
end-after-last [] w = refl
end-after-last (x ∷ []) w = refl
end-after-last (x ∷ y ∷ xs) w = end-after-last (y ∷ xs) w

end-form : (xs : List Token) → (end_after xs).form ≡ End
end-form [] = refl
end-form (x ∷ []) = refl
end-form (x ∷ y ∷ xs) = end-form (y ∷ xs)

pub end-more : {S K : Type 0} (f : Format Token S K) (old new : List (List Token) → List Token → Type 0) (text rest after : Text Token) (part : List Token) (word : Word) (step : Step) →
    (a : AtLoop f old text rest part) → Steps rest (Ok (Some word)) after → Takes f new a.units part (token word) (Ok step) →
    ((units : List (List Token)) (p : List Token) → new units p → ends_by step (f.ends units) ≡ true) → GoesPast f text (length a.front) →
    AtEnd f new text (end_at (next_on_line word.place)) (part_after step (part ++ token word ∷ []))
unfolding loop-more
end-more f old new text rest after part word Open a s k ends past = absurd (let e : false ≡ true = ends _ _ k.there in cc)
end-more f old new text rest after part word Whole a s k ends past =
    let b = loop-more f old new text rest after part word Whole a s k in
    let u : List Token = part ++ token word ∷ [] in
    let units : List (List Token) = a.units ++ u ∷ [] in
    let front : b.front ≡ joined units = parted f new text after [] b ∙ append-nil (joined units) in
    let is : text.words ≡ joined units ++ after.words = b.is ∙ ap (λ z. z ++ after.words) front in
    let end : Token = end_at (next_on_line word.place) in
    let last : end ≡ end_after (joined units) = sym (end-after-last a.front (token word)) ∙ ap end_after front in
    record {
      units = units;
      ending = record { whole = b.sofar.run.whole; ends = ends units [] k.there; rest = after.words; is = is };
      first = λ others e. (
          let lt : length a.front < length (joined others) = past others e in
          let count : length a.front + 1 ≡ length (joined units) = longer a.front (token word) ∙ ap length front in
          omega arith);
      at = record {
        units = units;
        front = b.front;
        is = ap (λ z. joined units ++ z ∷ []) (sym last) ∙ ap (λ z. z ++ end ∷ []) (sym front);
        refused = refl;
        sofar = sofar-other f text.words (joined units ++ end_after (joined units) ∷ []) b.front after.words (end_after (joined units) ∷ []) units []
            b.is (ap (λ z. z ++ end_after (joined units) ∷ []) (sym front)) b.sofar;
        there = k.there;
        closed = λ x w e form. refl;
      };
      low = omega arith;
    }

-- ## what is read of the text

pub past-refuses : {S K : Type 0} (f : Format Token S K) (text : Text Token) (low high : ℕ) (r : Refusal K) → GoesPast f text high → RefusedBetween f text low high r → Refuses f text r
past-refuses f text low high refusals.Want past r = tt
past-refuses f text low high (refusals.At place cause) past r = (r.0, text, inl (less-past f text r.0 high past r.2, refl), r.3, r.4)

pub past-reads : {S K : Type 0} (f : Format Token S K) (stands : List (List Token) → List Token → Type 0) (text rest after : Text Token) (part : List Token) →
    IsWhole text → (a : AtLoop f stands text rest part) → GoesPast f text (length a.front) → Steps rest (Ok None) after →
    (units : List (List Token)) × IsReadAs f text units × stands units []
past-reads f stands text rest after part whole a past s =
    let e = loop-end f stands text rest after part whole a s in
    (e.0, (text, inl (subst (λ z. GoesPast f text (length z)) (sym (whole-front f stands text rest part a s.0)) past, refl), e.1), e.2)

-- The end, which stands one word after the units that end the text, is taken.
pub end-reads : {S K : Type 0} (f : Format Token S K) (old new : List (List Token) → List Token → Type 0) (text : Text Token) (end : Token) (part : List Token) (word : Word) (step : Step) →
    (a : AtEnd f old text end part) → end ≡ token word → Takes f new a.at.units part (token word) (Ok step) →
    (units : List (List Token)) × IsReadAs f text units × new units []
end-reads f old new text end part word step a e k =
    let heard : Text Token = ended_text (joined a.units) in
    let rest : Text Token = record { words = end ∷ []; refused = None } in
    let none : Text Token = record { words = []; refused = None } in
    let b = loop-more f old new heard rest none part word step a.at (ap (λ z. z ∷ []) e, refl) k in
    let whole : IsWhole heard = λ r. (joined a.units, end_after (joined a.units), refl, end-form (joined a.units)) in
    let r = loop-end f new heard none none (part_after step (part ++ token word ∷ [])) whole b (refl, refl) in
    (r.0, (heard, inr (a.units, a.ending, a.first, omega (arith, length-append (joined a.units) (end_after (joined a.units) ∷ [])), refl), r.1), r.2)

ended-refuses : {S K : Type 0} (f : Format Token S K) (text : Text Token) (units : List (List Token)) (low high : ℕ) (r : Refusal K) → IsEnding f text units → EndsFirst f text units →
    length (joined units) ≤ low → RefusedBetween f (ended_text (joined units)) low high r → Refuses f text r
ended-refuses f text units low high refusals.Want ending first le r = tt
ended-refuses f text units low high (refusals.At place cause) ending first le r =
    (r.0, ended_text (joined units), inr (units, ending, first, (let a : low ≤ r.0 = r.1 in omega arith), refl), r.3, r.4)

pub end-refuses : {S K : Type 0} (f : Format Token S K) (old new : List (List Token) → List Token → Type 0) (text : Text Token) (end : Token) (part : List Token) (word : Word)
    (stop : Stop K) (r : Refusal K) → IsOrderly f → (a : AtEnd f old text end part) → end ≡ token word → Takes f new a.at.units part (token word) (Err stop) → Names word.place stop r → Refuses f text r
end-refuses f old new text end part word stop r orderly a e k n =
    let rest : Text Token = record { words = end ∷ []; refused = None } in
    let none : Text Token = record { words = []; refused = None } in
    ended-refuses f text a.units (length (joined a.at.units)) (length a.at.front) r a.ending a.first a.low
    (loop-refuses f old new (ended_text (joined a.units)) rest none part word stop word.place r orderly a.at (ap (λ z. z ∷ []) e, refl) k refl n)

-- ## the loop's invariant

-- The loop stands in the text, which goes on after the words so far.
pub record InText {S K : Type 0} (f : Format Token S K) (stands : List (List Token) → List Token → Type 0) (text rest : Text Token) (part : List Token) : Type 0 where
  pub at : AtLoop f stands text rest part
  pub past : GoesPast f text (length at.front)

pub in-start : {S K : Type 0} (f : Format Token S K) (stands : List (List Token) → List Token → Type 0) (text : Text Token) → f.ends [] ≡ false → stands [] [] → InText f stands text text []
in-start f stands text begun h = record { at = loop-start f stands text h; past = past-start f stands text h begun }

pub in-more : {S K : Type 0} (f : Format Token S K) (old new : List (List Token) → List Token → Type 0) (text rest after : Text Token) (part : List Token) (word : Word) (step : Step) →
    (a : InText f old text rest part) → Steps rest (Ok (Some word)) after → Takes f new a.at.units part (token word) (Ok step) →
    ((units : List (List Token)) (p : List Token) → new units p → ends_by step (f.ends units) ≡ false) → InText f new text after (part_after step (part ++ token word ∷ []))
in-more f old new text rest after part word step a s k none = record {
  at = loop-more f old new text rest after part word step a.at s k;
  past = past-more f old new text rest after part word step a.at s k none a.past;
}

pub in-refuses : {S K : Type 0} (f : Format Token S K) (old new : List (List Token) → List Token → Type 0) (text rest after : Text Token) (part : List Token) (word : Word)
    (stop : Stop K) (place : Place) (r : Refusal K) → IsOrderly f → (a : InText f old text rest part) → Steps rest (Ok (Some word)) after →
    Takes f new a.at.units part (token word) (Err stop) → place ≡ word.place → Names place stop r → Refuses f text r
in-refuses f old new text rest after part word stop place r orderly a s k p n =
    past-refuses f text (length (joined a.at.units)) (length a.at.front) r a.past (loop-refuses f old new text rest after part word stop place r orderly a.at s k p n)

-- What reading the end gives is what reading the text gives.
pub end-gives : {A S K : Type 0} (f : Format Token S K) (old new : List (List Token) → List Token → Type 0) (holds : List (List Token) → Type 0) (text : Text Token) (end : Token) (part : List Token) (word : Word) →
    IsOrderly f → ((units : List (List Token)) (p : List Token) → new units p → holds units) → (a : AtEnd f old text end part) → end ≡ token word →
    (r : Result A (Refusal K)) → Finishes f new a.at.units part (token word) r → Gives f holds text r
end-gives f old new holds text end part word orderly held a e (Ok x) k =
    let r = end-reads f old new text end part word k.0 a e k.1 in (r.0, r.1, held r.0 [] r.2)
end-gives f old new holds text end part word orderly held a e (Err refusal) k =
    end-refuses f old new text end part word k.0 refusal orderly a e k.1 k.2

-- ## how many units there are

units-few : {S K : Type 0} (f : Format Token S K) (before us : List (List Token)) → Follows f before us → length us ≤ length (joined us)
units-few f before [] h = omega arith
units-few f before (u ∷ us) h =
    let some : 0 < length u = h.0 in
    let more : length us ≤ length (joined us) = units-few f (before ++ u ∷ []) us h.2 in
    let all = length-append u (joined us) in
    omega arith

-- Before a word there are fewer units than words.
pub at-few : {S K : Type 0} (f : Format Token S K) (stands : List (List Token) → List Token → Type 0) (text rest after : Text Token) (part : List Token) (word : Word) →
    (a : AtLoop f stands text rest part) → Steps rest (Ok (Some word)) after → length text.words ≤ 2 ^ 63 → length a.units ≤ 2 ^ 63
at-few f stands text rest after part word a s bound =
    let within : length a.front < length text.words = (loop-next f stands text rest after part word a s).within in
    let parts : length a.front ≡ length (joined a.units ++ part) = ap length (parted f stands text rest part a) in
    let few : length a.units ≤ length (joined a.units) = units-few f [] a.units a.sofar.run.whole in
    let all = length-append (joined a.units) part in
    omega arith

-- Before the end too.
pub end-few : {S K : Type 0} (f : Format Token S K) (stands : List (List Token) → List Token → Type 0) (text : Text Token) (end : Token) (part : List Token) →
    (a : AtEnd f stands text end part) → length text.words ≤ 2 ^ 63 → length a.at.units ≤ 2 ^ 63
end-few f stands text end part a bound =
    let rest : Text Token = record { words = end ∷ []; refused = None } in
    let parts : length a.at.front ≡ length (joined a.at.units ++ part) = ap length (parted f stands (ended_text (joined a.units)) rest part a.at) in
    let few : length a.at.units ≤ length (joined a.at.units) = units-few f [] a.at.units a.at.sofar.run.whole in
    let all = length-append (joined a.at.units) part in
    let is : length (joined a.units ++ end_after (joined a.units) ∷ []) ≡ length (a.at.front ++ end ∷ []) = ap length a.at.is in
    let left = length-append (joined a.units) (end_after (joined a.units) ∷ []) in
    let right = length-append a.at.front (end ∷ []) in
    let whole : length text.words ≡ length (joined a.units ++ a.ending.rest) = ap length a.ending.is in
    let front = length-append (joined a.units) a.ending.rest in
    omega arith
