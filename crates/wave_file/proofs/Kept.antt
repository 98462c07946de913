-- What a record keeps, by what its lines say.
use Rattle.std.proofs.Common.{◌≡◌, ◌≢◌, ℕ, ◌≤◌, ℤ, pos, ◌<ℤ◌, List, [], ◌∷◌, length, map, All, AllPairs, Ok, sym, ◌∙◌, ap, subst, arith}
use Rattle.std.specs.Prelude.{unsigned_abs}
use Rattle.std.proofs.lemmas.Int.{ints}
use Rattle.std.proofs.lemmas.List.{get_or-map, length-map}
use Rattle.entry_list.specs.Laws.{in-turn-all}
use Rattle.number_place.specs.declared.place.NumberPlace.{NumberPlace}
use Rattle.number_place.specs.Place.{IsNumberAt, HasSign}
use Rattle.reading.specs.Word.{Token}
use Rattle.wave_file.specs.declared.record.Change.{Change}
use Rattle.wave_file.specs.declared.record.Waves.{Waves}
use Rattle.wave_file.specs.declared.spots.Spot.{Spot}
use Rattle.wave_file.specs.declared.held.Held.{Held}
use Rattle.wave_file.specs.Rule.{lines}
use Rattle.wave_file.specs.Number.{steps, amperes}
use Rattle.wave_file.specs.Record.{SaysRange, SaysChange}
use Rattle.wave_file.specs.Keeps.{ChangeKeeps, AreApart, WavesKeep}
use Rattle.wave_file.specs.inside.Held.{Holds, spot_of}
use Rattle.wave_file.proofs.Lines.{place_below}

-- A value is within the limit of its place, and has its sign.
abbrev pub Limited : Type 0
Limited = (place : NumberPlace) (text : List ℕ) (value : ℤ) → IsNumberAt place text (Ok value) → unsigned_abs value ≤ place.limit

abbrev pub Signed : Type 0
Signed = (place : NumberPlace) (text : List ℕ) (value : ℤ) → IsNumberAt place text (Ok value) → HasSign place.sign value

range_kept : Limited → Signed → (names : List (List ℕ)) (step name low high : List ℕ) (change : Change) → SaysRange names step name low high change → ChangeKeeps (length names) change
range_kept l s names step name low high change h =
    let positive : pos 0 <ℤ pos change.step = s steps step (pos change.step) h.0 in
    let within : change.step ≤ 1000 = l steps step (pos change.step) h.0 in
    record {
      first = omega (arith, ints, positive);
      last = within;
      node = place_below names name change.node h.1;
      low = l amperes low change.low h.2;
      high = l amperes high change.high h.3;
      rises = h.4;
    }

change_kept : Limited → Signed → (names : List (List ℕ)) (line : List Token) (change : Change) → SaysChange names line change → ChangeKeeps (length names) change
change_kept l s names (first ∷ step ∷ name ∷ value ∷ stop ∷ []) change h = range_kept l s names step.text name.text value.text value.text change h
change_kept l s names (first ∷ step ∷ name ∷ low ∷ high ∷ stop ∷ []) change h = range_kept l s names step.text name.text low.text high.text change h
change_kept l s names line change h = absurd h

same_spot : (a b c d : ℕ) → a ≡ b → c ≡ d → ◌≡◌ {A = Spot} (record { step = a; node = c }) (record { step = b; node = d })
same_spot a b c d e f =
    let make : ℕ → ℕ → Spot = λ step node. record { step = step; node = node } in
    ap (λ z. make z c) e ∙ ap (λ z. make b z) f

changes_apart : (changes : List Change) → AllPairs (λ a b. a ≢ b) (map spot_of changes) → AllPairs AreApart changes
changes_apart changes apart i j d below within same =
    let count : length (map spot_of changes) ≡ length changes = length-map changes spot_of in
    let first = get_or-map spot_of changes i d (spot_of d) (omega arith) in
    let second = get_or-map spot_of changes j d (spot_of d) within in
    apart i j (spot_of d) below (omega arith) (first ∙ same_spot _ _ _ _ same.0 same.1 ∙ sym second)

pub waves_kept : Limited → Signed → (names : List (List ℕ)) (units : List (List Token)) (held : Held) (waves : Waves) → Holds names units held → AllPairs (λ a b. a ≢ b) held.spots →
    waves.changes ≡ held.changes.items → WavesKeep (length names) waves
waves_kept l s names units held waves h apart is = record {
  changes = subst (All (ChangeKeeps (length names))) (sym is) (in-turn-all (SaysChange names) (ChangeKeeps (length names)) (change_kept l s names) (lines units) held.changes.items h.changes);
  steps = subst (AllPairs (λ (a b : Change). a.step ≤ b.step)) (sym is) h.steps;
  apart = subst (AllPairs AreApart) (sym is) (changes_apart held.changes.items (subst (AllPairs (λ (a b : Spot). a ≢ b)) h.spots apart));
}
