-- Several outputs that are written one after the other: what stays, and which answer comes where one was not written.
use Rattle.std.proofs.Common.{◌≡◌, ◌≢◌, ◌⊎◌, inl, inr, ℕ, ◌+◌, ◌<◌, List, [], ◌∷◌, ◌++◌, take, length, AllPairs, Contains, Option, Some, None, refl, sym, ap, subst, ◌∙◌, arith}
use Rattle.std.proofs.lemmas.List.{take_more, take-map, map-append, get_or-map, get_or-take, length-map, length-take}
use Rattle.outside.specs.Files.{Holdings}
use Rattle.outside.specs.Known.{WhereKnown}
use Rattle.outside.specs.declared.whole.WriteError.{WriteError}
use Rattle.outside.specs.declared.whole.WriteError.TheVariants as writing
use Rattle.answers.specs.declared.answer.Answer.{Answer}
use Rattle.answers.specs.declared.answer.Answer.TheVariants.{Want}
use Rattle.command_words.specs.Words.{AreApart}
use Rattle.output_files.specs.declared.output.Unwritten.{Unwritten}
use Rattle.output_files.specs.Outputs.{Texts, names, text_at, HoldEach, StopAt, FailsAt}
use Rattle.pdn_signoff.specs.Check.{FilesThen}
use Rattle.pdn_signoff.specs.Outputs.{Stops}
use Rattle.pdn_signoff.specs.Command.{ChangesAmong}
use Rattle.pdn_signoff.specs.inside.Solve.{unwritten_answer}

abbrev pub Text : Type 0
Text = List ℕ × List ℕ

abbrev name_of : Text → List ℕ
name_of text = text.0

-- Texts whose names differ.
pub apart_texts : (all : Texts) → AreApart (names all) → AllPairs (λ (a b : Text). a.0 ≢ b.0) all
apart_texts all apart i j d less below same =
    let last : j < length (names all) = subst (λ n. j < n) (sym (length-map all name_of)) below in
    apart i j [] less last (get_or-map name_of all i d [] (omega arith) ∙ same ∙ sym (get_or-map name_of all j d [] below))

-- ---- no other file changes
-- What is among the first of some names is among all.
of_first : (n : ℕ) (all : List (List ℕ)) (name : List ℕ) → Contains (take n all) name → Contains all name
of_first n all name (k, below, is) =
    let less : k < n = omega (arith, below, length-take n all) in
    (k, omega (arith, below, length-take n all), sym (get_or-take n all k name less) ∙ is)

module _ (all : Texts) (place : ℕ) (below : place < length all) where
  before_names : names (take place all) ≡ take place (names all)
  before_names = sym (take-map name_of place all)

  within : place < length (names all)
  within = subst (λ n. place < n) (sym (length-map all name_of)) below

  up_to_names : (text : List ℕ) → names (take place all ++ ((text_at all place).0, text) ∷ []) ≡ take (place + 1) (names all)
  up_to_names text =
      map-append name_of (take place all) (((text_at all place).0, text) ∷ []) ∙ ap (λ (ns : List (List ℕ)). ns ++ (text_at all place).0 ∷ []) before_names
      ∙ ap (λ (f : List ℕ). take place (names all) ++ f ∷ []) (sym (get_or-map name_of all place ([], []) [] below)) ∙ sym (take_more (names all) place [] within)

  stopped : (x y : Holdings) → StopAt all place x y → ChangesAmong (names all) x y
  stopped x y (inl holds) file not_in = holds.others file (λ has. not_in (of_first place (names all) file (subst (λ ns. Contains ns file) before_names has)))
  stopped x y (inr (n, holds)) file not_in =
      holds.others file (λ has. not_in (of_first (place + 1) (names all) file (subst (λ ns. Contains ns file) (up_to_names (take n (text_at all place).1)) has)))

  pub stopped_alone : (k l : Option Holdings) → WhereKnown (StopAt all place) k l → WhereKnown (ChangesAmong (names all)) k l
  stopped_alone None None stops = tt
  stopped_alone None (Some y) stops = stops
  stopped_alone (Some x) None stops = stops
  stopped_alone (Some x) (Some y) stops = stopped x y stops

pub written_alone : (all : Texts) (k l : Option Holdings) → WhereKnown (HoldEach all) k l → WhereKnown (ChangesAmong (names all)) k l
written_alone all None None holds = tt
written_alone all None (Some y) holds = holds
written_alone all (Some x) None holds = holds
written_alone all (Some x) (Some y) holds = λ file not_in. holds.others file not_in

pub kept_alone : (all : List (List ℕ)) (k l : Option Holdings) → l ≡ k → WhereKnown (ChangesAmong all) k l
kept_alone all k l same = subst (λ (m : Option Holdings). WhereKnown (ChangesAmong all) k m) (sym same) (alone k)
  where
    alone : (k : Option Holdings) → WhereKnown (ChangesAmong all) k k
    alone None = tt
    alone (Some held) = λ file not_in. refl

-- ---- the answer
-- An output was not written, and this is the answer to it.
pub stops_so : (before after : FilesThen) (all : Texts) (e : Unwritten) (answer : Answer) → e.place < length all → WhereKnown (StopAt all e.place) before.known after.known → FailsAt all e before.known before.counts after.counts
    → ((answer ≡ Want) ⊎ (answer ≡ unwritten_answer e.error (text_at all e.place).0)) → Stops before after all answer
stops_so before after all e answer below stop fails (inl want) = (e.place, (below, stop), inl want)
stops_so before after all e answer below stop fails (inr told) = by_error e.error refl told
  where
    by_error : (error : WriteError) → e.error ≡ error → answer ≡ unwritten_answer error (text_at all e.place).0 → Stops before after all answer
    by_error writing.WriteFault is so =
        let failed = fails is in (e.place, (below, stop), inr (so, record { fault = failed.fault; failed_write = failed.failed_write; only = failed.only }))
    by_error writing.Want is so = (e.place, (below, stop), inl so)
