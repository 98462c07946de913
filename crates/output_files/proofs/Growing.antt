-- Outputs that are written one after the other, where the files have different names.
use Rattle.std.proofs.Common.{◌≡◌, ◌≢◌, inl, inr, ℕ, ◌+◌, ◌<◌, suc, zero, List, [], ◌∷◌, ◌++◌, take, length, get_or, All, AllPairs, Contains, Option, Some, None, OnSome, refl, sym, ap, subst, ◌∙◌, arith}
use Rattle.std.proofs.lemmas.List.{take_more, map-append, get_or-map, get_or-take, length-map, length-take}
use Rattle.std.proofs.lemmas.List.Elements.{All-get_or, All-from_get_or, All-append, Contains-append_left, Contains-append_right}
use Rattle.outside.specs.Counts.{FaultCounts, ChangesWrites, Rose}
use Rattle.outside.specs.Files.{Holdings, HoldsAll, HoldsFirst}
use Rattle.outside.specs.Known.{WhereKnown}
use Rattle.output_files.specs.declared.output.Output.{Output}
use Rattle.output_files.specs.Outputs.{Texts, texts, names, text_at, HoldEach, StopAt, WriteFails}

abbrev pub Text : Type 0
Text = List ℕ × List ℕ

abbrev pub Apart : Text → Text → Type 0
Apart a b = a.0 ≢ b.0

-- Nothing was written yet.
pub none_known : (all : Texts) (k : Option Holdings) → WhereKnown (HoldEach (take 0 all)) k k
none_known all None = tt
none_known all (Some x) = record { each = λ k d below. absurd (omega (arith, below)); others = λ name not_in. refl }

-- A file that holds a text alone.
alone : (file text : List ℕ) (z : Holdings) → z file ≡ Some text → (k : ℕ) → k < 1 → z (get_or {A = Text} ((file, text) ∷ []) k (file, text)).0 ≡ Some (get_or {A = Text} ((file, text) ∷ []) k (file, text)).1
alone file text z holds zero below = holds
alone file text z holds (suc k) below = absurd (omega (arith, below))

-- One more file holds a text.
hold_more : (all : Texts) (file text : List ℕ) (x y z : Holdings) → All (λ (t : Text). t.0 ≢ file) all → HoldEach all x y → HoldsAll file text y z → HoldEach (all ++ (file, text) ∷ []) x z
hold_more all file text x y z apart before holds = record {
  each = All-append (λ (t : Text). z t.0 ≡ Some t.1) all ((file, text) ∷ [])
      (All-from_get_or (λ (t : Text). z t.0 ≡ Some t.1) all ([], [])
      (λ i below. holds.others (get_or all i ([], [])).0 (All-get_or (λ (t : Text). t.0 ≢ file) all i ([], []) below apart)
      ∙ All-get_or (λ (t : Text). y t.0 ≡ Some t.1) all i ([], []) below before.each))
      (All-from_get_or (λ (t : Text). z t.0 ≡ Some t.1) ((file, text) ∷ []) (file, text) (alone file text z holds.named));
  others = λ name not_in.
      holds.others name (λ same. not_in (last name same)) ∙ before.others name (λ in_all. not_in (earlier name in_all));
}
  where
    parted : names (all ++ (file, text) ∷ []) ≡ names all ++ file ∷ []
    parted = map-append (λ (t : Text). t.0) all ((file, text) ∷ [])

    earlier : (name : List ℕ) → Contains (names all) name → Contains (names (all ++ (file, text) ∷ [])) name
    earlier name has = subst (λ ns. Contains ns name) (sym parted) (Contains-append_left (names all) (file ∷ []) name has)

    last : (name : List ℕ) → name ≡ file → Contains (names (all ++ (file, text) ∷ [])) name
    last name same = subst (λ ns. Contains ns name) (sym parted) (Contains-append_right (names all) (file ∷ []) name (0, omega arith, sym same))

-- The files before a place have other names than the one at it.
apart_before : (all : Texts) (i : ℕ) → AllPairs Apart all → i < length all → All (λ (t : Text). t.0 ≢ (text_at all i).0) (take i all)
apart_before all i pairs below =
    All-from_get_or (λ (t : Text). t.0 ≢ (text_at all i).0) (take i all) ([], [])
    (λ k under.
    let less : k < i = omega (arith, under, length-take i all) in
    subst (λ (t : Text). t.0 ≢ (text_at all i).0) (sym (get_or-take i all k ([], []) less)) (pairs k i ([], []) less below))

module _ (outputs : List Output) (i : ℕ) (d : Output) (below : i < length outputs) where
  -- The output at the place, as a text with its name.
  pub is_text : text_at (texts outputs) i ≡ ((get_or outputs i d).file.now, (get_or outputs i d).text.now)
  is_text = get_or-map (λ (o : Output). (o.file.now, o.text.now)) outputs i d ([], []) below

  within : i < length (texts outputs)
  within = subst (λ n. i < n) (sym (length-map outputs (λ (o : Output). (o.file.now, o.text.now)))) below

  file_is : (get_or outputs i d).file.now ≡ (text_at (texts outputs) i).0
  file_is = ap (λ (t : Text). t.0) (sym is_text)

  text_is : (get_or outputs i d).text.now ≡ (text_at (texts outputs) i).1
  text_is = ap (λ (t : Text). t.1) (sym is_text)

  module _ (apart : AllPairs Apart (texts outputs)) where
    more : (x y z : Holdings) → HoldEach (take i (texts outputs)) x y → HoldsAll (get_or outputs i d).file.now (get_or outputs i d).text.now y z → HoldEach (take (i + 1) (texts outputs)) x z
    more x y z before holds =
        let at = text_at (texts outputs) i in
        let written : HoldsAll at.0 at.1 y z = subst (λ f. HoldsAll f at.1 y z) file_is (subst (λ t. HoldsAll (get_or outputs i d).file.now t y z) text_is holds) in
        subst (λ (all : Texts). HoldEach all x z) (sym (take_more (texts outputs) i ([], []) within))
        (hold_more (take i (texts outputs)) at.0 at.1 x y z (apart_before (texts outputs) i apart within) before written)

    stop : (x y z : Holdings) → HoldEach (take i (texts outputs)) x y → HoldsFirst (get_or outputs i d).file.now (get_or outputs i d).text.now y z → StopAt (texts outputs) i x z
    stop x y z before (inl same) = inl (subst (λ (h : Holdings). HoldEach (take i (texts outputs)) x h) (sym same) before)
    stop x y z before (inr (n, holds)) =
        let at = text_at (texts outputs) i in
        let written : HoldsAll at.0 (take n at.1) y z = subst (λ f. HoldsAll f (take n at.1) y z) file_is (subst (λ t. HoldsAll (get_or outputs i d).file.now (take n t) y z) text_is holds) in
        inr (n, hold_more (take i (texts outputs)) at.0 (take n at.1) x y z (apart_before (texts outputs) i apart within) before written)

    pub more_known : (k l m : Option Holdings) → WhereKnown (HoldEach (take i (texts outputs))) k l → WhereKnown (HoldsAll (get_or outputs i d).file.now (get_or outputs i d).text.now) l m → WhereKnown (HoldEach (take (i + 1) (texts outputs))) k m
    more_known None None None first second = tt
    more_known None None (Some z) first second = second
    more_known None (Some y) m first second = absurd first
    more_known (Some x) None m first second = absurd first
    more_known (Some x) (Some y) None first second = second
    more_known (Some x) (Some y) (Some z) first second = more x y z first second

    pub stop_known : (k l m : Option Holdings) → WhereKnown (HoldEach (take i (texts outputs))) k l → WhereKnown (HoldsFirst (get_or outputs i d).file.now (get_or outputs i d).text.now) l m → WhereKnown (StopAt (texts outputs) i) k m
    stop_known None None None first second = tt
    stop_known None None (Some z) first second = second
    stop_known None (Some y) m first second = absurd first
    stop_known (Some x) None m first second = absurd first
    stop_known (Some x) (Some y) None first second = second
    stop_known (Some x) (Some y) (Some z) first second = stop x y z first second

  -- What is known after a write was known before.
  known_before : (step : Holdings → Holdings → Type 0) (k l : Option Holdings) (P : Type 0) → WhereKnown step k l → OnSome l P → OnSome k P
  known_before step None l P taken p = tt
  known_before step (Some x) None P taken p = absurd taken
  known_before step (Some x) (Some y) P taken p = p

  pub failed : (k l : Option Holdings) (first mid after : FaultCounts) → mid ≡ first → WhereKnown (HoldEach (take i (texts outputs))) k l
      → Rose mid.faults after.faults → OnSome l (Rose (mid.writes (get_or outputs i d).file.now) (after.writes (get_or outputs i d).file.now)) → ChangesWrites (get_or outputs i d).file.now mid after
      → WriteFails k (text_at (texts outputs) i).0 first after
  failed k l first mid after calm known fault of_name only =
      let file = (get_or outputs i d).file.now in
      let before = known_before (HoldEach (take i (texts outputs))) k l (Rose (mid.writes file) (after.writes file)) known of_name in
      subst (λ f. WriteFails k f first after) file_is
      (subst (λ (c : FaultCounts). WriteFails k file c after) calm (record { fault = fault; failed_write = before; only = only }))
