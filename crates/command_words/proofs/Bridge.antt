-- The settings of the contract and those of the parse.
use Rattle.std.proofs.Common.{◌≡◌, inl, inr, Bool, true, false, ◌∷◌, List, [], ◌++◌, map, Contains, refl, ◌∙◌, ap, is_some}
use Rattle.std.specs.Str.{bytes_eq}
use Rattle.clap.specs.Walk.{Text, first_of}
use Rattle.clap.specs.Takes.{is_given}
use Rattle.command_words.specs.Setting.{AreSettings, value_of}
use Rattle.command_words.specs.inside.Parsed.{dashed, dashed_all, known}
use Rattle.command_words.proofs.Taken.{AreSet, Raw, row_of_setting}

abbrev pub dash : Text × Text → Text × Text
dash s = (dashed s.0, s.1)

-- the value that the parse gives an option is the one that the settings give it
pub value_is : (ss : List (Text × Text)) (n : Text) → first_of n (map row_of_setting ss) ≡ value_of (map dash ss) (dashed n)
value_is [] n = refl
value_is (s ∷ ss) n = go (bytes_eq s.0 n) refl (value_is ss n)
  where
    go : (t : Bool) → bytes_eq s.0 n ≡ t → first_of n (map row_of_setting ss) ≡ value_of (map dash ss) (dashed n) → first_of n (map row_of_setting (s ∷ ss)) ≡ value_of (map dash (s ∷ ss)) (dashed n)
    go true e more = rw e refl
    go false e more = rw e more

pub given_is : (ss : List (Text × Text)) (n : Text) → is_given n (map row_of_setting ss) ≡ is_some (value_of (map dash ss) (dashed n))
given_is [] n = refl
given_is (s ∷ ss) n = go (bytes_eq s.0 n) refl (given_is ss n)
  where
    go : (t : Bool) → bytes_eq s.0 n ≡ t → is_given n (map row_of_setting ss) ≡ is_some (value_of (map dash ss) (dashed n)) → is_given n (map row_of_setting (s ∷ ss)) ≡ is_some (value_of (map dash (s ∷ ss)) (dashed n))
    go true e more = rw e refl
    go false e more = rw e more

pub back : (ns : List Text) (ss : List (Text × Text)) (words : List Text) → ((o : Text) → Contains (dashed_all ns) o → (n : Text) × (o ≡ dashed n) × (known ns n ≡ true)) → AreSettings (dashed_all ns) ss words
    → (settings : List (Text × Text)) × (ss ≡ map dash settings) × AreSet ns settings words
back ns [] words names h = ([], refl, h)
back ns (s ∷ ss) words names h =
    let n = names s.0 h.1 in
    let r = back ns ss h.0 names h.3 in
    let spelled : Raw n.0 s.1 words h.0 = elim h.2.spelled [
      | inl e ↦ inl (e ∙ ap (λ z. z ∷ s.1 ∷ h.0) n.1)
      | inr e ↦ inr (e ∙ ap (λ z. (z ++ (61 ∷ s.1)) ∷ h.0) n.1)
    ] in
    let same : ◌≡◌ {A = Text × Text} s (dashed n.0, s.1) = ap (λ (z : Text). let p : Text × Text = (z, s.1) in p) n.1 in
    ((n.0, s.1) ∷ r.0, ap (λ z. z ∷ ss) same ∙ ap (λ z. (dashed n.0, s.1) ∷ z) r.1, (h.0, n.2, h.2.is_value, spelled, r.2))
