-- Inputs that are read one after the other.
use Rattle.std.proofs.Common.{◌≡◌, ◌≤◌, ◌<◌, ◌+◌, ℕ, zero, suc, List, [], ◌∷◌, ◌++◌, All, Option, Some, None, IfSome, take, length, map, get_or, sym, ap, subst, ◌∙◌, refl, arith}
use Rattle.std.proofs.lemmas.List.{take_more, map-append, get_or-map, length-map, take_all}
use Rattle.std.proofs.lemmas.List.Elements.{All-append}
use Rattle.std.specs.Borrow.{Bor}
use Rattle.outside.specs.Files.{Holdings, bytes_in}
use Rattle.input_files.specs.Inputs.{names_of, name_at, AreTextsOf, EachFits}

-- A list of one.
pub one : {A : Type 0} (P : A → Type 0) (a : A) → P a → All P (a ∷ [])
one P a holds zero d below = holds
one P a holds (suc k) d below = absurd (omega (arith, below))

-- What is said of what is known.
pub if_known : {M : Type 0} (known : Option M) (P : M → Type 0) → ((m : M) → known ≡ Some m → P m) → IfSome known P
if_known None P each = tt
if_known (Some m) P each = each m refl

pub of_known : {M : Type 0} (known : Option M) (P : M → Type 0) → IfSome known P → (m : M) → known ≡ Some m → P m
of_known known P holds m is = subst (λ k. IfSome k P) is holds

module _ (names : List (Bor (List ℕ))) (i : ℕ) (d : Bor (List ℕ)) (below : i < length names) where
  is_name : name_at (names_of names) i ≡ (get_or names i d).now
  is_name = get_or-map (λ (n : Bor (List ℕ)). n.now) names i d [] below

  within : i < length (names_of names)
  within = subst (λ n. i < n) (sym (length-map names (λ (n : Bor (List ℕ)). n.now))) below

  one_more : take (i + 1) (names_of names) ≡ take i (names_of names) ++ (get_or names i d).now ∷ []
  one_more = take_more (names_of names) i [] within ∙ ap (λ name. take i (names_of names) ++ name ∷ []) is_name

  -- One more text is read.
  pub more_texts : (held : Holdings) (texts : List (List ℕ)) (text : List ℕ) → texts ≡ map (bytes_in held) (take i (names_of names)) → text ≡ bytes_in held (get_or names i d).now
      → texts ++ text ∷ [] ≡ map (bytes_in held) (take (i + 1) (names_of names))
  more_texts held texts text are is =
      ap (λ all. all ++ text ∷ []) are ∙ ap (λ t. map (bytes_in held) (take i (names_of names)) ++ t ∷ []) is
      ∙ sym (ap (map (bytes_in held)) one_more ∙ map-append (bytes_in held) (take i (names_of names)) ((get_or names i d).now ∷ []))

  pub more_fit : (held : Holdings) (limit : ℕ) (text : List ℕ) → EachFits held limit (take i (names_of names)) → text ≡ bytes_in held (get_or names i d).now → length text ≤ limit
      → EachFits held limit (take (i + 1) (names_of names))
  more_fit held limit text fit is fits =
      subst (EachFits held limit) (sym one_more)
      (All-append (λ name. length (bytes_in held name) ≤ limit) (take i (names_of names)) ((get_or names i d).now ∷ []) fit
      (one (λ name. length (bytes_in held name) ≤ limit) (get_or names i d).now (subst (λ t. length t ≤ limit) is fits)))

-- All were read.
pub all_texts : (names : List (Bor (List ℕ))) (i : ℕ) (held : Holdings) (texts : List (List ℕ)) → length names ≤ i → texts ≡ map (bytes_in held) (take i (names_of names)) → AreTextsOf held (names_of names) texts
all_texts names i held texts end are =
    are ∙ ap (map (bytes_in held)) (take_all i (names_of names) (subst (λ n. n ≤ i) (sym (length-map names (λ (n : Bor (List ℕ)). n.now))) end))
