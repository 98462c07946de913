-- Patterns of words: which lists of words a unit may be. A format gives each of its words a sort, as a keyword or a
-- kind of word.
use Rattle.std.specs.Prelude.{Bool, List, [], ◌∷◌, ◌++◌, ◌≡◌, ◌⊎◌, true}
use Rattle.std.specs.List.{AllByRecursion}

pub data Pattern (S : Type 0) : Type 0 where
  -- No list of words.
  Never : Pattern S
  -- No words.
  Empty : Pattern S
  -- One word, whose sort is in this class.
  One : (S → Bool) → Pattern S
  -- The first, then the second.
  Then : Pattern S → Pattern S → Pattern S
  -- The first or the second.
  Or : Pattern S → Pattern S → Pattern S
  -- Any number of times.
  Many : Pattern S → Pattern S

-- The words of the parts, one after the other.
abbrev pub joined : {W : Type 0} → List (List W) → List W
joined [] = []
joined (x ∷ xs) = x ++ joined xs

-- The words, of these sorts, are of the pattern.
abbrev pub Matches : {W S : Type 0} → (W → S) → Pattern S → List W → Type 0
Matches sort Never words = ⊥
Matches sort Empty words = words ≡ []
Matches {W} sort (One class) words = (w : W) × (class (sort w) ≡ true) × (words ≡ w ∷ [])
Matches {W} sort (Then p q) words = (x : List W) × (y : List W) × Matches sort p x × Matches sort q y × (words ≡ x ++ y)
Matches sort (Or p q) words = Matches sort p words ⊎ Matches sort q words
Matches {W} sort (Many p) words = (parts : List (List W)) × AllByRecursion (Matches sort p) parts
    × (words ≡ joined parts)

-- The words are the first ones of some words of the pattern.
abbrev pub Begins : {W S : Type 0} → (W → S) → Pattern S → List W → Type 0
Begins {W} sort p words = (more : List W) × Matches sort p (words ++ more)
