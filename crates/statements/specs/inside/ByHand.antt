-- Where the reader that is written by hand stands.
use Rattle.std.specs.Prelude.{◌≡◌, true, List, [], ◌∷◌}
use Rattle.reading.specs.Word.{Token}
use Rattle.statements.specs.declared.by_hand.Seen.{Seen}
use Rattle.statements.specs.declared.by_hand.Seen.TheVariants.{Nothing, Keyword, Name, Number}
use Rattle.statements.specs.declared.by_hand.Counter.{Counter}
use Rattle.statements.specs.Sort.{sort_of}
use Rattle.statements.specs.Rule.{is_set, is_name, is_number}
use Rattle.statements.specs.Record.{count_of}

-- What has been seen of the open statement is these words.
abbrev pub IsSeen : Seen → List Token → Type 0
IsSeen Nothing [] = Unit {0}
IsSeen Keyword (a ∷ []) = is_set (sort_of a) ≡ true
IsSeen Name (a ∷ b ∷ []) = (is_set (sort_of a) ≡ true) × (is_name (sort_of b) ≡ true)
IsSeen Number (a ∷ b ∷ c ∷ []) =
    (is_set (sort_of a) ≡ true) × (is_name (sort_of b) ≡ true) × (is_number (sort_of c) ≡ true)
IsSeen seen part = ⊥

-- The count is that of the statements among the whole units, and the open one has been seen so far.
abbrev pub Stands : Counter → List (List Token) → List Token → Type 0
Stands counter units part = (counter.count ≡ count_of units) × IsSeen counter.seen part
