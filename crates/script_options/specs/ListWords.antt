-- The words of a list: the value of an option that stands for several things.
use Rattle.std.specs.Prelude.{ℕ, Bool, false, ◌||◌, ◌==◌, List, [], ◌∷◌, ◌++◌, if◌then◌else◌}
use Rattle.text_lex.specs.Bytes.{blank, tab, carriage_return, line_feed, begins_joined}

-- White space stands in front: a blank, a tab, a carriage return, a line feed, or a backslash that joins lines.
abbrev pub separates : List ℕ → Bool
separates [] = false
separates (byte ∷ bytes) =
    byte == blank || byte == tab || byte == carriage_return || byte == line_feed || begins_joined (byte ∷ bytes)

-- A word has bytes.
abbrev pub ended : List ℕ → List (List ℕ)
ended [] = []
ended (byte ∷ bytes) = (byte ∷ bytes) ∷ []

-- The words of a list, where these bytes of a word stand before it.
abbrev pub words_after : List ℕ → List ℕ → List (List ℕ)
words_after word [] = ended word
words_after word (byte ∷ bytes) =
    if separates (byte ∷ bytes) then ended word ++ words_after [] bytes else words_after (word ++ byte ∷ []) bytes

-- The words of a list: the longest runs of bytes without white space.
abbrev pub words_of : List ℕ → List (List ℕ)
words_of text = words_after [] text
