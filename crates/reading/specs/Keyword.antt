-- Keywords: words that a format knows by their bytes.
use Rattle.std.specs.Prelude.{ℕ, List, [], ◌∷◌, if◌then◌else◌}
use Rattle.std.specs.Str.{bytes_eq}

-- The sort of the first of these keywords that the text is, or the other sort where it is none. A keyword stands with
-- its sort.
abbrev pub keyword_or : {S : Type 0} → List (List ℕ × S) → S → List ℕ → S
keyword_or [] other text = other
keyword_or (keyword ∷ keywords) other text = if bytes_eq text keyword.0 then keyword.1
    else keyword_or keywords other text
