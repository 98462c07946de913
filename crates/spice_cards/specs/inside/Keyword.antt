-- The first bytes of keywords.
use Rattle.std.specs.Prelude.{ℕ, ◌==◌, ◌||◌, Bool, false, List, [], ◌∷◌}

-- The text begins with `D`, `.`, `;`, `(` or `)`, as each keyword does.
abbrev pub begins_keyword : List ℕ → Bool
begins_keyword [] = false
begins_keyword (byte ∷ bytes) = byte == 68 || byte == 46 || byte == 59 || byte == 40 || byte == 41
