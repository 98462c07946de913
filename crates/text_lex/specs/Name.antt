-- Names of LEF, DEF and scripts: what the LEF/DEF 5.8 Language Reference writes in the place of a name, as one word.
use Rattle.std.specs.Prelude.{◌≢◌, true, List, [], ℕ, codes}
use Rattle.text_lex.specs.Piece.{IsBare}
use Rattle.text_lex.specs.declared.word.Mode.TheVariants.{LefDef}

-- The bytes are one bare word of LEF and DEF, other than `;`.
abbrev pub IsName : List ℕ → Type 0
IsName text = IsBare LefDef true text [] × (text ≢ codes ";")
