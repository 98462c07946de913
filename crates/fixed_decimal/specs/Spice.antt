-- A number with a scale, as SPICE writes it: `1.5k`, `10MEG`, `3pF`.
use Rattle.std.specs.Prelude.{◌≡◌, ℕ, ◌*◌, ◌^◌, Bool, false, List, ◌++◌, length, take, All, codes, if◌then◌else◌}
use Rattle.std.specs.Char.{IsAsciiAlphabetic}
use Rattle.std.specs.Str.{str_eq_ignore_ascii_case}
use Rattle.fixed_decimal.specs.declared.scale.Scale.{Scale}
use Rattle.fixed_decimal.specs.Number.{Spelling, IsSpelling, spelling_text, Number, number_of}

-- The letters begin with this prefix, in either case.
abbrev pub begins_with : List ℕ → List ℕ → Bool
begins_with prefix letters = str_eq_ignore_ascii_case (take (length prefix) letters) prefix

-- The scale 10^power, and the scale 10^-power.
abbrev pub times : ℕ → Scale
times power = record { up = power; down = 0 }

abbrev pub over : ℕ → Scale
over power = record { up = 0; down = power }

-- The first scale that fits the letters after a number; other letters mean 1, and letters after the scale say nothing.
abbrev pub scale_of : List ℕ → Scale
scale_of letters =
    if begins_with (codes "meg") letters then times 6 else
    if begins_with (codes "t") letters then times 12 else
    if begins_with (codes "g") letters then times 9 else
    if begins_with (codes "k") letters then times 3 else
    if begins_with (codes "m") letters then over 3 else
    if begins_with (codes "u") letters then over 6 else
    if begins_with (codes "n") letters then over 9 else
    if begins_with (codes "p") letters then over 12 else
    if begins_with (codes "f") letters then over 15 else times 0

-- The number times its scale.
abbrev pub scaled : Number → Scale → Number
scaled number scale = record number {
  numerator = number.numerator * 10 ^ scale.up;
  denominator = number.denominator * 10 ^ scale.down;
}

-- What may stand after a number: letters only, which do not begin with MIL.
pub record IsScaleText (letters : List ℕ) : Type 0 where
  pub only_letters : All IsAsciiAlphabetic letters
  pub no_mil : begins_with (codes "mil") letters ≡ false

-- The text is a number and letters only, which do not begin with MIL. The number is the longest one at the front of the
-- text, since a number never ends with a letter.
pub record IsSpice (text : List ℕ) (number : Number) : Type 0 where
  pub spelling : Spelling
  pub letters : List ℕ
  pub form : IsSpelling spelling
  pub scale : IsScaleText letters
  pub is : text ≡ spelling_text spelling ++ letters
  pub value : number ≡ scaled (number_of spelling) (scale_of letters)
