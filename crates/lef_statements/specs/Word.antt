-- Words of LEF and DEF that are known by their bytes.
use Rattle.std.specs.Prelude.{ℕ, Bool, false, List}
use Rattle.std.specs.Str.{bytes_eq}
use Rattle.reading.specs.declared.word.Form.{Form}
use Rattle.reading.specs.declared.word.Form.TheVariants.{Bare}
use Rattle.reading.specs.Word.{Token}

-- A bare word of these bytes.
abbrev pub is_word_with : List ℕ → Form → List ℕ → Bool
is_word_with bytes Bare text = bytes_eq text bytes
is_word_with bytes _ text = false

-- The word is the bare word of these bytes: a keyword, `;`, or a name. A word in quotes is none of them.
abbrev pub is_word : List ℕ → Token → Bool
is_word bytes word = is_word_with bytes word.form word.text
