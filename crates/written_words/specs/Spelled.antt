-- Lines of words as bytes, and as the words that a reader of DEF sees.
use Rattle.std.specs.Prelude.{◌≡◌, ℕ, suc, Bool, IsTrue, None, List, [], ◌∷◌, ◌++◌, map, flat_map}
use Rattle.std.specs.List.{join_with_byte}
use Rattle.outside.specs.declared.place.Place.{Place}
use Rattle.text_lex.specs.declared.word.Mode.TheVariants.{LefDef}
use Rattle.text_lex.specs.declared.word.Form.{Form}
use Rattle.text_lex.specs.declared.word.Form.TheVariants.{Bare, Quoted}
use Rattle.text_lex.specs.Bytes.{ends_bare}
use Rattle.text_lex.specs.Piece.{Item, spelled_word, IsPiece}
use Rattle.text_lex.specs.Split.{Split, IsSplit}
use Rattle.reading.specs.Word.{Token, form_of, end_at, seen_text}

-- A word of a line: its form, and its text without quotes.
pub record Written : Type 0 where
  pub form : Form
  pub text : List ℕ

abbrev pub bare : List ℕ → Written
bare text = record { form = Bare; text = text }

abbrev pub quoted : List ℕ → Written
quoted text = record { form = Quoted; text = text }

-- Its bytes.
abbrev pub spell : Written → List ℕ
spell w = spelled_word w.form w.text

-- It is one word of DEF, wherever it stands.
abbrev pub IsWritten : Written → Type 0
IsWritten w = (b : Bool) (more : List ℕ) → IsTrue (ends_bare LefDef more) → IsPiece LefDef b (Item w.form w.text) more

abbrev pub AreWritten : List Written → Type 0
AreWritten [] = Unit {0}
AreWritten (w ∷ ws) = IsWritten w × AreWritten ws

abbrev pub AllWritten : List (List Written) → Type 0
AllWritten [] = Unit {0}
AllWritten (line ∷ lines) = AreWritten line × AllWritten lines

-- The bytes of a line: its words with single blanks (32) between them, and the line feed (10).
abbrev pub bytes_of : List Written → List ℕ
bytes_of ws = join_with_byte 32 (map spell ws) ++ 10 ∷ []

abbrev pub text_bytes : List (List Written) → List ℕ
text_bytes lines = flat_map bytes_of lines

-- The words as a reader sees them, each at its place.
abbrev pub tokens : (ℕ → Place) → List Written → List Token
tokens f [] = []
tokens f (w ∷ ws) = record { text = w.text; place = f 0; form = form_of w.form } ∷ tokens (λ n. f (suc n)) ws

-- The split of a text: these words, each at its place, and the end of the text.
pub record IsSeen (bytes : List ℕ) (ws : List Written) : Type 0 where
  pub split : Split
  pub is : IsSplit LefDef bytes split
  pub whole : (seen_text split).refused ≡ None
  pub places : ℕ → Place
  pub end : Place
  pub words : (seen_text split).words ≡ tokens places ws ++ end_at end ∷ []
