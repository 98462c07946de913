-- The words of a text.
use Rattle.std.specs.Prelude.{◌≡◌, ◌+◌, ◌==◌, ℕ, Bool, true, if◌then◌else◌, List, [], ◌∷◌, ◌++◌, Option, None, Some, Result, Ok, Err}
use Rattle.outside.specs.declared.place.Place.{Place}
use Rattle.text_lex.specs.Bytes.{line_feed, count_of}
use Rattle.text_lex.specs.Piece.{Piece, White, Joined, Comment, Item, spelled, IsPiece, IsRefusedWord, command_after}
use Rattle.text_lex.specs.declared.word.Mode.{Mode}
use Rattle.text_lex.specs.declared.word.Form.{Form}
use Rattle.text_lex.specs.declared.word.Word.{Word}
use Rattle.text_lex.specs.declared.word.LexKind.{LexKind}
use Rattle.text_lex.specs.declared.word.LexError.{LexError}

-- A word without where it lies in memory.
pub record Token : Type 0 where
  pub text : List ℕ
  pub place : Place
  pub form : Form

abbrev pub token_of : Word → Token
token_of word = record { text = word.text.now; place = word.place; form = word.form }

-- Words in order, the place of what stands after the last of them, and why that is refused, or None where it is the end
-- of the text.
pub record Split : Type 0 where
  pub words : List Token
  pub last : Place
  pub refusal : Option LexKind

-- The text is these pieces, one after the other, and nothing more, or what follows them is refused for this reason.
abbrev pub IsMadeOf : Mode → Bool → List Piece → Option LexKind → List ℕ → Type 0
IsMadeOf mode command_could_begin [] None text = text ≡ []
IsMadeOf mode command_could_begin [] (Some kind) text = IsRefusedWord mode command_could_begin kind text
IsMadeOf mode command_could_begin (piece ∷ pieces) refusal text =
    (more : List ℕ) × (text ≡ spelled piece ++ more) × IsPiece mode command_could_begin piece more
    × IsMadeOf mode (command_after command_could_begin piece) pieces refusal more

-- How many words a piece is.
abbrev pub words_in : Piece → ℕ
words_in (White byte) = 0
words_in (Joined bytes) = 0
words_in (Comment text) = 0
words_in (Item form text) = 1

-- The place after a piece. Each line feed in it begins a line, whose words count from 1; else the line's next word
-- comes after a word.
abbrev pub place_after : Place → Piece → Place
place_after place piece =
    if count_of line_feed (spelled piece) == 0 then record { line = place.line; word = place.word + words_in piece }
    else record { line = place.line + count_of line_feed (spelled piece); word = 1 }

-- The words among pieces that begin at a place, each with its own place.
abbrev pub words_from : Place → List Piece → List Token
words_from place [] = []
words_from place (White byte ∷ pieces) = words_from (place_after place (White byte)) pieces
words_from place (Joined bytes ∷ pieces) = words_from (place_after place (Joined bytes)) pieces
words_from place (Comment text ∷ pieces) = words_from (place_after place (Comment text)) pieces
words_from place (Item form text ∷ pieces) =
    record { text = text; place = place; form = form } ∷ words_from (place_after place (Item form text)) pieces

-- The place after pieces that begin at a place.
abbrev pub last_from : Place → List Piece → Place
last_from place [] = place
last_from place (piece ∷ pieces) = last_from (place_after place piece) pieces

-- The bytes of pieces, one after the other.
abbrev pub text_of : List Piece → List ℕ
text_of [] = []
text_of (piece ∷ pieces) = spelled piece ++ text_of pieces

-- How many of these words begin on a line.
abbrev pub words_on : ℕ → List Token → ℕ
words_on line [] = 0
words_on line (word ∷ words) = (if word.place.line == line then 1 else 0) + words_on line words

-- What pieces that begin at a place are split into.
abbrev pub split_from : Place → List Piece → Option LexKind → Split
split_from place pieces refusal =
    record { words = words_from place pieces; last = last_from place pieces; refusal = refusal }

-- The first word of a text.
abbrev pub first_place : Place
first_place = record { line = 1; word = 1 }

-- The words of a text: the text is made of pieces, and these are the words among them.
abbrev pub IsSplit : Mode → List ℕ → Split → Type 0
IsSplit mode text split =
    (pieces : List Piece) × IsMadeOf mode true pieces split.refusal text
    × (split ≡ split_from first_place pieces split.refusal)

-- The words with one more in front.
abbrev pub with_front : Token → Split → Split
with_front token split = record { words = token ∷ split.words; last = split.last; refusal = split.refusal }

-- No word is left, and the text has ended there.
pub record IsAtEnd (split : Split) : Type 0 where
  pub words : split.words ≡ []
  pub refusal : split.refusal ≡ None

-- No word is left but the one that is refused.
pub record IsAtRefusal (split : Split) (error : LexError) : Type 0 where
  pub words : split.words ≡ []
  pub refusal : split.refusal ≡ Some error.kind
  pub place : split.last ≡ error.place

-- The place of the first of these words, or of what stands after them.
abbrev pub place_or : List Token → Place → Place
place_or [] last = last
place_or (word ∷ words) last = word.place

-- The place of what comes next: of the next word, of the word that is refused, or of the end of the text.
abbrev pub next_place : Split → Place
next_place split = place_or split.words split.last

-- What `next` answers, where `before` is what it had left at the call, and `after` what it has left then: the next
-- word; at the end of the text None, and again; at a refused word its refusal, and again.
abbrev pub NextIs : Split → Result (Option Word) LexError → Split → Type 0
NextIs before (Ok (Some word)) after = before ≡ with_front (token_of word) after
NextIs before (Ok None) after = IsAtEnd before × (after ≡ before)
NextIs before (Err error) after = IsAtRefusal before error × (after ≡ before)
