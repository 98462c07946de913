-- The words of a text, computed. This is what a `Words` shows; that these are the words of the text is what
-- `Words::new` promises.
use Rattle.std.specs.Prelude.{ℕ, zero, suc, ◌+◌, ◌-◌, ◌<◌, ◌^◌, Bool, ◌&&◌, ◌==◌, cond, List, [], ◌∷◌, length, drop, Option, None, Some, Result, Ok, Err, slice_index}
use Rattle.outside.specs.declared.place.Place.{Place}
use Rattle.text_lex.specs.Bytes.{is_script, has_quotes, has_comment, is_white, begins_joined, begins_substitution, has_substitution, is_plain}
use Rattle.text_lex.specs.Piece.{Piece, White, Joined, Comment, Item, spelled, command_after}
use Rattle.text_lex.specs.Split.{Split, split_from}
use Rattle.text_lex.specs.declared.word.Mode.{Mode}
use Rattle.text_lex.specs.declared.word.Form.TheVariants.{Bare, Quoted, Braced, Break, Semicolon}
use Rattle.text_lex.specs.declared.word.LexKind.{LexKind}
use Rattle.text_lex.specs.declared.word.LexKind.TheVariants.{BadString, Substitution}
use Rattle.text_lex.specs.declared.word.LexError.{LexError}

-- The bytes with one more in front, where there are some.
abbrev pub after_byte : ℕ → Option (List ℕ) → Option (List ℕ)
after_byte byte None = None
after_byte byte (Some bytes) = Some (byte ∷ bytes)

-- The bytes before the first one of a kind, where that stands in the text.
unfoldable pub before_byte : ℕ → List ℕ → Option (List ℕ)
before_byte byte [] = None
before_byte byte (b ∷ bs) = cond (b == byte) (Some []) (after_byte b (before_byte byte bs))

-- The bytes before the brace that closes one more than `open` others.
unfoldable pub before_brace : ℕ → List ℕ → Option (List ℕ)
before_brace open_braces [] = None
before_brace open_braces (b ∷ bs) =
    cond (b == 123) (after_byte b (before_brace (suc open_braces) bs))
    (cond (b == 125) (cond (open_braces == 0) (Some []) (after_byte b (before_brace (open_braces - 1) bs)))
    (after_byte b (before_brace open_braces bs)))

-- The bytes before the first line feed.
unfoldable pub line_of : List ℕ → List ℕ
line_of [] = []
line_of (b ∷ bs) = cond (b == 10) [] (b ∷ line_of bs)

-- The plain bytes in front.
unfoldable pub plain_of : Mode → List ℕ → List ℕ
plain_of mode [] = []
plain_of mode (b ∷ bs) = cond (is_plain mode b) (b ∷ plain_of mode bs) []

abbrev pub quoted_piece : Mode → Option (List ℕ) → Result Piece LexKind
quoted_piece mode None = Err BadString
quoted_piece mode (Some text) =
    cond (is_script mode && has_substitution text) (Err Substitution) (Ok (Item Quoted text))

abbrev pub braced_piece : Option (List ℕ) → Result Piece LexKind
braced_piece None = Err BadString
braced_piece (Some text) = Ok (Item Braced text)

abbrev pub bare_piece : Mode → List ℕ → Result Piece LexKind
bare_piece mode text =
    cond (is_script mode && begins_substitution (drop (length (plain_of mode text)) text))
    (Err Substitution) (Ok (Item Bare (plain_of mode text)))

abbrev pub joined_piece : List ℕ → Result Piece LexKind
joined_piece bytes = Ok (Joined (cond (slice_index bytes 0 == 10) (10 ∷ []) (13 ∷ 10 ∷ [])))

-- The piece that begins with a byte and those after it, or why the word there is refused.
unfoldable pub piece_at : Mode → Bool → ℕ → List ℕ → Result Piece LexKind
piece_at mode opens b bs =
    cond (is_white mode b) (Ok (White b))
    (cond (b == 35 && has_comment mode opens) (Ok (Comment (line_of bs)))
    (cond (b == 10) (Ok (Item Break (10 ∷ [])))
    (cond (b == 34 && has_quotes mode) (quoted_piece mode (before_byte 34 bs))
    (cond (is_script mode && begins_joined (b ∷ bs)) (joined_piece bs)
    (cond (is_script mode && b == 59) (Ok (Item Semicolon (59 ∷ [])))
    (cond (is_script mode && b == 123) (braced_piece (before_brace 0 bs)) (bare_piece mode (b ∷ bs))))))))

-- Pieces, and why what follows them is refused, or None where they are all.
pub record Pieces : Type 0 where
  pub pieces : List Piece
  pub refusal : Option LexKind

abbrev pub with_piece : Piece → Pieces → Pieces
with_piece piece others = record { pieces = piece ∷ others.pieces; refusal = others.refusal }

-- The pieces of a text after its first `skip` bytes.
unfoldable pub pieces_of : Mode → Bool → ℕ → List ℕ → Pieces
pieces_of mode opens skip [] = record { pieces = []; refusal = None }
pieces_of mode opens (suc skip) (b ∷ bs) = pieces_of mode opens skip bs
pieces_of mode opens zero (b ∷ bs) =
    elim (piece_at mode opens b bs) [
      | Ok piece ↦ with_piece piece (pieces_of mode (command_after opens piece) (length (spelled piece) - 1) bs)
      | Err kind ↦ record { pieces = []; refusal = Some kind }
    ]

-- The words of a text that begins at a place.
abbrev pub words_left : Mode → Bool → Place → List ℕ → Split
words_left mode opens place text =
    let made = pieces_of mode opens 0 text in split_from place made.pieces made.refusal

-- The words that are left: none after a refusal.
abbrev pub words_after : Mode → Bool → Place → List ℕ → Option LexError → Split
words_after mode opens place text None = words_left mode opens place text
words_after mode opens place text (Some error) = record { words = []; last = error.place; refusal = Some error.kind }

-- The places in a text can be counted.
pub record CanCount (place : Place) (text : List ℕ) : Type 0 where
  pub lines : place.line + length text < 2 ^ 64
  pub words : place.word + length text < 2 ^ 64
