-- What stands in front of a text.
use Rattle.std.specs.Prelude.{◌≡◌, ◌≢◌, ◌⊎◌, ◌<◌, ◌≤◌, ℕ, Bool, true, false, IsTrue, List, [], ◌∷◌, ◌++◌, length, take, drop, slice_index, ◌&&◌, ◌==◌, ◌+◌, ◌-◌, if◌then◌else◌}
use Rattle.std.specs.List.{list_all}
use Rattle.text_lex.specs.Bytes.{backslash, carriage_return, close_brace, line_feed, number_sign, open_brace, quote, semicolon, is_script, has_quotes, has_comment, is_white, is_plain, begins_joined, count_of}
use Rattle.text_lex.specs.Piece.{Piece, spelled, spelled_word, IsPiece, IsWord, IsRefusedWord, IsNested}
use Rattle.text_lex.specs.Split.{words_in}
use Rattle.text_lex.specs.declared.word.Mode.{Mode}
use Rattle.outside.specs.declared.place.Place.{Place}
use Rattle.text_lex.specs.declared.word.Form.{Form}
use Rattle.text_lex.specs.declared.word.Form.TheVariants.{Bare, Quoted, Braced, Break, Semicolon}
use Rattle.text_lex.specs.declared.front.Front.{Front}
use Rattle.text_lex.specs.declared.front.Front.TheVariants.{End, Word, Refused}

-- So many bytes stand before the end of the first line.
pub record IsLineLen (text : List ℕ) (len : ℕ) : Type 0 where
  pub within : len ≤ length text
  pub inside : count_of line_feed (take len text) ≡ 0
  pub ends : (drop len text ≡ []) ⊎ (slice_index (drop len text) 0 ≡ line_feed)

-- A joined line in front has so many bytes, or none stands there.
pub record IsJoinedLen (text : List ℕ) (len : ℕ) : Type 0 where
  pub within : len ≤ length text
  pub none : len ≡ 0 → begins_joined text ≡ false
  pub some : 0 < len → (begins_joined text ≡ true)
      × ((take len text ≡ backslash ∷ line_feed ∷ []) ⊎ (take len text ≡ backslash ∷ carriage_return ∷ line_feed ∷ []))

-- So many plain bytes stand in front, and no more.
pub record IsPlainLen (mode : Mode) (text : List ℕ) (len : ℕ) : Type 0 where
  pub within : len ≤ length text
  pub plain : IsTrue (list_all (is_plain mode) (take len text))
  pub ends : len < length text → is_plain mode (slice_index text len) ≡ false

-- After a brace, the text is closed by the brace at a place.
pub record ClosesAt (text : List ℕ) (place : ℕ) : Type 0 where
  pub within : place < length text
  pub nested : IsNested (take place text)
  pub brace : slice_index text place ≡ close_brace

-- No white space, comment or joined line stands in front.
pub record BeginsWithWord (mode : Mode) (command_could_begin : Bool) (text : List ℕ) : Type 0 where
  pub not_white : 0 < length text → is_white mode (slice_index text 0) ≡ false
  pub not_comment : 0 < length text →
      (slice_index text 0 == number_sign && has_comment mode command_could_begin) ≡ false
  pub not_joined : 0 < length text → (is_script mode && begins_joined text) ≡ false

-- The first bytes of a text are a piece that is no word, with a line feed at most at its end.
pub record IsGap (mode : Mode) (command_could_begin : Bool) (text : List ℕ) (len : ℕ) (piece : Piece) : Type 0 where
  pub spelling : spelled piece ≡ take len text
  pub stands : IsPiece mode command_could_begin piece (drop len text)
  pub no_word : words_in piece ≡ 0
  pub feeds : count_of line_feed (spelled piece) ≡ (if slice_index text (len - 1) == line_feed then 1 else 0)

-- A gap with so many bytes stands in front, or none does.
pub record BeginsWithGap (mode : Mode) (command_could_begin : Bool) (text : List ℕ) (len : ℕ) : Type 0 where
  pub within : len ≤ length text
  pub none : len ≡ 0 → BeginsWithWord mode command_could_begin text
  pub some : 0 < len → (piece : Piece) × IsGap mode command_could_begin text len piece

-- What is found in front: nothing, a word with what stands after it, or a word that is refused.
abbrev pub IsInFront : Mode → Bool → List ℕ → Front → Type 0
IsInFront mode command_could_begin text End = text ≡ []
IsInFront mode command_could_begin text (Word form word rest) =
    IsWord mode command_could_begin form word.now rest.now × (text ≡ spelled_word form word.now ++ rest.now)
IsInFront mode command_could_begin text (Refused kind) = IsRefusedWord mode command_could_begin kind text

-- A word of one byte, with what stands after it.
abbrev pub IsSingle : Form → List ℕ → Front → Type 0
IsSingle form text End = ⊥
IsSingle form text (Word found word rest) = (found ≡ form) × (word.now ≡ take 1 text) × (rest.now ≡ drop 1 text)
IsSingle form text (Refused kind) = ⊥

-- No word of another form than a bare one begins here.
pub record BeginsNoOther (mode : Mode) (text : List ℕ) : Type 0 where
  pub some : 0 < length text
  pub feed : slice_index text 0 ≢ line_feed
  pub semicolon : is_script mode ≡ true → slice_index text 0 ≢ semicolon
  pub quote : has_quotes mode ≡ true → slice_index text 0 ≢ quote
  pub brace : is_script mode ≡ true → slice_index text 0 ≢ open_brace

-- The place after a word that has so many line feeds.
abbrev pub after_feeds : Place → ℕ → Place
after_feeds place feeds =
    if feeds == 0 then record { line = place.line; word = place.word + 1 }
    else record { line = place.line + feeds; word = 1 }

-- The line feeds in a word that is neither quoted nor braced: the one of a break, and none in a bare word or a `;`.
abbrev pub FeedsAs : Form → List ℕ → Type 0
FeedsAs Bare text = count_of line_feed text ≡ 0
FeedsAs Quoted text = Unit {0}
FeedsAs Braced text = Unit {0}
FeedsAs Break text = count_of line_feed text ≡ 1
FeedsAs Semicolon text = count_of line_feed text ≡ 0
