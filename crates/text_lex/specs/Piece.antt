-- The pieces of which a text is made: words, and what stands between them.
use Rattle.std.specs.Prelude.{◌≡◌, ◌⊎◌, ◌≤◌, ◌<◌, ℕ, Bool, true, false, IsTrue, List, [], ◌∷◌, ◌++◌, length, take, slice_index}
use Rattle.std.specs.List.{list_all}
use Rattle.text_lex.specs.Bytes.{backslash, carriage_return, close_brace, line_feed, number_sign, open_brace, quote, semicolon, is_script, has_quotes, has_breaks, has_comment, is_white, count_of, begins_substitution, has_substitution, is_plain, begins_bare, ends_bare}
use Rattle.text_lex.specs.declared.word.Mode.{Mode}
use Rattle.text_lex.specs.declared.word.Form.{Form}
use Rattle.text_lex.specs.declared.word.Form.TheVariants.{Bare, Quoted, Braced, Break, Semicolon}
use Rattle.text_lex.specs.declared.word.LexKind.{LexKind}
use Rattle.text_lex.specs.declared.word.LexKind.TheVariants.{BadString, Substitution}

-- A white byte; a backslash with the bytes after it, to the line feed whose lines it joins; a comment, after its `#`; a
-- word, without its quotes or braces.
pub data Piece : Type 0 where
  White : ℕ → Piece
  Joined : List ℕ → Piece
  Comment : List ℕ → Piece
  Item : Form → List ℕ → Piece

-- The bytes of a word of a form, as it stands in the text.
abbrev pub spelled_word : Form → List ℕ → List ℕ
spelled_word Bare text = text
spelled_word Quoted text = quote ∷ text ++ quote ∷ []
spelled_word Braced text = open_brace ∷ text ++ close_brace ∷ []
spelled_word Break text = text
spelled_word Semicolon text = text

-- The bytes of a piece, as it stands in the text.
abbrev pub spelled : Piece → List ℕ
spelled (White byte) = byte ∷ []
spelled (Joined bytes) = backslash ∷ bytes
spelled (Comment bytes) = number_sign ∷ bytes
spelled (Item form text) = spelled_word form text

-- In no front of a text are more braces closed than opened.
abbrev pub ClosesNone : List ℕ → Type 0
ClosesNone text = (n : ℕ) → count_of close_brace (take n text) ≤ count_of open_brace (take n text)

-- The braces in a text nest: each that is opened is closed, and none is closed before it is opened.
pub record IsNested (text : List ℕ) : Type 0 where
  pub none_before : ClosesNone text
  pub each : count_of close_brace text ≡ count_of open_brace text

-- A bare word goes as far as its bytes are plain.
pub record IsBare (mode : Mode) (command_could_begin : Bool) (text more : List ℕ) : Type 0 where
  pub some : 0 < length text
  pub begins : IsTrue (begins_bare mode command_could_begin (slice_index text 0))
  pub plain : IsTrue (list_all (is_plain mode) text)
  pub ends : IsTrue (ends_bare mode more)

-- A quoted word goes to the next `"`, which may stand on a later line; in a script nothing in it is substituted.
pub record IsQuoted (mode : Mode) (text : List ℕ) : Type 0 where
  pub quotes : IsTrue (has_quotes mode)
  pub inside : count_of quote text ≡ 0
  pub kept : IsTrue (is_script mode) → has_substitution text ≡ false

-- A braced word of a script goes to the brace that closes its first one, whatever stands between them.
pub record IsBraced (mode : Mode) (text : List ℕ) : Type 0 where
  pub script : IsTrue (is_script mode)
  pub nested : IsNested text

-- A word of a form may have this text, where `more` stands after it.
abbrev pub IsWord : Mode → Bool → Form → List ℕ → List ℕ → Type 0
IsWord mode command_could_begin Bare text more = IsBare mode command_could_begin text more
IsWord mode command_could_begin Quoted text more = IsQuoted mode text
IsWord mode command_could_begin Braced text more = IsBraced mode text
IsWord mode command_could_begin Break text more = IsTrue (has_breaks mode) × (text ≡ line_feed ∷ [])
IsWord mode command_could_begin Semicolon text more = IsTrue (is_script mode) × (text ≡ semicolon ∷ [])

-- A comment goes to the end of its line, which is not part of it.
pub record IsComment (mode : Mode) (command_could_begin : Bool) (text more : List ℕ) : Type 0 where
  pub begins : IsTrue (has_comment mode command_could_begin)
  pub inside : count_of line_feed text ≡ 0
  pub ends : (more ≡ []) ⊎ (slice_index more 0 ≡ line_feed)

-- A piece may stand in a text of the mode, where `more` stands after it.
abbrev pub IsPiece : Mode → Bool → Piece → List ℕ → Type 0
IsPiece mode command_could_begin (White byte) more = IsTrue (is_white mode byte)
IsPiece mode command_could_begin (Joined bytes) more =
    IsTrue (is_script mode) × ((bytes ≡ line_feed ∷ []) ⊎ (bytes ≡ carriage_return ∷ line_feed ∷ []))
IsPiece mode command_could_begin (Comment text) more = IsComment mode command_could_begin text more
IsPiece mode command_could_begin (Item form text) more = IsWord mode command_could_begin form text more

-- A text begins with a quote that is closed nowhere.
pub record HasOpenQuote (mode : Mode) (text : List ℕ) : Type 0 where
  pub quotes : IsTrue (has_quotes mode)
  pub never : (more : List ℕ) × (text ≡ quote ∷ more) × (count_of quote more ≡ 0)

-- A script begins with a brace that is closed nowhere.
pub record HasOpenBrace (mode : Mode) (text : List ℕ) : Type 0 where
  pub script : IsTrue (is_script mode)
  pub never : (more : List ℕ) × (text ≡ open_brace ∷ more) × ClosesNone more

-- A script begins with a quoted word in which something is substituted.
pub record SubstitutesInQuotes (mode : Mode) (text : List ℕ) : Type 0 where
  pub script : IsTrue (is_script mode)
  pub inside : (word more : List ℕ) × (text ≡ quote ∷ word ++ quote ∷ more)
      × (count_of quote word ≡ 0) × IsTrue (has_substitution word)

-- A script begins with a bare word in which something is substituted, after plain bytes or none.
pub record SubstitutesInBare (mode : Mode) (command_could_begin : Bool) (text : List ℕ) : Type 0 where
  pub script : IsTrue (is_script mode)
  pub begins : IsTrue (begins_bare mode command_could_begin (slice_index text 0))
  pub inside : (word more : List ℕ) × (text ≡ word ++ more) × IsTrue (list_all (is_plain mode) word)
      × IsTrue (begins_substitution more)

-- The word with which a text begins is refused, and why.
abbrev pub IsRefusedWord : Mode → Bool → LexKind → List ℕ → Type 0
IsRefusedWord mode command_could_begin BadString text = HasOpenQuote mode text ⊎ HasOpenBrace mode text
IsRefusedWord mode command_could_begin Substitution text =
    SubstitutesInQuotes mode text ⊎ SubstitutesInBare mode command_could_begin text

-- Whether a command could begin after a word: after the end of a line or command.
abbrev pub ends_command : Form → Bool
ends_command Bare = false
ends_command Quoted = false
ends_command Braced = false
ends_command Break = true
ends_command Semicolon = true

-- Whether a command could begin after a piece: what stands between words changes nothing in this.
abbrev pub command_after : Bool → Piece → Bool
command_after command_could_begin (White byte) = command_could_begin
command_after command_could_begin (Joined bytes) = command_could_begin
command_after command_could_begin (Comment text) = command_could_begin
command_after command_could_begin (Item form text) = ends_command form
