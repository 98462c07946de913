-- What a byte means where words are split, in each mode: LEF and DEF as the LEF/DEF 5.8 Language Reference has it,
-- scripts by the rules of the Tcl manual on commands, words, quotes, braces, backslashes and comments, lines as SPICE
-- has them.
use Rattle.std.specs.Prelude.{ℕ, Bool, true, false, ◌&&◌, ◌||◌, ◌==◌, not, List, [], ◌∷◌, slice_index, ◌+◌, if◌then◌else◌}
use Rattle.text_lex.specs.declared.word.Mode.{Mode}
use Rattle.text_lex.specs.declared.word.Mode.TheVariants.{LefDef, Tcl, Lines}

-- Horizontal tab.
abbrev pub tab : ℕ
tab = 9

-- Line feed.
abbrev pub line_feed : ℕ
line_feed = 10

-- Carriage return.
abbrev pub carriage_return : ℕ
carriage_return = 13

-- Blank.
abbrev pub blank : ℕ
blank = 32

-- `"`.
abbrev pub quote : ℕ
quote = 34

-- `#`.
abbrev pub number_sign : ℕ
number_sign = 35

-- `$`.
abbrev pub dollar : ℕ
dollar = 36

-- `;`.
abbrev pub semicolon : ℕ
semicolon = 59

-- `[`.
abbrev pub open_bracket : ℕ
open_bracket = 91

-- `\`.
abbrev pub backslash : ℕ
backslash = 92

-- `{`.
abbrev pub open_brace : ℕ
open_brace = 123

-- `}`.
abbrev pub close_brace : ℕ
close_brace = 125

-- Whether the text is a script.
abbrev pub is_script : Mode → Bool
is_script LefDef = false
is_script Tcl = true
is_script Lines = false

-- Whether a `"` begins a quoted word.
abbrev pub has_quotes : Mode → Bool
has_quotes LefDef = true
has_quotes Tcl = true
has_quotes Lines = false

-- Whether a line feed ends a line or a command, and so is a word.
abbrev pub has_breaks : Mode → Bool
has_breaks LefDef = false
has_breaks Tcl = true
has_breaks Lines = true

-- Whether a `#` at the start of a word begins a comment; in a script only where a command could begin.
abbrev pub has_comment : Mode → Bool → Bool
has_comment LefDef command_could_begin = true
has_comment Tcl command_could_begin = command_could_begin
has_comment Lines command_could_begin = false

-- White space: blank, tab and carriage return, and the line feed where it ends nothing.
abbrev pub is_white : Mode → ℕ → Bool
is_white mode byte =
    byte == blank || byte == tab || byte == carriage_return || (byte == line_feed && not (has_breaks mode))

-- How often a byte stands in a text.
abbrev pub count_of : ℕ → List ℕ → ℕ
count_of byte [] = 0
count_of byte (b ∷ bs) = (if b == byte then 1 else 0) + count_of byte bs

-- Whether a text begins with a joined line: a backslash before a line feed, with or without a carriage return between
-- them.
abbrev pub begins_joined : List ℕ → Bool
begins_joined text =
    slice_index text 0 == backslash
    && (slice_index text 1 == line_feed || (slice_index text 1 == carriage_return && slice_index text 2 == line_feed))

-- Whether a text begins with what a script would substitute: `$`, `[`, or a backslash that joins no lines.
abbrev pub begins_substitution : List ℕ → Bool
begins_substitution text =
    slice_index text 0 == dollar || slice_index text 0 == open_bracket
    || (slice_index text 0 == backslash && not (begins_joined text))

-- Whether what a script would substitute stands anywhere in a text.
abbrev pub has_substitution : List ℕ → Bool
has_substitution [] = false
has_substitution (byte ∷ bytes) = begins_substitution (byte ∷ bytes) || has_substitution bytes

-- Whether a byte may stand in a bare word: in a script also no `;`, and nothing that is substituted or joins lines.
abbrev pub is_plain : Mode → ℕ → Bool
is_plain mode byte =
    not (is_white mode byte) && not (byte == line_feed)
    && not (is_script mode && (byte == semicolon || byte == dollar || byte == open_bracket || byte == backslash))

-- Whether a byte at the start of a word begins a bare word: no comment, no quote, and in a script no brace.
abbrev pub begins_bare : Mode → Bool → ℕ → Bool
begins_bare mode command_could_begin byte =
    not (byte == number_sign && has_comment mode command_could_begin) && not (byte == quote && has_quotes mode)
    && not (byte == open_brace && is_script mode)

-- Whether a bare word ends in front of these bytes: at the text's end, white space, a line feed, or in a script a `;`
-- or a joined line.
abbrev pub ends_bare : Mode → List ℕ → Bool
ends_bare mode [] = true
ends_bare mode (byte ∷ bytes) =
    is_white mode byte || byte == line_feed || (is_script mode && (byte == semicolon || begins_joined (byte ∷ bytes)))
