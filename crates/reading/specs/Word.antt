-- The words of a text as a format sees them.
use Rattle.std.specs.Prelude.{ℕ, ◌+◌, ◌-◌, ◌^◌, min, List, zero, suc, [], ◌∷◌, Option, None, Some, ◌++◌, map}
use Rattle.outside.specs.declared.place.Place.{Place}
use Rattle.reading.specs.declared.word.Form.{Form}
use Rattle.reading.specs.declared.word.Word.{Word}
use Rattle.reading.specs.declared.word.Heard.{Heard}
use Rattle.text_lex.specs.declared.word.LexError.{LexError}
use Rattle.reading.specs.declared.word.Form.TheVariants.{End, Bare, Quoted, Braced, Break, Semicolon}
use Rattle.text_lex.specs.declared.word.Form.{Form as SplitForm}
use Rattle.text_lex.specs.Split.{Token as SplitToken, Split}
use Rattle.text_lex.specs.declared.word.LexKind.{LexKind}
use Rattle.reading.specs.Reading.{Text}
use Rattle.text_lex.specs.declared.word.Form.TheVariants as split

-- A word without where it lies in memory.
pub record Token : Type 0 where
  pub text : List ℕ
  pub place : Place
  pub form : Form

abbrev pub token : Word → Token
token word = record { text = word.text.now; place = word.place; form = word.form }

-- The word of which a format has made a value.
abbrev pub heard_token : {V : Type 0} → Heard V → Token
heard_token heard = token heard.word

-- The place of the word that has n words before it, or of the one that is refused for itself after all of them.
abbrev pub place_in : List Token → Option LexError → ℕ → Option Place
place_in [] None n = None
place_in [] (Some error) zero = Some error.place
place_in [] (Some error) (suc n) = None
place_in (w ∷ words) refused zero = Some w.place
place_in (w ∷ words) refused (suc n) = place_in words refused n

-- The end of a text, as a word.
abbrev pub end_at : Place → Token
end_at place = record { text = []; place = place; form = End }

-- The next place on the line. Numbers of words stand still at 2^64 - 1.
abbrev pub next_on_line : Place → Place
next_on_line place = record { line = place.line; word = min (place.word + 1) (2 ^ 64 - 1) }

-- The end of a text of these words, as a word: one word after the last of them.
abbrev pub end_after : List Token → Token
end_after [] = end_at (record { line = 1; word = 1 })
end_after (w ∷ []) = end_at (next_on_line w.place)
end_after (v ∷ w ∷ words) = end_after (w ∷ words)

-- A text that these words end, whatever bytes follow.
abbrev pub ended_text : List Token → Text Token
ended_text words = record { words = words ++ end_after words ∷ []; refused = None }

abbrev pub form_of : SplitForm → Form
form_of split.Bare = Bare
form_of split.Quoted = Quoted
form_of split.Braced = Braced
form_of split.Break = Break
form_of split.Semicolon = Semicolon

abbrev pub word_of : SplitToken → Token
word_of word = record { text = word.text; place = word.place; form = form_of word.form }

-- A text as a format sees it: the words of the splitter and the end of the text, or those before the word that the
-- splitter refuses.
abbrev pub text_with : List Token → Place → Option LexKind → Text Token
text_with words last None = record { words = words ++ end_at last ∷ []; refused = None }
text_with words last (Some kind) = record { words = words; refused = Some (record { place = last; kind = kind }) }

abbrev pub seen_text : Split → Text Token
seen_text split = text_with (map word_of split.words) split.last split.refusal

-- The last of these words, if there is one.
abbrev pub last_of : List Token → Option Token
last_of [] = None
last_of (word ∷ []) = Some word
last_of (word ∷ next ∷ words) = last_of (next ∷ words)
