-- The words of the splitter that are still to come.
use Rattle.std.specs.Prelude.{[], Bool, true, false, None}
use Rattle.text_lex.specs.Split.{Split}
use Rattle.reading.specs.Reading.{Text}
use Rattle.reading.specs.Word.{Token, seen_text}

-- What is left of it, where the end has been told or not.
abbrev pub words_to_come : Bool → Split → Text Token
words_to_come false split = seen_text split
words_to_come true split = record { words = []; refused = None }
