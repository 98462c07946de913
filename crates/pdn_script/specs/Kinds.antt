-- The kinds of a script's refusals that are not its own.
use Rattle.pdn_script.specs.declared.error.ScriptKind.{ScriptKind}
use Rattle.pdn_script.specs.declared.error.ScriptKind.TheVariants as kind
use Rattle.reading.specs.Error.{Kinds}
use Rattle.text_lex.specs.declared.word.LexKind.{LexKind}
use Rattle.text_lex.specs.declared.word.LexKind.TheVariants.{BadString, Substitution}

-- A word that is refused for itself.
abbrev pub word_kind : LexKind → ScriptKind
word_kind BadString = kind.BadString
word_kind Substitution = kind.Substitution

abbrev pub kinds : Kinds ScriptKind
kinds = record { syntax = kind.Syntax; want = kind.Want; word = word_kind }
