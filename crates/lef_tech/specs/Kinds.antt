-- The kinds of refusals that are not found in the words of a statement.
use Rattle.lef_tech.specs.declared.error.TechKind.{TechKind}
use Rattle.lef_tech.specs.declared.error.TechKind.TheVariants.{Syntax, BadString, Want}
use Rattle.reading.specs.Error.{Kinds}

-- In LEF a word is refused for itself only where a `"` is not closed.
abbrev pub kinds : Kinds TechKind
kinds = record { syntax = Syntax; want = Want; word = λ kind. BadString }
