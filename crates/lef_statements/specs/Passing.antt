-- What the readers of LEF and DEF pass over, one word after the other: a statement to its `;`, a section to `END` and
-- its name, a group to `END`, and what other tools have added to `ENDEXT` (LEF/DEF 5.8 Language Reference).
use Rattle.std.specs.Prelude.{ℕ, Bool, List, Option, Some, None, codes, if◌then◌else◌}
use Rattle.lef_statements.specs.declared.passing.Passing.{Passing}
use Rattle.lef_statements.specs.declared.passing.Passing.TheVariants.{Statement, Section, SectionEnd, Group, Extension}
use Rattle.lef_statements.specs.Word.{is_word}
use Rattle.reading.specs.Word.{Token}

-- The same as before, unless this ends it.
abbrev pub unless : Bool → Passing → Option Passing
unless ends passing = if ends then None else Some passing

-- A section with this name after a word that does not end it.
abbrev pub section_after : List ℕ → Token → Passing
section_after name word = if is_word (codes "END") word then SectionEnd name else Section name

-- What is passed over after one more word of it, or nothing where it ends with the word.
abbrev pub passing_after : Passing → Token → Option Passing
passing_after Statement word = unless (is_word (codes ";") word) Statement
passing_after (Section name) word = Some (section_after name word)
passing_after (SectionEnd name) word = if is_word name word then None else Some (section_after name word)
passing_after Group word = unless (is_word (codes "END") word) Group
passing_after Extension word = unless (is_word (codes "ENDEXT") word) Extension
