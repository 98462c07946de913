use Rattle.std.proofs.Common.{true}
use Rattle.text_lex.specs.Split.{first_place}
use Rattle.text_lex.specs.inside.Splitting.{words_left}
use Rattle.text_lex.proofs.Made.{words_left_split, split_one}
use Rattle.text_lex.proofs.laws.one_split.Goals as goal

pub returns-clause-some : goal.returns-clause-some
returns-clause-some c mode text = (words_left mode true first_place text, words_left_split mode text)

pub returns-clause-one : goal.returns-clause-one
returns-clause-one c mode text a b = split_one mode text a b
