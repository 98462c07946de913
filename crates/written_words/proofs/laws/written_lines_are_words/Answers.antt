use Rattle.written_words.specs.Laws.Seen.{lines_seen}
use Rattle.written_words.proofs.laws.written_lines_are_words.Goals as goal

pub returns : goal.returns
returns c = λ lines h. lines_seen lines h
