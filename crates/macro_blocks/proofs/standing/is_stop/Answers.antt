use Rattle.std.proofs.Common.{sym, ◌∙◌}
use Rattle.macro_blocks.proofs.Keywords.{stop_word}
use Rattle.reading.specs.Word.{token}
use Rattle.macro_blocks.proofs.standing.is_stop.Goals as goal

pub returns : goal.returns
returns c = c.is_word.ensures ∙ sym (stop_word (token c.args.word.now))
