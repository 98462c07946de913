use Rattle.netlist_words.specs.Line.{line_of, line_start}
use Rattle.netlist_words.proofs.Parts.{begins_after}
use Rattle.netlist_words.proofs.word.from_first_word.Goals as goal

pub returns : goal.returns
returns c = begins_after (line_start (line_of c.args.line)) c.args.line.bytes.now c.run_len.result c.run_len.ensures
