use Rattle.std.proofs.Common.{Ok}
use Rattle.text_lex.specs.declared.word.Mode.TheVariants.{LefDef}
use Rattle.wiring_file.specs.Written.{wiring_text}
use Rattle.def_wiring.proofs.written.Words.{Laws}
use Rattle.def_wiring.proofs.written.Whole.{reads_as_wires}
use Rattle.def_wiring.proofs.written.Only.{only_wires}
use Rattle.def_wiring.proofs.laws.written_wires_are_read.Goals as goal

pub returns : goal.returns
returns c =
    let laws : Laws = record {
      one = c.texts_have_one_number.ensures;
      value = c.written_numbers_are_read.ensures.value;
      word = c.written_numbers_are_read.ensures.word;
    } in
    let reads = reads_as_wires laws c.written_lines_are_words.ensures c.whole_wires_are_read.ensures in
    record {
      reads = reads;
      alone = λ head vias nets wires result can is reading.
          c.texts_have_one_wiring.ensures (wiring_text head vias nets) (Ok wires) result (reads head vias nets wires can is) reading;
      only = only_wires laws (λ text a b. c.one_split.ensures.one LefDef text a b) c.written_lines_are_words.ensures;
    }
