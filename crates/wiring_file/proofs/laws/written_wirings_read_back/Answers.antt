use Rattle.std.proofs.Common.{Ok}
use Rattle.wiring_file.specs.Written.{wiring_text, wiring_with}
use Rattle.wiring_file.proofs.Digits.{Laws}
use Rattle.wiring_file.proofs.ReadBack.{reads_back}
use Rattle.wiring_file.proofs.laws.written_wirings_read_back.Goals as goal

pub returns : goal.returns
returns c =
    let laws : Laws = record {
      one = c.texts_have_one_number.ensures;
      answer = c.texts_have_one_answer.ensures.integer;
      signs = c.values_keep_signs.ensures.integer;
    } in
    let back = reads_back laws c.whole_wirings_are_read.ensures in
    record {
      reads = back;
      alone = λ head vias nets result can reads.
          c.texts_have_one_wiring.ensures (wiring_text head vias nets) (Ok (wiring_with vias nets)) result (back head vias nets can) reads;
    }
