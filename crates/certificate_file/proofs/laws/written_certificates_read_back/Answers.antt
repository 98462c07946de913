use Rattle.std.proofs.Common.{Ok}
use Rattle.certificate_file.specs.Record.{lists_of}
use Rattle.certificate_file.specs.Written.{certificate_text}
use Rattle.certificate_file.proofs.ReadBack.{reads_back}
use Rattle.certificate_file.proofs.laws.written_certificates_read_back.Goals as goal

pub returns : goal.returns
returns c =
    let names = c.args.names.now in
    let back = reads_back names c.texts_have_one_answer.ensures.integer c.whole_units_are_read.ensures.read_as in
    record {
      reads = back;
      alone = λ high low result can reads. c.texts_have_one_certificate.ensures (certificate_text names high low) (Ok (lists_of high low)) result (back high low can) reads;
    }
