use Rattle.network_texts.proofs.Checked.{CheckLaws, stand, tested, alone}
use Rattle.network_texts.proofs.laws.checked_as_written.Goals as goal

pub returns : goal.returns
returns c =
    let names = c.args.names.now in
    let laws : CheckLaws names = record {
      netlist = c.written_netlists_read_back.ensures.reads;
      merged = c.nothing_to_merge.ensures.merged;
      agree = c.nothing_to_merge.ensures.agree;
      certificate = c.written_certificates_read_back.ensures.reads;
      one = c.texts_have_one_certificate.ensures;
      once = c.texts_are_judged_once.ensures.one;
    } in
    record {
      stand = λ net notes high low can. stand names laws net notes high low can;
      tested = λ net notes high low can. tested names laws net notes high low can;
      alone = λ net notes high low netlist certificate answer can h other. alone names laws net notes high low can netlist certificate answer h other;
    }
