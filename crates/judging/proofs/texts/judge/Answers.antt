use Rattle.judging.proofs.Judged.{from_lists, from_netlist}
use Rattle.judging.proofs.texts.judge.Goals as goal

pub returns-in-Ok : goal.returns-in-Ok
returns-in-Ok c =
    from_lists c.args.netlist.now c.args.certificate.now c.args.netlist_text.now c.args.certificate_text.now c.in-Ok.ensures.network.0 c.in-Ok.merged c.judge_lists.result
    c.in-Ok.ensures.network.1 c.judge_lists.ensures.one c.judge_lists.ensures.judged

pub returns-in-Err : goal.returns-in-Err
returns-in-Err c = from_netlist c.args.netlist.now c.args.certificate.now c.args.netlist_text.now c.args.certificate_text.now c.in-Err.answer c.in-Err.ensures.refused
