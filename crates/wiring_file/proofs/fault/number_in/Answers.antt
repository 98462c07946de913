use Rattle.wiring_file.proofs.Heard.{tells_number, tells_none}
use Rattle.wiring_file.proofs.fault.number_in.Goals as goal

pub returns-in-Some : goal.returns-in-Some
returns-in-Some c = tells_number c.args.section c.args.n c.args.text.now c.in-Some.quantity c.number_of.result c.in-Some.ensures c.number_of.ensures

pub returns-in-None : goal.returns-in-None
returns-in-None c = tells_none c.args.section c.args.n c.args.text.now _ c.in-None.ensures
