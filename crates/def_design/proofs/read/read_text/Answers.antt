use Rattle.def_design.proofs.One.{design_read}
use Rattle.def_design.proofs.read.read_text.Goals as goal

pub returns-in-Ok-read_into-clause-reads : goal.returns-in-Ok-read_into-clause-reads
returns-in-Ok-read_into-clause-reads c =
    design_read c.args.wiring_refused c.args.text.now c.read_into.new.said c.in-Ok-read_into.field-0 c.design_of.result c.in-Ok-read_into.ensures c.design_of.ensures.is
    c.design_of.ensures.want
