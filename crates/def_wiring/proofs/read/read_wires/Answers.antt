use Rattle.std.proofs.Common.{ap}
use Rattle.def_wiring.specs.declared.error.Shown.{Shown}
use Rattle.def_wiring.proofs.One.{wires_read, wires_kept, wires_refused, wires_wanted}
use Rattle.reading.specs.declared.error.ReadError.{ReadError}
use Rattle.def_wiring.proofs.read.read_wires.Goals as goal

pub returns-in-Ok-read_into-clause-reads : goal.returns-in-Ok-read_into-clause-reads
returns-in-Ok-read_into-clause-reads c =
    wires_read c.args.text.now c.read_into.new.said c.in-Ok-read_into.field-0 c.wires_of.result c.in-Ok-read_into.ensures c.wires_of.ensures.is

pub returns-in-Ok-read_into-clause-keeps : goal.returns-in-Ok-read_into-clause-keeps
returns-in-Ok-read_into-clause-keeps c =
    wires_kept c.args.text.now c.read_into.new.said c.in-Ok-read_into.field-0 c.wires_of.result c.in-Ok-read_into.ensures c.wires_of.ensures.keeps

pub returns-in-Err-clause-reads : goal.returns-in-Err-clause-reads
returns-in-Err-clause-reads c =
    wires_refused c.args.text.now c.read_into.new.said c.in-Err.error c.public_error-in-Err.result c.in-Err.ensures c.public_error-in-Err.ensures

pub returns-in_default-clause-reads : goal.returns-in_default-clause-reads
returns-in_default-clause-reads c =
    wires_wanted c.args.text.now c.want.result c.public_error.result (ap (λ (z : ReadError Shown). z.kind) c.want.ensures) c.public_error.ensures
