use Rattle.signing_off.specs.Inputs.{wired_texts}
use Rattle.signing_off.specs.Reading.{IsUnread}
use Rattle.signing_off.proofs.Reading.{handed_on, at_cells, at_design, at_wires, at_bias}
use Rattle.signing_off.proofs.read_texts.read_all.Goals as goal

pub returns-in_err-bias-clause-refused : goal.returns-in_err-bias-clause-refused
returns-in_err-bias-clause-refused c =
    let t = wired_texts c.args.inputs.now in
    let answer = c.in_err-bias.field-0.0 in
    handed_on (IsUnread t) c.from_residual-in_err-bias.result answer c.from_residual-in_err-bias.ensures.1
    (at_bias t answer c.in_ok-tech.tech c.in_ok-tech.ensures.reads c.in_ok-cells.cells c.in_ok-cells.ensures.cells c.in_ok-design.design c.in_ok-design.ensures.reads c.in_ok-wires.wires c.in_ok-wires.ensures.reads c.in_err-bias.ensures.refused)

pub returns-in_err-wires-clause-refused : goal.returns-in_err-wires-clause-refused
returns-in_err-wires-clause-refused c =
    let t = wired_texts c.args.inputs.now in
    let answer = c.in_err-wires.field-0.0 in
    handed_on (IsUnread t) c.from_residual-in_err-wires.result answer c.from_residual-in_err-wires.ensures.1
    (at_wires t answer c.in_ok-tech.tech c.in_ok-tech.ensures.reads c.in_ok-cells.cells c.in_ok-cells.ensures.cells c.in_ok-design.design c.in_ok-design.ensures.reads c.in_err-wires.ensures.refused)

pub returns-in_err-design-clause-refused : goal.returns-in_err-design-clause-refused
returns-in_err-design-clause-refused c =
    let t = wired_texts c.args.inputs.now in
    let answer = c.in_err-design.field-0.0 in
    handed_on (IsUnread t) c.from_residual-in_err-design.result answer c.from_residual-in_err-design.ensures.1
    (at_design t answer c.in_ok-tech.tech c.in_ok-tech.ensures.reads c.in_ok-cells.cells c.in_ok-cells.ensures.cells c.in_err-design.ensures.refused)

pub returns-in_err-cells-clause-refused : goal.returns-in_err-cells-clause-refused
returns-in_err-cells-clause-refused c =
    let t = wired_texts c.args.inputs.now in
    let answer = c.in_err-cells.field-0.0 in
    handed_on (IsUnread t) c.from_residual-in_err-cells.result answer c.from_residual-in_err-cells.ensures.1
    (at_cells t answer c.in_ok-tech.tech c.in_ok-tech.ensures.reads c.in_err-cells.ensures.refused)
