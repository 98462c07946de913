use Rattle.pdn_script.specs.declared.held.Held.{Held}
use Rattle.pdn_script.proofs.Taken.{taken}
use Rattle.pdn_script.proofs.format.ScriptFormatGrammar.take.Goals as goal

pub returns : goal.returns
returns c =
    let new : Held = record { lists = c.add.new.self; known = c.take_unit.new.self; alloc = c.args.said.now.alloc } in
    taken (record { lengths = c.numbers_keep_limits.ensures.lengths; widths = c.numbers_keep_limits.ensures.widths; counts = c.numbers_keep_limits.ensures.counts })
    c.take_unit.result c.args.said.now new c.args.unit.now c.in_ok-told.told c.in_ok-told.ensures c.in_ok-add.ensures c.take_unit.ensures
