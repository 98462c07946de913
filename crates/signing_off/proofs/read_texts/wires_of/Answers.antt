use Rattle.signing_off.proofs.read_texts.wires_of.Goals as goal

pub returns-in-Ok-clause-names : goal.returns-in-Ok-clause-names
returns-in-Ok-clause-names c = c.read_wires_have_names.ensures.nets c.args.input.now.text.now c.in-Ok.wires c.in-Ok.ensures.reads
