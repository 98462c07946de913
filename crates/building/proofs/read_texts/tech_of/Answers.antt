use Rattle.building.proofs.read_texts.tech_of.Goals as goal

pub returns-in-Ok-clause-names : goal.returns-in-Ok-clause-names
returns-in-Ok-clause-names c = c.read_techs_have_names.ensures.routing c.args.input.now.text.now c.in-Ok.tech c.in-Ok.ensures.reads
