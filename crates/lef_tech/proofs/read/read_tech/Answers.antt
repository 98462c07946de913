use Rattle.lef_tech.proofs.read.read_tech.Goals as goal

pub returns-in-Ok-tech_in-clause-keeps : goal.returns-in-Ok-tech_in-clause-keeps
returns-in-Ok-tech_in-clause-keeps c = c.in-Ok-tech_in.ensures.keeps c.in-Ok-read_into.ensures.2 c.in-Ok-read_into.ensures.4
