use Rattle.pdn_script.proofs.read.read_script.Goals as goal

pub returns-in-Ok-read_into-clause-keeps : goal.returns-in-Ok-read_into-clause-keeps
returns-in-Ok-read_into-clause-keeps c = let h = c.in-Ok-read_into.ensures in c.script_of.ensures.keeps h.2 h.4
