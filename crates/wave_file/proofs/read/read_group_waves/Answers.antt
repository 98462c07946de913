use Rattle.wave_file.proofs.read.read_group_waves.Goals as goal

pub returns-in-Ok-read_into-clause-reads : goal.returns-in-Ok-read_into-clause-reads
returns-in-Ok-read_into-clause-reads c =
    let h = c.in-Ok-read_into.ensures in
    (h.0, h.1, h.2, h.3, c.waves_of.ensures.is c.args.names.now h.2 h.4)

pub returns-in-Ok-read_into-clause-keeps : goal.returns-in-Ok-read_into-clause-keeps
returns-in-Ok-read_into-clause-keeps c =
    let h = c.in-Ok-read_into.ensures in
    c.waves_of.ensures.keeps c.args.names.now h.2 h.4
