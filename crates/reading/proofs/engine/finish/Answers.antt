use Rattle.reading.proofs.engine.finish.Goals as goal

pub returns-in-Ok : goal.returns-in-Ok
returns-in-Ok g c = λ units few stands. (c.in-Ok.field-0, c.in-Ok.ensures.takes units few stands)

pub returns-in-Err : goal.returns-in-Err
returns-in-Err g c = λ units few stands. (c.in-Err.stop, c.in-Err.ensures.takes units few stands, c.refused.ensures)
