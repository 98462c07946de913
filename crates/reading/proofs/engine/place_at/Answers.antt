use Rattle.reading.specs.Word.{token}
use Rattle.reading.proofs.Stepping.{place-before, place-after}
use Rattle.reading.proofs.engine.place_at.Goals as goal

pub returns-in-Some : goal.returns-in-Some
returns-in-Some g c =
    let found = c.in-Some.ensures.lookup in
    place-before c.args.before.now c.args.at c.in-Some.heard.now (token c.args.word.now) found.1 found.3.0

pub returns-in-None : goal.returns-in-None
returns-in-None g c =
    let found = c.in-None.ensures.lookup in
    place-after c.args.before.now c.args.at (token c.args.word.now) found.3 c.requires
